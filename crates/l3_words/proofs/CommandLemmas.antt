-- What the words ask for, by what clap's rule says of them.
use Rattle.std.proofs.Common.{◌≡◌, ◌∙◌, ap, sym, refl, ℕ, Bool, true, false, List, [], ◌∷◌, codes}
use Rattle.std.specs.Prelude.{Option, Some, None, Result, Err, option_map, if◌then◌else◌}
use Rattle.clap.specs.Kinds.{Kinds}
use Rattle.clap.specs.Words.{App, Row, Text, fault_of, matches_of}
use Rattle.l3_words.specs.declared.command.Command.{Command}
use Rattle.l3_words.specs.declared.command.Command.TheVariants.{Check, Demo, Encode}
use Rattle.l3_words.specs.declared.command.CommandWord.TheVariants as word
use Rattle.l3_words.specs.declared.command.EncoderOptions.{EncoderOptions}
use Rattle.l3_words.specs.Words.{check_app, check_of, command_by, command_of, demo_app, demo_by, demo_of, encode_app, encode_by, encode_of, flag_in, is_taken, no_faults, number_in, options_in, word_of}

some_faults : (kinds : Kinds) → (kinds ≡ [] → ⊥) → no_faults kinds ≡ false
some_faults [] some = absurd (some refl)
some_faults (kind ∷ kinds) some = refl

taken : (app : App) (words : List Text) → fault_of app words ≡ [] → is_taken app words ≡ true
unfolding is_taken
taken app words none = rw none refl

refused : (app : App) (words : List Text) → (fault_of app words ≡ [] → ⊥) → is_taken app words ≡ false
unfolding is_taken
refused app words some = some_faults (fault_of app words) some

chosen : (b : Bool) (found : Option Command) → b ≡ true → (if b then found else None) ≡ found
chosen b found is = rw is refl

dropped : (b : Bool) (found : Option Command) → b ≡ false → (if b then found else None) ≡ None
dropped b found is = rw is refl

-- the same fault of answers of two types
pub same_err : {T U E : Type 0} (one other : E) → ◌≡◌ {A = Result T E} (Err one) (Err other) → ◌≡◌ {A = Result U E} (Err one) (Err other)
same_err {T} {U} {E} one other same = let is : one ≡ other = cc in ap Err is

is_taken_by : (app wanted : App) (words : List Text) → app ≡ wanted → fault_of app words ≡ [] → is_taken wanted words ≡ true
is_taken_by app wanted words is none = rw is at (taken app words none)

is_refused_by : (app wanted : App) (words : List Text) → app ≡ wanted → (fault_of app words ≡ [] → ⊥) → is_taken wanted words ≡ false
is_refused_by app wanted words is some = rw is at (refused app words some)

same_rows : (app wanted : App) (words : List Text) (rows : List Row) → app ≡ wanted → rows ≡ matches_of app words → matches_of wanted words ≡ rows
same_rows app wanted words rows is same = ap (λ a. matches_of a words) (sym is) ∙ sym same

-- ---- `check`

pub check_taken : (app : App) (words : List Text) → app ≡ check_app → fault_of app words ≡ [] → check_of words ≡ Some Check
unfolding check_of
check_taken app words is none = chosen (is_taken check_app words) (Some Check) (is_taken_by app check_app words is none)

pub check_refused : (app : App) (words : List Text) → app ≡ check_app → (fault_of app words ≡ [] → ⊥) → check_of words ≡ None
unfolding check_of
check_refused app words is some = dropped (is_taken check_app words) (Some Check) (is_refused_by app check_app words is some)

-- ---- `encode`

pub encode_refused : (guessers : ℕ) (app : App) (words : List Text) → app ≡ encode_app → (fault_of app words ≡ [] → ⊥) → encode_of guessers words ≡ None
unfolding encode_of
encode_refused guessers app words is some = dropped (is_taken encode_app words) (encode_by guessers (matches_of encode_app words)) (is_refused_by app encode_app words is some)

encode_taken : (guessers : ℕ) (app : App) (words : List Text) (rows : List Row) → app ≡ encode_app → fault_of app words ≡ [] → rows ≡ matches_of app words →
    encode_of guessers words ≡ encode_by guessers rows
unfolding encode_of
encode_taken guessers app words rows is none same =
    chosen (is_taken encode_app words) (encode_by guessers (matches_of encode_app words)) (is_taken_by app encode_app words is none)
    ∙ ap (encode_by guessers) (same_rows app encode_app words rows is same)

pub encode_some : (guessers : ℕ) (app : App) (words : List Text) (rows : List Row) (options : EncoderOptions) (stats : Bool) → app ≡ encode_app → fault_of app words ≡ [] →
    rows ≡ matches_of app words → Some options ≡ options_in guessers rows → stats ≡ flag_in rows (codes "stats") →
    encode_of guessers words ≡ Some (Encode (record { options = options; stats = stats }))
encode_some guessers app words rows options stats is none same found flag =
    encode_taken guessers app words rows is none same
    ∙ ap (option_map (λ o. Encode (record { options = o; stats = flag_in rows (codes "stats") }))) (sym found)
    ∙ ap (λ s. Some (Encode (record { options = options; stats = s }))) (sym flag)

pub encode_none : (guessers : ℕ) (app : App) (words : List Text) (rows : List Row) → app ≡ encode_app → fault_of app words ≡ [] →
    rows ≡ matches_of app words → None ≡ options_in guessers rows → encode_of guessers words ≡ None
encode_none guessers app words rows is none same found =
    encode_taken guessers app words rows is none same
    ∙ ap (option_map (λ o. Encode (record { options = o; stats = flag_in rows (codes "stats") }))) (sym found)

-- ---- `demo`

pub demo_refused : (guessers : ℕ) (app : App) (words : List Text) → app ≡ demo_app → (fault_of app words ≡ [] → ⊥) → demo_of guessers words ≡ None
unfolding demo_of
demo_refused guessers app words is some = dropped (is_taken demo_app words) (demo_by guessers (matches_of demo_app words)) (is_refused_by app demo_app words is some)

demo_taken : (guessers : ℕ) (app : App) (words : List Text) (rows : List Row) → app ≡ demo_app → fault_of app words ≡ [] → rows ≡ matches_of app words →
    demo_of guessers words ≡ demo_by guessers rows
unfolding demo_of
demo_taken guessers app words rows is none same =
    chosen (is_taken demo_app words) (demo_by guessers (matches_of demo_app words)) (is_taken_by app demo_app words is none)
    ∙ ap (demo_by guessers) (same_rows app demo_app words rows is same)

pub demo_some : (guessers : ℕ) (app : App) (words : List Text) (rows : List Row) (options : EncoderOptions) (frames seed : ℕ) → app ≡ demo_app → fault_of app words ≡ [] →
    rows ≡ matches_of app words → Some options ≡ options_in guessers rows → frames ≡ number_in rows (codes "FRAMES") 1 100000 → seed ≡ number_in rows (codes "SEED") 0 4294967295 →
    demo_of guessers words ≡ Some (Demo (record { options = options; frames = frames; seed = seed }))
demo_some guessers app words rows options frames seed is none same found first second =
    demo_taken guessers app words rows is none same
    ∙ ap (option_map (λ o. Demo (record { options = o; frames = number_in rows (codes "FRAMES") 1 100000; seed = number_in rows (codes "SEED") 0 4294967295 }))) (sym found)
    ∙ ap (λ n. Some (Demo (record { options = options; frames = n; seed = number_in rows (codes "SEED") 0 4294967295 }))) (sym first)
    ∙ ap (λ n. Some (Demo (record { options = options; frames = frames; seed = n }))) (sym second)

pub demo_none : (guessers : ℕ) (app : App) (words : List Text) (rows : List Row) → app ≡ demo_app → fault_of app words ≡ [] →
    rows ≡ matches_of app words → None ≡ options_in guessers rows → demo_of guessers words ≡ None
demo_none guessers app words rows is none same found =
    demo_taken guessers app words rows is none same
    ∙ ap (option_map (λ o. Demo (record { options = o; frames = number_in rows (codes "FRAMES") 1 100000; seed = number_in rows (codes "SEED") 0 4294967295 }))) (sym found)

-- ---- the first word

pub no_word : (guessers : ℕ) (words : List Text) → None ≡ word_of words → command_of guessers words ≡ None
unfolding command_of
no_word guessers words is = ap (command_by guessers words) (sym is)

pub encode_word : (guessers : ℕ) (words : List Text) → Some word.Encode ≡ word_of words → command_of guessers words ≡ encode_of guessers words
unfolding command_of
encode_word guessers words is = ap (command_by guessers words) (sym is)

pub check_word : (guessers : ℕ) (words : List Text) → Some word.Check ≡ word_of words → command_of guessers words ≡ check_of words
unfolding command_of
check_word guessers words is = ap (command_by guessers words) (sym is)

pub demo_word : (guessers : ℕ) (words : List Text) → Some word.Demo ≡ word_of words → command_of guessers words ≡ demo_of guessers words
unfolding command_of
demo_word guessers words is = ap (command_by guessers words) (sym is)
