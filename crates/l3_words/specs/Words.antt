-- The words of the command line that are taken, and what they ask for. A word is the list of its
-- bytes.
use Rattle.std.specs.Prelude.{◌≡◌, ◌==◌, ◌^◌, ◌&&◌, ◌||◌, ℕ, Bool, true, false, nat_lt, nat_le, min, max, List, [], ◌∷◌, map, find}
use Rattle.std.specs.Prelude.{Option, Some, None, option_and_then, option_map, unwrap_or, codes, pos, if◌then◌else◌}
use Rattle.std.specs.Borrow.{Bor}
use Rattle.std.specs.Option.{option_map_or}
use Rattle.std.specs.Str.{bytes_eq}
use Rattle.std.specs.Str.Parse.{digits_value, without_leading_plus}
use Rattle.clap.specs.Kinds.{Kinds}
use Rattle.clap.specs.ValueTests.{is_numeral}
use Rattle.clap.specs.Words.{App, Rule, Row, Text, fault_of, first_of, matches_of, new_app, new_rule, one_of, with_rule}
use Rattle.clap.specs.declared.builder.action.ArgAction.TheVariants.{Set, SetTrue}
use Rattle.clap.specs.declared.builder.value_parser.ValueParser.{ValueParser}
use Rattle.clap.specs.declared.builder.value_parser.ValueParser.TheVariants.{Signed}
use Rattle.l3_base.specs.declared.rate.Rate.{Rate}
use Rattle.l3_base.specs.declared.rate.Rate.TheVariants.{K32, K40, K48, K56, K64, K80, K96, K112, K128, K160, K192, K224, K256, K320}
use Rattle.l3_base.specs.Rates.{kbits_of}
use Rattle.l3_words.specs.declared.command.Command.{Command}
use Rattle.l3_words.specs.declared.command.Command.TheVariants.{Encode, Check, Demo}
use Rattle.l3_words.specs.declared.command.CommandWord.{CommandWord}
use Rattle.l3_words.specs.declared.command.CommandWord.TheVariants as word
use Rattle.l3_words.specs.declared.command.EncoderOptions.{EncoderOptions}

-- ---- what each command takes, as clap's rule for simple commands reads it

-- an option with one value and a default
abbrev pub number_rule : Text → ValueParser → Text → Rule
number_rule name parser default = record (new_rule name) {
  long = Some name;
  action = Some Set;
  parser = Some parser;
  defaults = default ∷ [];
}

-- an option without a value
abbrev pub flag_rule : Text → Rule
flag_rule name = record (new_rule name) { long = Some name; action = Some SetTrue }

-- a number that has to be there, by its place
abbrev pub place_rule : Text → ValueParser → Rule
place_rule name parser = record (new_rule name) { action = Some Set; parser = Some parser; required = true }

-- a command without help and version flags
abbrev pub bare_app : Text → App
bare_app name = let a = new_app name in
    record a { top = record a.top { disable_help_flag = true; disable_version_flag = true } }

-- the options of an encoder, behind what is there
abbrev pub with_options : App → App
with_options app = with_rule (with_rule (with_rule (with_rule app
    (number_rule (codes "rate") (Signed (pos 0) (pos 4294967295)) (codes "128")))
    (number_rule (codes "workers") (Signed (pos 0) (pos 16)) (codes "4")))
    (number_rule (codes "ahead") (Signed (pos 1) (pos 64)) (codes "16")))
    (number_rule (codes "guess") (Signed (pos 0) (pos 255)) (codes "1"))

-- `encode`
abbrev pub encode_app : App
encode_app = with_rule (with_options (bare_app (codes "encode"))) (flag_rule (codes "stats"))

-- `check`
abbrev pub check_app : App
check_app = bare_app (codes "check")

-- `demo`
abbrev pub demo_app : App
demo_app = with_options (with_rule (with_rule (bare_app (codes "demo"))
    (place_rule (codes "FRAMES") (Signed (pos 1) (pos 100000))))
    (place_rule (codes "SEED") (Signed (pos 0) (pos 4294967295))))

abbrev pub no_faults : Kinds → Bool
no_faults [] = true
no_faults (kind ∷ kinds) = false

-- clap's rule takes the words
unfoldable pub is_taken : App → List Text → Bool
is_taken app words = no_faults (fault_of app words)

-- ---- what the words say of an option

-- the number that a text writes, below 2^32
abbrev pub number_of : Text → Option ℕ
number_of text = let digits = without_leading_plus text in
    if is_numeral digits && nat_lt (digits_value 10 digits) (2 ^ 32) then Some (digits_value 10 digits) else None

-- the number of an option, cut to its range, in which clap's rule keeps it
abbrev pub number_in : List Row → Text → (least most : ℕ) → ℕ
number_in rows name least most = max least (min (unwrap_or (option_and_then number_of (one_of name rows)) 0) most)

-- the flag is given
abbrev pub flag_in : List Row → Text → Bool
flag_in rows name = option_map_or (λ text. bytes_eq text (codes "true")) (first_of name rows) false

-- the fourteen rates of MPEG-1 Layer III
abbrev pub rates : List Rate
rates = K32 ∷ K40 ∷ K48 ∷ K56 ∷ K64 ∷ K80 ∷ K96 ∷ K112 ∷ K128 ∷ K160 ∷ K192 ∷ K224 ∷ K256 ∷ K320 ∷ []

-- the one of so many kbit/s
unfoldable pub rate_of : ℕ → Option Rate
rate_of kbits = find (λ rate. kbits_of rate == kbits) rates

abbrev pub rate_in : List Row → Option Rate
rate_in rows = rate_of (number_in rows (codes "rate") 0 4294967295)

-- with at least one worker, the guess asks for a guesser that there is: for one of them by its
-- number from 1, or for all by 0
abbrev pub fits : ℕ → EncoderOptions → Bool
fits guessers options = (options.workers == 0) || (nat_lt 0 guessers && nat_le options.guess guessers)

abbrev pub options_at : List Row → Rate → EncoderOptions
options_at rows rate = record {
  rate = rate;
  workers = number_in rows (codes "workers") 0 16;
  ahead = number_in rows (codes "ahead") 1 64;
  guess = number_in rows (codes "guess") 0 255;
}

abbrev pub if_fit : ℕ → EncoderOptions → Option EncoderOptions
if_fit guessers options = if fits guessers options then Some options else None

-- an encoder's options, where the rate is one of the fourteen and the guess fits
abbrev pub options_in : ℕ → List Row → Option EncoderOptions
options_in guessers rows = option_and_then (λ rate. if_fit guessers (options_at rows rate)) (rate_in rows)

-- ---- the command

abbrev pub encode_by : ℕ → List Row → Option Command
encode_by guessers rows = option_map (λ options. Encode (record { options = options; stats = flag_in rows (codes "stats") })) (options_in guessers rows)

abbrev pub demo_by : ℕ → List Row → Option Command
demo_by guessers rows = option_map (λ options. Demo (record {
  options = options;
  frames = number_in rows (codes "FRAMES") 1 100000;
  seed = number_in rows (codes "SEED") 0 4294967295;
})) (options_in guessers rows)

-- the command of words that begin with `encode`, `check` or `demo`
unfoldable pub encode_of : ℕ → List Text → Option Command
encode_of guessers words = if is_taken encode_app words then encode_by guessers (matches_of encode_app words) else None

unfoldable pub check_of : List Text → Option Command
check_of words = if is_taken check_app words then Some Check else None

unfoldable pub demo_of : ℕ → List Text → Option Command
demo_of guessers words = if is_taken demo_app words then demo_by guessers (matches_of demo_app words) else None

-- the command that a word names
abbrev pub named_by : Text → Option CommandWord
named_by text =
    if bytes_eq text (codes "encode") then Some word.Encode
    else if bytes_eq text (codes "check") then Some word.Check
    else if bytes_eq text (codes "demo") then Some word.Demo
    else None

-- the one that the first word names
abbrev pub word_of : List Text → Option CommandWord
word_of [] = None
word_of (first ∷ rest) = named_by first

abbrev pub command_by : ℕ → List Text → Option CommandWord → Option Command
command_by guessers words (Some word.Encode) = encode_of guessers words
command_by guessers words (Some word.Check) = check_of words
command_by guessers words (Some word.Demo) = demo_of guessers words
command_by guessers words None = None

-- what the words ask for where there are so many guessers; nothing where they are refused
unfoldable pub command_of : ℕ → List Text → Option Command
command_of guessers words = command_by guessers words (word_of words)

-- words of the program, as lists of bytes
abbrev pub texts_of : List (Bor (List ℕ)) → List Text
texts_of words = map (λ word. word.now) words
