-- Within which numbers the words of a command are.
use Rattle.std.proofs.Common.{◌≡◌, ◌==◌, ◌<◌, ◌≤◌, ℕ, List, Bool, true, false, arith, codes, refl, subst}
use Rattle.std.proofs.lemmas.Bool.Decides.{nat_tests}
use Rattle.std.specs.Prelude.{Option, Some, None, option_map, option_and_then, max, min, nat_lt, nat_le, ◌&&◌, ◌||◌, ⊤, if◌then◌else◌}
use Rattle.l3_base.specs.declared.rate.Rate.{Rate}
use Rattle.l3_words.specs.declared.command.Command.{Command as Wanted}
use Rattle.l3_words.specs.declared.command.Command.TheVariants as wanted
use Rattle.l3_words.specs.declared.command.CommandWord.{CommandWord}
use Rattle.l3_words.specs.declared.command.CommandWord.TheVariants as word
use Rattle.l3_words.specs.declared.command.EncoderOptions.{EncoderOptions}
use Rattle.clap.specs.Words.{Row, matches_of}
use Rattle.l3_words.specs.Words.{check_of, command_by, command_of, demo_app, demo_of, encode_app, encode_of, fits, flag_in, if_fit, is_taken, number_in, options_at, options_in, rate_in, word_of}
use Rattle.l3_program.specs.Words.{AreWithin, HasFrames, HasOptions, known}

-- ---- options

pub record AreSmall (options : EncoderOptions) : Type 0 where
  pub workers : options.workers ≤ 16
  pub ahead : (1 ≤ options.ahead) × (options.ahead ≤ 64)

all_fit : (guessers workers guess : ℕ) → ((workers == 0) || (nat_lt 0 guessers && nat_le guess guessers)) ≡ true → 0 < workers → (0 < guessers) × (guess ≤ guessers)
all_fit guessers workers guess test some = (grind (arith, nat_tests), grind (arith, nat_tests))

abbrev AreKept : ℕ → Option EncoderOptions → Type 0
AreKept guessers None = ⊤
AreKept guessers (Some options) = AreWithin guessers options

fit_kept : (guessers : ℕ) (options : EncoderOptions) (test : Bool) → test ≡ fits guessers options → AreSmall options → AreKept guessers (if test then Some options else None)
fit_kept guessers options true is small = record {
  workers = small.workers;
  ahead = small.ahead;
  guess = all_fit guessers options.workers options.guess (rw is refl);
}
fit_kept guessers options false is small = tt

rate_kept : (guessers : ℕ) (rows : List Row) (rate : Option Rate) → AreKept guessers (option_and_then (λ r. if_fit guessers (options_at rows r)) rate)
rate_kept guessers rows None = tt
rate_kept guessers rows (Some r) = fit_kept guessers (options_at rows r) (fits guessers (options_at rows r)) refl (record { workers = omega arith; ahead = (omega arith, omega arith) })

options_kept : (guessers : ℕ) (rows : List Row) → AreKept guessers (options_in guessers rows)
options_kept guessers rows = rate_kept guessers rows (rate_in rows)

-- ---- commands

abbrev IsSmall : ℕ → Option Wanted → Type 0
IsSmall guessers None = ⊤
IsSmall guessers (Some command) = HasFrames (known command) × HasOptions guessers (known command)

encode_kept : (guessers : ℕ) (taken stats : Bool) (options : Option EncoderOptions) → AreKept guessers options →
    IsSmall guessers (if taken then option_map (λ o. wanted.Encode (record { options = o; stats = stats })) options else None)
encode_kept guessers true stats None kept = tt
encode_kept guessers true stats (Some options) kept = (tt, kept)
encode_kept guessers false stats options kept = tt

small_check : (guessers : ℕ) (taken : Bool) → IsSmall guessers (if taken then Some wanted.Check else None)
small_check guessers true = (tt, tt)
small_check guessers false = tt

demo_kept : (guessers : ℕ) (taken : Bool) (n seed : ℕ) (options : Option EncoderOptions) → AreKept guessers options →
    IsSmall guessers (if taken then option_map (λ o. wanted.Demo (record { options = o; frames = max 1 (min n 100000); seed = seed })) options else None)
demo_kept guessers true n seed None kept = tt
demo_kept guessers true n seed (Some options) kept = ((omega arith, omega arith), kept)
demo_kept guessers false n seed options kept = tt

small_encode : (guessers : ℕ) (words : List (List ℕ)) → IsSmall guessers (encode_of guessers words)
unfolding encode_of
small_encode guessers words =
    let rows = matches_of encode_app words in
    encode_kept guessers (is_taken encode_app words) (flag_in rows (codes "stats")) (options_in guessers rows) (options_kept guessers rows)

small_demo : (guessers : ℕ) (words : List (List ℕ)) → IsSmall guessers (demo_of guessers words)
unfolding demo_of
small_demo guessers words =
    let rows = matches_of demo_app words in
    demo_kept guessers (is_taken demo_app words) _ (number_in rows (codes "SEED") 0 4294967295) (options_in guessers rows) (options_kept guessers rows)

small_by : (guessers : ℕ) (words : List (List ℕ)) (first : Option CommandWord) → IsSmall guessers (command_by guessers words first)
unfolding check_of
small_by guessers words (Some word.Encode) = small_encode guessers words
small_by guessers words (Some word.Check) = small_check guessers _
small_by guessers words (Some word.Demo) = small_demo guessers words
small_by guessers words None = tt

-- the numbers of a command are within their ranges
pub small : (guessers : ℕ) (words : List (List ℕ)) (command : Wanted) → command_of guessers words ≡ Some command → HasFrames (known command) × HasOptions guessers (known command)
unfolding command_of
small guessers words command is = subst (IsSmall guessers) is (small_by guessers words (word_of words))
