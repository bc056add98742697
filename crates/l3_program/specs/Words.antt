-- What the words of the command line ask for.
use Rattle.std.specs.Prelude.{List, ℕ, ◌≤◌, ◌<◌, ⊤, Option, option_map}
use Rattle.std.specs.Borrow.{Bor}
use Rattle.l3_words.specs.Words.{command_of, texts_of}
use Rattle.l3_words.specs.declared.command.Command.{Command as Wanted}
use Rattle.l3_words.specs.declared.command.Command.TheVariants as wanted
use Rattle.l3_words.specs.declared.command.EncoderOptions.{EncoderOptions}
use Rattle.l3_program.specs.declared.words.Command.{Command}
use Rattle.l3_program.specs.declared.words.Command.TheVariants.{Encode, Check, Demo}

-- as many guessers as a guess can ask for: with so many each guess is taken
abbrev pub any_guess : ℕ
any_guess = 255

-- the command of the program
abbrev pub known : Wanted → Command
known (wanted.Encode words) = Encode words
known wanted.Check = Check
known (wanted.Demo words) = Demo words

-- what the words ask for where there are so many guessers, each word a list of bytes; nothing where
-- they are refused
abbrev pub command_in : (guessers : ℕ) → List (List ℕ) → Option Command
command_in guessers words = option_map known (command_of guessers words)

-- the same of words of the program
abbrev pub asked : (guessers : ℕ) → List (Bor (List ℕ)) → Option Command
asked guessers words = command_in guessers (texts_of words)

-- how many threads are to analyse granules ahead; `check` has none
abbrev pub workers_of : Command → ℕ
workers_of (Encode words) = words.options.workers
workers_of Check = 0
workers_of (Demo words) = words.options.workers

-- it is to be done with workers
abbrev pub HasWorkers : Command → Type 0
HasWorkers command = 0 < workers_of command

-- a demo has 1 to 100000 frames
abbrev pub HasFrames : Command → Type 0
HasFrames (Encode words) = ⊤
HasFrames Check = ⊤
HasFrames (Demo words) = (1 ≤ words.frames) × (words.frames ≤ 100000)

-- numbers of an option are within their ranges; with at least one worker the guess asks for a
-- guesser that there is, or for all, where there is one
pub record AreWithin (guessers : ℕ) (options : EncoderOptions) : Type 0 where
  pub workers : options.workers ≤ 16
  pub ahead : (1 ≤ options.ahead) × (options.ahead ≤ 64)
  pub guess : 0 < options.workers → (0 < guessers) × (options.guess ≤ guessers)

abbrev pub HasOptions : (guessers : ℕ) → Command → Type 0
HasOptions guessers (Encode words) = AreWithin guessers words.options
HasOptions guessers Check = ⊤
HasOptions guessers (Demo words) = AreWithin guessers words.options
