-- What `check` says of a stream.
use Rattle.std.specs.Prelude.{◌≡◌, ℕ, List, [], ◌∷◌, ◌++◌, length, sum_by, codes, decimal, Option, Some, None, Result, Ok, Err}
use Rattle.l3_encoder.specs.FileLaws.{read_limit}
use Rattle.l3_stream.specs.declared.fault.StreamFault.{StreamFault}
use Rattle.l3_stream.specs.declared.unit.ChosenFrame.{ChosenFrame}
use Rattle.l3_stream.specs.Frames.{main_data_length}
use Rattle.l3_stream.specs.Deviation.{Content, reading_of, deviation_of}
use Rattle.l3_program.specs.declared.check.Totals.{Totals}

-- the most frames that a stream may have: those with which the law of encoded files reads one
abbrev pub frames_limit : ℕ
frames_limit = read_limit

-- the reading of a stream, and its first deviation
abbrev pub reading_in : List ℕ → Result Content StreamFault
reading_in bytes = reading_of frames_limit bytes

abbrev pub deviation_in : List ℕ → Option StreamFault
deviation_in bytes = deviation_of frames_limit bytes

-- the sum of part2_3_length of all units of all frames
abbrev pub bits_of_frames : List ChosenFrame → ℕ
bits_of_frames frames = sum_by main_data_length frames

-- `frames F bits B` and a newline, in decimal
abbrev pub line_with : (frames bits : ℕ) → List ℕ
line_with frames bits = codes "frames " ++ decimal frames ++ codes " bits " ++ decimal bits ++ 10 ∷ []

-- the line of a stream of these frames
abbrev pub line_of : List ChosenFrame → List ℕ
line_of frames = line_with (length frames) (bits_of_frames frames)

-- the line of a stream; one that deviates has none
abbrev pub line_by : Result Content StreamFault → Option (List ℕ)
line_by (Ok content) = Some (line_of content.frames)
line_by (Err fault) = None

abbrev pub line_in : List ℕ → Option (List ℕ)
line_in bytes = line_by (reading_in bytes)

-- the bytes are a stream with no deviation, and its frames add up to this
-- (only the inside of this crate)
pub record AddsUp (totals : Totals) (bytes : List ℕ) : Type 0 where
  pub content : Content
  pub reading : reading_in bytes ≡ Ok content
  pub frames : totals.frames ≡ length content.frames
  pub bits : totals.bits ≡ bits_of_frames content.frames
