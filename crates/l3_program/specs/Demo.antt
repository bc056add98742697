-- What `demo` says of a stream.
use Rattle.std.specs.Prelude.{◌≡◌, ℕ, List, [], ◌∷◌, ◌++◌, codes, decimal, Option, Some, option_map}
use Rattle.hex.specs.Hex.{encode_lower}
use Rattle.sha2.specs.Sha256.{sha256}
use Rattle.l3_base.specs.declared.rate.Rate.{Rate}
use Rattle.l3_wav.specs.Demo.{demo_file}
use Rattle.l3_encoder.specs.Encoded.{encoding_in, frame_number_in}
use Rattle.l3_io.specs.Taken.{length_of}
use Rattle.l3_words.specs.declared.command.DemoWords.{DemoWords}
use Rattle.l3_program.specs.declared.demo.Summary.{Summary}

-- the file that words ask for: the signal of their number, of so many frames
abbrev pub file_for : DemoWords → List ℕ
file_for words = demo_file words.frames words.seed

-- `frames F bytes B sha256 D` and a newline: two numbers in decimal, and a digest in lower-case
-- hexadecimal digits
abbrev pub digest_line : (frames bytes : ℕ) → List ℕ → List ℕ
digest_line frames bytes digest = codes "frames " ++ decimal frames ++ codes " bytes " ++ decimal bytes ++ codes " sha256 " ++ encode_lower digest ++ 10 ∷ []

-- the line of a stream of so many frames
abbrev pub stream_line : ℕ → List ℕ → List ℕ
stream_line frames stream = digest_line frames (length_of stream) (sha256 stream)

-- the line of a file's stream at a rate; a file whose head is refused has none
abbrev pub digest_line_in : Rate → List ℕ → Option (List ℕ)
digest_line_in rate bytes = option_map (stream_line (frame_number_in bytes)) (encoding_in rate bytes)

-- what is told of a file's stream (only the inside of this crate)
pub record IsSummary (rate : Rate) (bytes : List ℕ) (summary : Summary) : Type 0 where
  pub stream : List ℕ
  pub encoding : encoding_in rate bytes ≡ Some stream
  pub frames : summary.frames ≡ frame_number_in bytes
  pub size : summary.bytes ≡ length_of stream
  pub digest : summary.digest ≡ sha256 stream
