-- What the stream of a file is, for the bytes of any file: a law carried by `files_are_encoded`.
use Rattle.std.specs.Prelude.{◌≡◌, ◌≤◌, ℕ, List, length, Some, None, Ok}
use Rattle.std.specs.List.{slice_get}
use Rattle.l3_base.specs.declared.rate.Rate.{Rate}
use Rattle.l3_base.specs.declared.settings.Settings.{Settings}
use Rattle.l3_base.specs.Lengths.{slots_before, frames_for}
use Rattle.l3_wav.specs.declared.head.WavHead.{WavHead}
use Rattle.l3_wav.specs.Laws.{AreChannels16}
use Rattle.l3_wav.specs.Wav.{wav_of}
use Rattle.l3_stream.specs.declared.unit.ChosenFrame.{ChosenFrame}
use Rattle.l3_stream.specs.Tape.{Spells}
use Rattle.l3_stream.specs.Deviation.{content_of, reading_of, deviation_of}
use Rattle.l3_stream.specs.StreamLaws.{AreSame}
use Rattle.l3_commit.specs.Encoding.{frames_chosen}
use Rattle.l3_encoder.specs.Encoded.{AreBytes, settings_with, values_in, left_in, right_in, encoding_in}

-- the most frames that a stream is read with
abbrev pub read_limit : ℕ
read_limit = 16777216

-- each frame's main_data_begin fits its field, and is within the tape before the frame's own slot
abbrev pub BeginsAreWithin : Settings → List ChosenFrame → Type 0
BeginsAreWithin st fs = (n : ℕ) (f : ChosenFrame) → slice_get fs n ≡ Some f →
    (f.begin ≤ 511) × (f.begin ≤ slots_before st n)

-- the chosen frames of a file with this head
abbrev pub chosen_in : Rate → WavHead → List ℕ → List ChosenFrame
chosen_in rate head bytes =
    frames_chosen (settings_with rate head) (left_in head bytes) (right_in head bytes)

-- bytes are the stream of these frames under these settings and of no others
pub record IsStreamOf (st : Settings) (fs : List ChosenFrame) (stream : List ℕ) : Type 0 where
  -- the frames spell it, and whatever spells it is the same settings and frames
  pub spells : Spells stream st fs
  pub alone : (other : Settings) (others : List ChosenFrame) → Spells stream other others →
      AreSame st other fs others
  -- they are what is read, so there is no deviation
  pub read : reading_of read_limit stream ≡ Ok (content_of st fs)
  pub whole : deviation_of read_limit stream ≡ None
  pub begins : BeginsAreWithin st fs

-- bytes are the stream of a file at a rate: the file's head is accepted, its samples are numbers of
-- 16 bits, and the stream is that of their chosen frames, as many as the samples need
pub record IsStreamOfFile (rate : Rate) (bytes stream : List ℕ) : Type 0 where
  pub head : WavHead
  pub accepted : wav_of bytes ≡ Ok head
  pub samples : AreChannels16 head.channels (values_in head bytes)
  pub number : length (chosen_in rate head bytes) ≡ frames_for (length (left_in head bytes))
  pub chosen : IsStreamOf (settings_with rate head) (chosen_in rate head bytes) stream

-- whatever bytes a file has, and at every rate, what it is encoded to is such a stream
abbrev pub FilesAreEncoded : Type 0
FilesAreEncoded = (rate : Rate) (bytes stream : List ℕ) → AreBytes bytes →
    encoding_in rate bytes ≡ Some stream → IsStreamOfFile rate bytes stream
