-- What the demo's file is for who reads it: a law carried by `demo_files_are_wav`.
use Rattle.std.specs.Prelude.{◌≡◌, ℕ, zero, suc, ◌+◌, ◌*◌, ◌≤◌, List, [], ◌∷◌, ℤ, Ok}
use Rattle.l3_base.specs.declared.rate.Channels.TheVariants.{Stereo}
use Rattle.l3_base.specs.declared.rate.SampleRate.TheVariants.{Hz44100}
use Rattle.l3_wav.specs.declared.head.WavHead.{WavHead}
use Rattle.l3_wav.specs.Wav.{wav_of, after_head}
use Rattle.l3_wav.specs.Pcm.{left_of, right_of}
use Rattle.l3_wav.specs.Samples.{coming, unread}
use Rattle.l3_wav.specs.Demo.{demo_file, left_at, right_at, samples_for, samples_from}

-- two channels at 44100 Hz, 4 bytes for a sample of both
abbrev pub head_for : ℕ → WavHead
head_for frames = record { channels = Stereo; rate = Hz44100; data_bytes = 4 * samples_for frames }

-- the values at so many times from one on
unfoldable pub in_turn : (ℕ → ℤ) → (at count : ℕ) → List ℤ
in_turn value at zero = []
in_turn value at (suc count) = value at ∷ in_turn value (at + 1) count

-- the values that a reader of the file gets, one of each channel in turn
abbrev pub values_for : (frames seed : ℕ) → List ℤ
values_for frames seed = coming (unread Stereo (4 * samples_for frames)) (after_head (demo_file frames seed))

-- the file's head is accepted, and says so; behind it stand the samples, and nothing else; and each
-- channel's values are those of the signal
pub record IsWav (frames seed : ℕ) : Type 0 where
  pub accepted : wav_of (demo_file frames seed) ≡ Ok (head_for frames)
  pub rest : after_head (demo_file frames seed) ≡ samples_from seed 0 (samples_for frames)
  pub left : left_of Stereo (values_for frames seed) ≡ in_turn (left_at seed) 0 (samples_for frames)
  pub right : right_of Stereo (values_for frames seed) ≡ in_turn (right_at seed) 0 (samples_for frames)

abbrev pub DemoFilesAreWav : Type 0
DemoFilesAreWav = (frames seed : ℕ) → frames ≤ 100000 → IsWav frames seed
