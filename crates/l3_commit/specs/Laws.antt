-- Laws of the chosen frames, each carried by a function of src/laws.rt.
use Rattle.std.specs.Prelude.{◌≡◌, ℕ, ◌≤◌, ◌^◌, List, All, length, ℤ}
use Rattle.l3_base.specs.declared.settings.Settings.{Settings}
use Rattle.l3_base.specs.Lengths.{mmax_of, slots_before, frames_for}
use Rattle.l3_base.specs.Spectrum.{IsSpectrum}
use Rattle.l3_base.specs.Sums.{IsWithin}
use Rattle.l3_stream.specs.declared.unit.ChosenFrame.{ChosenFrame}
use Rattle.l3_stream.specs.Units.{lengths}
use Rattle.l3_stream.specs.Frames.{units_of, code_bits, IsCoded}
use Rattle.l3_stream.specs.StreamLaws.{AreSame}
use Rattle.l3_stream.specs.Tape.{FramesFit, Spells, CanFollow}
use Rattle.l3_commit.specs.Choice.{Spectra, begin_before, frame_chosen, frames_before}
use Rattle.l3_commit.specs.Encoding.{frames_chosen, encoding_of}

-- each is 576 lines, each below 2^29 in absolute value
abbrev pub AreSpectra : Spectra → Type 0
AreSpectra spectra = (granule channel : ℕ) → IsSpectrum (spectra granule channel)

-- the chosen frame is coded, with as many code bits as its units' part2_3_length say, and its main
-- data begins within the tape before its slot
pub record IsChosenWell (st : Settings) (spectra : Spectra) (n : ℕ) : Type 0 where
  pub coded : IsCoded st (frame_chosen st spectra n)
  pub bits : length (code_bits st (frame_chosen st spectra n)) ≡ lengths (units_of st.channels (frame_chosen st spectra n).units)
  pub limit : begin_before st spectra n ≤ 511
  pub decoder : begin_before st spectra n ≤ mmax_of st
  pub reached : begin_before st spectra n ≤ slots_before st n

abbrev pub ChosenWell : Type 0
ChosenWell = (st : Settings) (spectra : Spectra) (n : ℕ) → AreSpectra spectra → IsChosenWell st spectra n

-- frame n can follow the chosen frames before it
abbrev pub ChosenFollow : Type 0
ChosenFollow = (st : Settings) (spectra : Spectra) (n : ℕ) → AreSpectra spectra →
    CanFollow st n (begin_before st spectra n) (frames_before st spectra n)

-- samples are 16-bit numbers
abbrev pub AreSamples : List ℤ → Type 0
AreSamples = All (IsWithin (2 ^ 15))

-- the chosen frames of samples fit, as many as the samples need, and so they spell the encoding
pub record IsEncoded (st : Settings) (left right : List ℤ) : Type 0 where
  pub number : length (frames_chosen st left right) ≡ frames_for (length left)
  pub fit : FramesFit st 0 0 (frames_chosen st left right)
  pub spells : Spells (encoding_of st left right) st (frames_chosen st left right)

abbrev pub ChosenFit : Type 0
ChosenFit = (st : Settings) (left right : List ℤ) → AreSamples left → AreSamples right → IsEncoded st left right

-- nothing else spells it
abbrev pub ChosenAlone : Type 0
ChosenAlone = (st other : Settings) (left right : List ℤ) (fs : List ChosenFrame) → AreSamples left → AreSamples right →
    Spells (encoding_of st left right) other fs → AreSame st other (frames_chosen st left right) fs
