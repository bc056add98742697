-- The encoding of samples: the stream that their chosen frames spell.
use Rattle.std.specs.Prelude.{ℕ, zero, suc, List, length, ℤ}
use Rattle.l3_base.specs.declared.settings.Settings.{Settings}
use Rattle.l3_base.specs.Lengths.{frames_for}
use Rattle.l3_transform.specs.Spectrum.{spectrum_of_granule}
use Rattle.l3_stream.specs.declared.unit.ChosenFrame.{ChosenFrame}
use Rattle.l3_stream.specs.Tape.{stream_of}
use Rattle.l3_commit.specs.Choice.{Spectra, frames_before}
use Rattle.l3_commit.specs.Tried.{tried_before}

-- of two channels, the left one for 0 and the right one for all others
abbrev pub of_channel : {A : Type 0} → (left right : A) → ℕ → A
of_channel left right zero = left
of_channel left right (suc _) = right

-- the spectra of samples, by granule and channel
abbrev pub spectra_of : (left right : List ℤ) → Spectra
spectra_of left right g = of_channel (spectrum_of_granule left g) (spectrum_of_granule right g)

-- the chosen frames of samples; in mono `right` does not count
unfoldable pub frames_chosen : Settings → (left right : List ℤ) → List ChosenFrame
frames_chosen st left right = frames_before st (spectra_of left right) (frames_for (length left))

-- their encoding
abbrev pub encoding_of : Settings → (left right : List ℤ) → List ℕ
encoding_of st left right = stream_of st (frames_chosen st left right)

-- how many gains their choice tries
unfoldable pub gains_tried : Settings → (left right : List ℤ) → ℕ
gains_tried st left right = tried_before st (spectra_of left right) (frames_for (length left))
