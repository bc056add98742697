-- The encoding of samples is spelled by their chosen frames, and by nothing else.
use Rattle.std.proofs.Common.{◌≡◌, refl, ℕ, zero, suc, ◌^◌, List, length, get_or, arith}
use Rattle.std.specs.Prelude.{ℤ}
use Rattle.l3_base.specs.Spectrum.{IsLine, IsSpectrum}
use Rattle.l3_base.specs.Lengths.{frames_for}
use Rattle.l3_base.specs.Sums.{IsWithin}
use Rattle.l3_base.proofs.ListLemmas.{length-tabulate}
use Rattle.l3_transform.specs.Spectrum.{spectrum_of_granule, lines_of}
use Rattle.l3_transform.proofs.Reduction.{spectrum_is_bounded}
use Rattle.l3_stream.proofs.StreamReading.{one_reading}
use Rattle.l3_commit.specs.Encoding.{spectra_of, frames_chosen, encoding_of}
use Rattle.l3_commit.specs.Laws.{AreSpectra, AreSamples, ChosenFit, ChosenAlone}
use Rattle.l3_commit.proofs.Keeping.{chosen-follow}

lines-long : (slots : List (List ℤ)) → length (lines_of slots) ≡ 576
unfolding lines_of
lines-long slots = length-tabulate 576 _

line-small : (x : ℤ) → IsWithin (2 ^ 28) x → IsLine x
line-small x small = omega arith

spectrum-of-samples : (p : List ℤ) (g : ℕ) → AreSamples p → IsSpectrum (spectrum_of_granule p g)
spectrum-of-samples p g samples = record {
  long = lines-long _;
  small = λ i d lt. line-small (get_or (spectrum_of_granule p g) i d) (spectrum_is_bounded p g samples i d lt);
}

pub spectra-of-samples : (left right : List ℤ) → AreSamples left → AreSamples right → AreSpectra (spectra_of left right)
spectra-of-samples left right l r g zero = spectrum-of-samples left g l
spectra-of-samples left right l r g (suc c) = spectrum-of-samples right g r

pub chosen-fit : ChosenFit
unfolding frames_chosen
chosen-fit st left right l r =
    let follow = chosen-follow st (spectra_of left right) (frames_for (length left)) (spectra-of-samples left right l r) in
    record {
      number = follow.number;
      fit = follow.fit;
      spells = record { fit = follow.fit; text = refl };
    }

pub chosen-alone : ChosenAlone
chosen-alone st other left right fs l r spells =
    let own = (chosen-fit st left right l r).spells in
    one_reading (encoding_of st left right) st other (frames_chosen st left right) fs own spells
