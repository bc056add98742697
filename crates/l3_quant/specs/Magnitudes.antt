-- What first gains and the classes of bands need of a spectrum: the greatest line of each band.
use Rattle.std.specs.Prelude.{◌≡◌, ◌<◌, ◌^◌, ℕ, List, All, length, ℤ}
use Rattle.l3_base.specs.Peaks.{AreBandPeaks}

-- the greatest absolute values of the lines of the 22 bands of 576 lines
pub record AreLinePeaks (edges : List ℕ) (lines : List ℤ) (peaks : List ℕ) : Type 0 where
  pub long : length lines ≡ 576
  pub small : All (λ p. p < 2 ^ 29) peaks
  pub peaks_are : AreBandPeaks edges lines peaks
