-- The greatest absolute values of the scale factor bands.
use Rattle.std.specs.Prelude.{◌≡◌, ℕ, ◌+◌, ◌<◌, nat_le, List, ℤ, slice_index, slice_range, unsigned_abs}
use Rattle.std.specs.List.{list_all}

-- the greatest absolute value of some whole numbers: it is at most n exactly where all of them are
abbrev pub IsPeak : List ℤ → ℕ → Type 0
IsPeak values peak = (n : ℕ) → list_all (λ x. nat_le (unsigned_abs x) n) values ≡ nat_le peak n

-- those of the values or lines of the 22 bands
abbrev pub AreBandPeaks : List ℕ → List ℤ → List ℕ → Type 0
AreBandPeaks edges values peaks = (band : ℕ) → band < 22 →
    IsPeak (slice_range values (slice_index edges band) (slice_index edges (band + 1)))
    (slice_index peaks band)
