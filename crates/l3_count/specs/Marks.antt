-- What planes are compared with at a gain: keys of bands, and marks of cells.
use Rattle.std.specs.Prelude.{◌≡◌, ◌<◌, ◌≤ℤ◌, ◌+◌, ◌-ℤ◌, ◌*◌, ℕ, List, ℤ, pos, min, slice_index, slice_index_or}
use Rattle.l3_quant.specs.Quantiser.{magnitude_at, steps_of}
use Rattle.l3_quant.specs.Amplified.{band_gain, band_of}
use Rattle.l3_base.specs.Bands.{edges_at}
use Rattle.l3_base.specs.Lists.{entry}
use Rattle.l3_region.specs.Lanes.{place_of}
use Rattle.l3_count.specs.Planes.{key_at}
use Rattle.l3_count.specs.Rows.{line_at, size_at}

-- the quarter steps of a band, and those of a line's band
abbrev pub band_steps : List ℕ → ℕ → ℕ → ℕ
band_steps amp gain band = steps_of (band_gain amp (pos gain) band)

abbrev pub line_steps : ℕ → List ℕ → ℕ → ℕ → ℕ
line_steps rate amp gain line = band_steps amp gain (band_of (edges_at rate) line)

-- the keys of the 22 bands at a gain under an amplification
abbrev pub AreKeys : List ℕ → ℕ → List ℕ → Type 0
AreKeys amp gain keys = (b : ℕ) → b < 22 → slice_index keys b ≡ key_at (band_steps amp gain b)

-- what the stored planes of each cell are above where they reach the key of the line's own quarter
-- steps: that key and 129 less; and a number that is no greater than any of these
pub record AreMarks (steps : ℕ → ℕ) (marks : List ℤ) (least : ℤ) : Type 0 where
  pub is : (cell : ℕ) → cell < 576 →
      slice_index_or marks cell (pos 0) ≡ pos (key_at (steps (line_at cell))) -ℤ pos 129
  pub least_is : (cell : ℕ) → cell < 576 → least ≤ℤ slice_index_or marks cell (pos 0)

-- one number that stored planes of all cells are above where they reach the key of the line's own
-- quarter steps
abbrev pub IsMark : (ℕ → ℕ) → ℤ → Type 0
IsMark steps mark = (line : ℕ) → mark ≡ pos (key_at (steps line)) -ℤ pos 129

-- the value of a line that has so many quarter steps of its own, cut at 15
abbrev pub cut_at : List ℤ → (ℕ → ℕ) → ℕ → ℕ
cut_at lines steps i = min (magnitude_at (size_at lines i) (steps i)) 15

-- how many of the first k values are reached in each cell of a block
abbrev pub AreCounted : List ℤ → (ℕ → ℕ) → ℕ → ℕ → List ℕ → Type 0
AreCounted lines steps block k counts = (j : ℕ) → j < 32 →
    slice_index counts j ≡ min (magnitude_at (size_at lines (line_at (32 * block + j))) (steps (line_at (32 * block + j)))) k

-- the pairs of whole numbers, each by its place: 16 times the first and the second, cut at 15
abbrev pub ArePacked : List ℤ → List ℕ → Type 0
ArePacked q pairs = (i : ℕ) → i < 288 →
    slice_index pairs i ≡ place_of (entry q (2 * i)) (entry q (2 * i + 1))
