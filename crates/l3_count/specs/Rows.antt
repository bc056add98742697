-- The planes of 576 lines, by blocks of 32 cells.
use Rattle.std.specs.Prelude.{◌≡◌, ◌<◌, ◌≤◌, ◌≤ℤ◌, ◌+◌, ◌-ℤ◌, ◌*◌, ◌/◌, ◌%◌, ℕ, List, ℤ, pos, length, slice_index, slice_index_or, unsigned_abs}
use Rattle.l3_count.specs.Planes.{IsPlane, IsRanked}

-- the line of a cell: each block of 32 has its even lines first
abbrev pub line_at : ℕ → ℕ
line_at cell = 32 * (cell / 32) + 2 * (cell % 16) + cell % 32 / 16

-- the octaves and ranks of all lines, in the order of cells
pub record AreRanked (lines : List ℤ) (octaves ranks : List ℕ) : Type 0 where
  pub long : length octaves ≡ 576
  pub long_too : length ranks ≡ 576
  pub is : (i : ℕ) → i < 576 → IsRanked (unsigned_abs (slice_index_or lines (line_at i) (pos 0))) (slice_index octaves i) (slice_index ranks i)
  pub small : (i : ℕ) → i < 576 → slice_index octaves i ≤ 242

-- a plane as it is stored: 128 less
pub record IsStored (n x : ℕ) (z : ℤ) : Type 0 where
  pub plane : ℕ
  pub is : IsPlane n x plane
  pub stored : z ≡ pos plane -ℤ pos 128

-- rows of 32 planes, for each block one for each value of 1 to 15
pub record AreRows (lines rows : List ℤ) : Type 0 where
  pub long : length rows ≡ 8640
  pub is : (row : ℕ) → row < 270 → (j : ℕ) → j < 32 →
      IsStored (row % 15 + 1) (unsigned_abs (slice_index_or lines (line_at (32 * (row / 15) + j)) (pos 0))) (slice_index_or rows (32 * row + j) (pos 0))

-- no plane of a row is above its top
pub record AreTops (rows tops : List ℤ) : Type 0 where
  pub long : length tops ≡ 270
  pub is : (row : ℕ) → row < 270 → (j : ℕ) → j < 32 → slice_index_or rows (32 * row + j) (pos 0) ≤ℤ slice_index_or tops row (pos 0)

-- the absolute value of a line
abbrev pub size_at : List ℤ → ℕ → ℕ
size_at lines i = unsigned_abs (slice_index_or lines i (pos 0))
