-- The samples of a slot as pairs: a folded column has two columns, whose samples and window entries
-- stand side by side, at places 2 j and 2 j + 1 of a row of 64. A row has one tap of each column.
-- Only the inside of this crate speaks of these.
use Rattle.std.specs.Prelude.{◌≡◌, ℕ, zero, suc, ◌+◌, ◌-◌, ◌*◌, ◌/◌, ◌%◌, ◌<◌, ◌||◌, nat_le, nat_eq, if◌then◌else◌, List, [], ℤ, pos, ◌+ℤ◌, ◌-ℤ◌, ◌*ℤ◌, neg_ℤ}
use Rattle.std.proofs.Common.{get_or}
use Rattle.l3_base.specs.Lists.{entry}
use Rattle.l3_base.specs.Sums.{floor_div}
use Rattle.l3_base.specs.Window.{window_at}

-- row t of some rows
abbrev pub row_in : List (List ℤ) → ℕ → List ℤ
row_in rows t = get_or rows t []

-- the column that is folded onto column 16 + j; onto column 16 none is, so that column 48, which
-- counts for nothing, stands there
abbrev pub other_column : ℕ → ℕ
other_column j = if nat_eq j 0 then 48 else (if nat_le j 16 then 16 - j else 80 - j)

-- tap m of the window at that column, with its sign
abbrev pub other_entry : ℕ → ℕ → ℤ
other_entry m j =
    if nat_eq j 0 then pos 0
    else (if nat_le j 16 then window_at (16 - j + 64 * m) else neg_ℤ (window_at (80 - j + 64 * m)))

-- tap m of the window by places of a row
unfoldable pub pair_entry : ℕ → ℕ → ℤ
pair_entry m n = if nat_eq (n % 2) 0 then window_at (16 + n / 2 + 64 * m) else other_entry m (n / 2)

-- a 512th, to the nearest, and what is left
unfoldable pub high_part : ℤ → ℤ
high_part x = floor_div (x +ℤ pos 256) 512

-- the part in the table of low entries: only taps 3 and 4 have a high part
unfoldable pub low_entry : ℕ → ℕ → ℤ
low_entry m n = if nat_eq m 3 || nat_eq m 4 then pair_entry m n -ℤ pos 512 *ℤ high_part (pair_entry m n) else pair_entry m n

-- how great those of a tap may be
abbrev pub reach : ℕ → ℕ
reach m = if nat_eq m 2 || nat_eq m 5 then 9984 else 2096

-- the same of the taps below m
abbrev pub reach_below : ℕ → ℕ
reach_below zero = 0
reach_below (suc m) = reach_below m + reach m

-- what pair j of a row comes to
unfoldable pub pair_sum : (ℕ → ℤ) → (ℕ → ℤ) → ℕ → ℤ
pair_sum w x j = w (2 * j) *ℤ x (2 * j) +ℤ w (2 * j + 1) *ℤ x (2 * j + 1)

-- a row has tap m of the samples, of which `newest n` is the sample n before the newest
pub record IsTap (newest : ℕ → ℤ) (m : ℕ) (row : List ℤ) : Type 0 where
  pub first : (j : ℕ) → j < 32 → entry row (2 * j) ≡ newest (16 + j + 64 * m)
  pub second : (j : ℕ) → j < 32 → entry row (2 * j + 1) ≡ newest (other_column j + 64 * m)

-- the eight taps of slot k stand in every other one of 15 rows, the newest last
abbrev pub AreTaps : (ℕ → ℤ) → List (List ℤ) → ℕ → Type 0
AreTaps newest rows k = (m : ℕ) → m < 8 → IsTap newest m (row_in rows (k + 14 - 2 * m))
