-- The folds of a subband's sum: of 64 columns to 32, since the cosines repeat about column 16, and
-- with the other sign about column 48; and of two subbands to one, since those of subband n - 1 - i
-- are those of subband i, with the other sign at every other column.
use Rattle.std.specs.Prelude.{◌≡◌, ℕ, ◌+◌, ◌-◌, ◌*◌, ◌<◌, ◌^◌, nat_le, nat_eq, if◌then◌else◌, List, length, ℤ, pos, ◌+ℤ◌, ◌-ℤ◌, ◌*ℤ◌}
use Rattle.l3_base.specs.Lists.{entry}
use Rattle.l3_base.specs.Sums.{sum_below, floor_div}
use Rattle.l3_base.specs.Cosines.{cosine64}

-- column j of the 32
unfoldable pub folded_column : (ℕ → ℤ) → ℕ → ℤ
folded_column y j =
    if nat_eq j 0 then y 16
    else (if nat_le j 16 then y (16 + j) +ℤ y (16 - j) else y (16 + j) -ℤ y (80 - j))

-- the 32 columns, each times its cosine for subband i
unfoldable pub folded_columns_sum : (ℕ → ℤ) → ℕ → ℤ
folded_columns_sum u i = sum_below 32 (λ j. cosine64 (pos (2 * i + 1) *ℤ pos j) *ℤ u j)

-- every step-th of them, from column `start`, so many in all
unfoldable pub part_sum : ℕ → ℕ → ℕ → (ℕ → ℤ) → ℕ → ℤ
part_sum start step count u i = sum_below count (λ m. cosine64 (pos (2 * i + 1) *ℤ pos (start + step * m)) *ℤ u (start + step * m))

-- the slots of the first n subbands and of the last n are set; only the inside of this crate speaks
-- of this
pub record AreSetOutside (u : ℕ → ℤ) (n : ℕ) (out : List ℤ) : Type 0 where
  pub long : length out ≡ 32
  pub low : (m : ℕ) → m < n → entry out m ≡ floor_div (folded_columns_sum u m +ℤ pos (2 ^ 26)) (2 ^ 27)
  pub high : (m : ℕ) → m < n → entry out (31 - m) ≡ floor_div (folded_columns_sum u (31 - m) +ℤ pos (2 ^ 26)) (2 ^ 27)
