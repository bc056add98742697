-- The slots of folded columns that are those of some samples.
use Rattle.std.proofs.Common.{◌≡◌, ◌≤◌, ◌∙◌, ap, ℕ, ◌+◌, ◌-◌, ◌*◌, ◌^◌, ◌<◌, List, ℤ, pos, ◌+ℤ◌, length, arith}
use Rattle.l3_base.specs.Lists.{entry, tabulate}
use Rattle.l3_base.specs.Sums.{floor_div}
use Rattle.l3_base.specs.Filterbank.{column_sum, slot_sum}
use Rattle.l3_base.proofs.ListLemmas.{tabulate-entries}
use Rattle.l3_transform.specs.Fold.{folded_column, folded_columns_sum}
use Rattle.l3_transform.specs.Pairs.{IsTap, AreTaps, other_column, row_in}
use Rattle.l3_transform.proofs.FoldLaw.{folded_columns_sum-same, fold_is}

pub slots_of_folded-are : (newest : ℕ → ℤ) (u out : List ℤ) → length out ≡ 32 → ((j : ℕ) → j < 32 → entry u j ≡ folded_column (column_sum newest) j) →
    ((i : ℕ) → i < 32 → entry out i ≡ floor_div (folded_columns_sum (entry u) i +ℤ pos (2 ^ 26)) (2 ^ 27)) → out ≡ tabulate 32 (slot_sum newest)
unfolding slot_sum
slots_of_folded-are newest u out long columns slots = tabulate-entries 32 (slot_sum newest) (pos 0) out long
    (λ i lt. slots i lt ∙ ap (λ z. floor_div (z +ℤ pos 67108864) 134217728) (folded_columns_sum-same (entry u) (folded_column (column_sum newest)) i columns ∙ fold_is (column_sum newest) i))

-- the rows of a window have the taps of its slots
pub taps_of : (window : List ℤ) (rows : List (List ℤ)) (from k : ℕ) → from ≤ k → k + 14 < length rows →
    ((t : ℕ) → from ≤ t → t < length rows → IsTap (λ n. entry window (32 * t + 63 - n)) 0 (row_in rows t)) → AreTaps (λ n. entry window (32 * k + 511 - n)) rows k
taps_of window rows from k le room made m lt =
    let tap : IsTap (λ n. entry window (32 * (k + 14 - 2 * m) + 63 - n)) 0 (row_in rows (k + 14 - 2 * m)) = made (k + 14 - 2 * m) (omega arith) (omega arith) in
    let place : (c : ℕ) → 32 * (k + 14 - 2 * m) + 63 - (c + 64 * 0) ≡ 32 * k + 511 - (c + 64 * m) = λ c. omega arith in
    record {
      first = λ j low. tap.first j low ∙ ap (entry window) (place (16 + j));
      second = λ j low. tap.second j low ∙ ap (entry window) (place (other_column j));
    }
