use Rattle.std.proofs.Common.{◌≡◌, ℕ, ◌<◌, ◌+◌, ◌-◌, ◌*◌, ◌^◌, length}
use Rattle.l3_base.specs.Lists.{entry}
use Rattle.l3_base.specs.Sums.{IsWithin}
use Rattle.l3_transform.specs.Pairs.{row_in, low_entry, pair_sum, reach}
use Rattle.l3_transform.proofs.columns.low_parts.Given as goal

abbrev pub invariant-loop-m : goal.invariant-loop-m
invariant-loop-m l = record {
  long : length l.parts ≡ 8;
  value : (n : ℕ) → n < l.m → (j : ℕ) → j < 32 → entry (row_in l.parts n) j ≡ pair_sum (low_entry n) (entry (row_in l.rows (l.k + 14 - 2 * n))) j;
  bound : (n : ℕ) → n < l.m → (j : ℕ) → j < 32 → IsWithin (reach n * 2 ^ 16) (entry (row_in l.parts n) j);
  range : (n : ℕ) → n < l.m → (i : ℕ) → i < 64 → IsWithin (2 ^ 15) (entry (row_in l.rows (l.k + 14 - 2 * n)) i);
}
