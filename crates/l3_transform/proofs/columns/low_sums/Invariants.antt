use Rattle.std.proofs.Common.{◌≡◌, ℕ, ◌<◌, length}
use Rattle.l3_base.specs.Lists.{entry}
use Rattle.l3_base.specs.Sums.{sum_below}
use Rattle.l3_transform.specs.Pairs.{row_in}
use Rattle.l3_transform.proofs.columns.low_sums.Given as goal

abbrev pub invariant-loop-j : goal.invariant-loop-j
invariant-loop-j l = record {
  long : length l.sums ≡ 32;
  value : (i : ℕ) → i < l.j → entry l.sums i ≡ sum_below 8 (λ m. entry (row_in l.parts m) i);
}
