use Rattle.std.proofs.Common.{◌≡◌, ◌+◌, ◌*◌, ◌≤◌, ◌^◌, pos, ◌*ℤ◌}
use Rattle.std.specs.Prelude.{unsigned_abs}
use Rattle.l3_base.specs.Lists.{entry}
use Rattle.l3_base.specs.Sums.{sum_below}
use Rattle.l3_base.specs.Cosines.{cosine64}
use Rattle.l3_transform.proofs.subbands.part.Given as goal

abbrev pub invariant-loop-m : goal.invariant-loop-m
invariant-loop-m l = record {
  sum_is : l.sum ≡ sum_below l.m (λ m. cosine64 (pos (2 * l.i + 1) *ℤ pos (l.start + l.step * m)) *ℤ entry l.columns (l.start + l.step * m));
  small : unsigned_abs l.sum ≤ l.m * (32768 * 2 ^ 36);
}
