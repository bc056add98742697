use Rattle.std.proofs.Common.{◌≡◌, ◌*◌, ◌≤◌, ◌*ℤ◌}
use Rattle.std.specs.Prelude.{unsigned_abs}
use Rattle.l3_base.specs.Lists.{entry}
use Rattle.l3_base.specs.Sums.{sum_below}
use Rattle.l3_transform.specs.SlotFold.{folded_cosine}
use Rattle.l3_transform.proofs.lines.line_sum.Given as goal

abbrev pub invariant-loop-k : goal.invariant-loop-k
invariant-loop-k l = record {
  sum_is : l.sum ≡ sum_below l.k (λ k. entry l.f k *ℤ folded_cosine l.m k);
  small : unsigned_abs l.sum ≤ l.k * (89196032 * 32768);
}
