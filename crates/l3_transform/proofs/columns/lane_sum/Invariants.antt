use Rattle.std.proofs.Common.{◌≡◌, ◌*◌, ◌≤◌, ◌^◌}
use Rattle.std.specs.Prelude.{unsigned_abs}
use Rattle.l3_base.specs.Lists.{entry}
use Rattle.l3_base.specs.Sums.{sum_below}
use Rattle.l3_transform.specs.Pairs.{row_in, reach_below}
use Rattle.l3_transform.proofs.columns.lane_sum.Given as goal

abbrev pub invariant-loop-m : goal.invariant-loop-m
invariant-loop-m l = record {
  sum_is : l.sum ≡ sum_below l.m (λ m. entry (row_in l.parts m) l.j);
  small : unsigned_abs l.sum ≤ reach_below l.m * 2 ^ 16;
}
