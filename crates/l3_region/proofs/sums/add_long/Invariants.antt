use Rattle.std.proofs.Common.{◌≡◌, ◌+◌, ◌*◌}
use Rattle.l3_region.specs.Lanes.{short_sum}
use Rattle.l3_region.specs.Pairs.{lines_in}
use Rattle.l3_region.proofs.sums.add_long.Given as goal

abbrev pub invariant-loop-n : goal.invariant-loop-n
invariant-loop-n l = l.sum ≡ short_sum (lines_in l.pairs) 12 l.n + 65536 * short_sum (lines_in l.pairs) 13 l.n
