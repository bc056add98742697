use Rattle.std.proofs.Common.{◌<◌}
use Rattle.l3_transform.proofs.Butterflies.{AreReduced}
use Rattle.l3_transform.proofs.alias.reduce.Given as goal

abbrev pub invariant-loop-border : goal.invariant-loop-border
invariant-loop-border l = record {
  from : 0 < l.border;
  lines : AreReduced l.border l.fn.out l.out;
}
