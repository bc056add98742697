use Rattle.l3_transform.proofs.Butterflies.{AreCrossed}
use Rattle.l3_transform.proofs.alias.butterflies.Given as goal

abbrev pub invariant-loop-k : goal.invariant-loop-k
invariant-loop-k l = AreCrossed l.border l.k l.fn.out l.out
