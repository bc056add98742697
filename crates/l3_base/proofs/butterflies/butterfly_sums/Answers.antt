use Rattle.std.proofs.Common.{refl}
use Rattle.l3_base.specs.Sums.{sum_below, size_below}
use Rattle.l3_base.proofs.butterflies.butterfly_sums.Goals as goal

pub returns-clause-greater : goal.returns-clause-greater
unfolding sum_below size_below
returns-clause-greater c = record { total_is = refl; size_is = refl; weighed_is = refl }

pub returns-clause-smaller : goal.returns-clause-smaller
unfolding sum_below size_below
returns-clause-smaller c = record { total_is = refl; size_is = refl; weighed_is = refl }
