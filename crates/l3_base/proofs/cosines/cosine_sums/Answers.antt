use Rattle.std.proofs.Common.{refl}
use Rattle.l3_base.specs.Sums.{sum_below, size_below}
use Rattle.l3_base.proofs.cosines.cosine_sums.Goals as goal

pub returns-clause-quarter64 : goal.returns-clause-quarter64
unfolding sum_below size_below
returns-clause-quarter64 c = record { total_is = refl; size_is = refl; weighed_is = refl }

pub returns-clause-quarter72 : goal.returns-clause-quarter72
unfolding sum_below size_below
returns-clause-quarter72 c = record { total_is = refl; size_is = refl; weighed_is = refl }
