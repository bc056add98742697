use Rattle.std.proofs.Common.{refl}
use Rattle.l3_base.specs.Sums.{sum_below, size_below}
use Rattle.l3_base.proofs.gains.quarter_sums.Goals as goal

pub returns : goal.returns
unfolding sum_below size_below
returns c = record { total_is = refl; size_is = refl; weighed_is = refl }
