use Rattle.std.proofs.Common.{refl}
use Rattle.l3_count.specs.Cost.{no_costs}
use Rattle.l3_count.proofs.lane.none.Goals as goal

pub returns : goal.returns
unfolding no_costs
returns c = refl
