use Rattle.l3_base.proofs.FloorLemmas.{floor_is_greatest}
use Rattle.l3_base.proofs.sums.sum_laws.Goals as goal

pub returns : goal.returns
returns c = floor_is_greatest
