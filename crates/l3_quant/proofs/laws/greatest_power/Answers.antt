use Rattle.l3_quant.proofs.FourThirds.{four_thirds_of-greatest}
use Rattle.l3_quant.proofs.laws.greatest_power.Goals as goal

pub returns : goal.returns
returns c = four_thirds_of-greatest
