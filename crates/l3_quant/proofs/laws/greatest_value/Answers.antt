use Rattle.l3_quant.proofs.ReachedLemmas.{greatest_reached-greatest}
use Rattle.l3_quant.proofs.laws.greatest_value.Goals as goal

pub returns : goal.returns
returns c = greatest_reached-greatest
