use Rattle.l3_quant.proofs.BandLemmas.{one_gain_without_amp}
use Rattle.l3_quant.proofs.laws.without_amplification.Goals as goal

pub returns : goal.returns
returns c = one_gain_without_amp
