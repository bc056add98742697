use Rattle.std.proofs.Common.{refl}
use Rattle.l3_quant.specs.Thresholds.{threshold_at}
use Rattle.l3_quant.proofs.thresholds.threshold.Goals as goal

pub returns : goal.returns
unfolding threshold_at
returns c = refl
