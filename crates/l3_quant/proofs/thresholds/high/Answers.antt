use Rattle.std.proofs.Common.{refl}
use Rattle.l3_quant.specs.Thresholds.{high_at}
use Rattle.l3_quant.proofs.thresholds.high.Goals as goal

pub returns : goal.returns
unfolding high_at
returns c = refl
