use Rattle.std.proofs.Common.{refl}
use Rattle.l3_quant.specs.Thresholds.{middle_at}
use Rattle.l3_quant.proofs.Blocks.{middle_small}
use Rattle.l3_quant.proofs.thresholds.middle.Goals as goal

pub returns-clause-value : goal.returns-clause-value
unfolding middle_at
returns-clause-value c = refl

pub returns-clause-small : goal.returns-clause-small
unfolding middle_at
returns-clause-small c = middle_small c.args.block c.requires
