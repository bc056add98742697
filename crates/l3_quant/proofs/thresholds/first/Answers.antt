use Rattle.std.proofs.Common.{refl}
use Rattle.l3_quant.specs.Thresholds.{low_at}
use Rattle.l3_quant.proofs.Blocks.{first_is}
use Rattle.l3_quant.proofs.thresholds.first.Goals as goal

pub returns-clause-value : goal.returns-clause-value
unfolding low_at
returns-clause-value c = refl

pub returns-clause-small : goal.returns-clause-small
unfolding low_at
returns-clause-small c = (first_is c.args.block c.requires).1
