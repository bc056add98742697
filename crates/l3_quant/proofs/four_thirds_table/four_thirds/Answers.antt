use Rattle.std.proofs.Common.{arith}
use Rattle.l3_quant.proofs.FourThirds.{power_is}
use Rattle.l3_quant.proofs.four_thirds_table.four_thirds.Goals as goal

pub returns-clause-value : goal.returns-clause-value
returns-clause-value c = (power_is c.args.n (omega arith)).0

pub returns-clause-small : goal.returns-clause-small
returns-clause-small c = (power_is c.args.n (omega arith)).1
