use Rattle.std.proofs.Common.{arith}
use Rattle.l3_quant.proofs.ReachedLemmas.{greatest_reached-least}
use Rattle.l3_quant.proofs.Entries.{above_is, below_is}
use Rattle.l3_quant.proofs.reached.reached.Goals as goal

pub returns-then-threshold-y : goal.returns-then-threshold-y
returns-then-threshold-y c = omega (arith, greatest_reached-least c.args.y 8192 (above_is 8192 c.args.y (omega arith) (omega arith)))

pub returns-else-threshold-y : goal.returns-else-threshold-y
returns-else-threshold-y c = omega (arith, below_is 8192 c.args.y (omega arith) (omega arith))
