use Rattle.std.proofs.Common.{arith}
use Rattle.l3_quant.proofs.Entries.{threshold_is}
use Rattle.l3_quant.proofs.laws.threshold_laws.Goals as goal

pub returns : goal.returns
returns c = λ n le. threshold_is n (omega arith)
