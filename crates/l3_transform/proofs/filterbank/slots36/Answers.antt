use Rattle.std.proofs.Common.{arith}
use Rattle.l3_transform.proofs.Shapes.{shape_zero}
use Rattle.l3_transform.proofs.filterbank.slots36.Goals as goal

pub fill_from-requires-clause-shape : goal.fill_from-requires-clause-shape
fill_from-requires-clause-shape c = rw c.zero.ensures shape_zero

pub fill_from-requires-clause-value : goal.fill_from-requires-clause-value
fill_from-requires-clause-value c = λ i k low none. absurd (omega arith)

pub fill_from-requires-clause-small : goal.fill_from-requires-clause-small
fill_from-requires-clause-small c = λ i k low none. absurd (omega arith)
