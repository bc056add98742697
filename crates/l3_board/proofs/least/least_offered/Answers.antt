use Rattle.std.proofs.Common.{arith}
use Rattle.l3_board.proofs.LeastLemmas.{front_whole, IfSome-found, IfNone-found}
use Rattle.l3_board.proofs.least.least_offered.Goals as goal

pub returns-clause-some : goal.returns-clause-some
returns-clause-some g c = IfSome-found g.T.Numbered.number_of c.args.cells.now c.loop-at.least (rw (front_whole c.args.cells.now c.loop-at.at (omega arith)) at c.loop-at.invariant)

pub returns-clause-none : goal.returns-clause-none
returns-clause-none g c = IfNone-found g.T.Numbered.number_of c.args.cells.now c.loop-at.least (rw (front_whole c.args.cells.now c.loop-at.at (omega arith)) at c.loop-at.invariant)
