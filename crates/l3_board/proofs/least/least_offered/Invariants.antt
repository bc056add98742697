use Rattle.std.proofs.Common.{take}
use Rattle.l3_board.specs.Replies.{FindsLeast}
use Rattle.l3_board.proofs.least.least_offered.Given as goal

abbrev pub invariant-loop-at : goal.invariant-loop-at
invariant-loop-at g l = FindsLeast g.T.Numbered.number_of (take l.at l.cells) l.least
