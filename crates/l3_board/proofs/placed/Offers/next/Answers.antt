use Rattle.std.proofs.Common.{subst}
use Rattle.l3_board.specs.Offers.{AreAhead}
use Rattle.l3_board.proofs.placed.Offers.next.Goals as goal

pub returns-clause-ahead : goal.returns-clause-ahead
returns-clause-ahead c = subst AreAhead c.self.view_is c.self.invariant
