use Rattle.std.proofs.Common.{◌≡◌, ◌<◌, length}
use Rattle.l3_board.specs.Offers.{GoesWith}
use Rattle.l3_control_tests.proofs.offers.check_offers.Given as goal

abbrev pub invariant-loop-row : goal.invariant-loop-row
invariant-loop-row g l =
    g.B.Board.has_desk l.board l.desk × (length l.offers.placed ≡ g.B.Board.cells l.board) × (0 < length l.offers.placed) × GoesWith (g.B.Board.last l.desk) l.offers × (l.offers.next ≡ l.fn.offers.next)
