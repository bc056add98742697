use Rattle.std.proofs.Common.{◌≡◌, length}
use Rattle.l3_board.specs.Offers.{GoesWith}
use Rattle.l3_commit.proofs.Offering.{Offering}
use Rattle.l3_commit.proofs.ahead.offer_all.Given as goal

abbrev pub invariant-loop-number : goal.invariant-loop-number
invariant-loop-number g l = record {
  made : g.B.Board.has_desk l.board l.desk;
  cells : length l.offers.placed ≡ g.B.Board.cells l.board;
  next : l.offers.next ≡ l.fn.offers.next;
  goes : GoesWith (g.B.Board.last l.desk) l.offers;
  offering : Offering (g.B.Board.cells l.board) (g.B.Board.last l.fn.desk) (g.B.Board.last l.desk) l.fn.offers.next l.number l.end;
  served : g.B.Board.served l.desk ≡ g.B.Board.served l.fn.desk;
  got : g.B.Board.got l.desk ≡ g.B.Board.got l.fn.desk;
}
