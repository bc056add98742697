use Rattle.std.proofs.Common.{◌≡◌, ◌+◌, ◌<◌, ◌≤◌, ℕ, length, None, ap, subst, sym}
use Rattle.l3_analysis.specs.Piece.{PieceView}
use Rattle.l3_board.specs.Offers.{placed_at, IsOfferedAnew, OthersStay}
use Rattle.l3_commit.proofs.ahead.offer_one.Goals as goal

pub window-requires-clause-near : goal.window-requires-clause-near
window-requires-clause-near g c = c.requires.kept

pub window-requires-clause-there : goal.window-requires-clause-there
window-requires-clause-there g c = c.requires.there

-- the piece has the granule's number
pub offer-requires-clause-near : goal.offer-requires-clause-near
offer-requires-clause-near g c κs within =
    let v = c.args.offers.now in
    subst (λ (n : ℕ). (v.next ≤ n) × (n < v.next + length v.placed)) (sym (ap (λ (p : PieceView). p.number) c.load.ensures)) c.requires.near

pub offer-requires-clause-absent : goal.offer-requires-clause-absent
offer-requires-clause-absent g c κs within = subst (λ (n : ℕ). placed_at c.args.offers.now.placed n ≡ None) (sym (ap (λ (p : PieceView). p.number) c.load.ensures)) c.requires.absent

pub returns-clause-offered : goal.returns-clause-offered
returns-clause-offered g c =
    subst (λ (n : ℕ). IsOfferedAnew (g.B.Board.cells c.args.board.now) (g.B.Board.last c.args.desk.now) (g.B.Board.last c.offer.new.desk) n)
    (ap (λ (p : PieceView). p.number) c.load.ensures) c.offer.ensures.offered

pub returns-clause-others : goal.returns-clause-others
returns-clause-others g c =
    subst (λ (n : ℕ). OthersStay (g.B.Board.cells c.args.board.now) (g.B.Board.last c.args.desk.now) (g.B.Board.last c.offer.new.desk) n)
    (ap (λ (p : PieceView). p.number) c.load.ensures) c.offer.ensures.others
