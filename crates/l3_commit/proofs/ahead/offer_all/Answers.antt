use Rattle.std.proofs.Common.{◌≡◌, ◌∙◌, ℕ, length, true, refl, subst, sym, arith}
use Rattle.l3_board.specs.Offers.{IsOfferedAnew, OthersStay}
use Rattle.l3_commit.proofs.Offering.{Offering, kept-there, near-next, not-past, offering-all, offering-first, offering-more, read-there, some-cells}
use Rattle.l3_commit.proofs.ahead.offer_all.Goals as goal

pub loop-number-preserved : goal.loop-number-preserved
loop-number-preserved g c =
    let inv = c.loop-number.invariant in
    let e = c.offer_unless_there-piece.ensures in
    let cells = g.B.Board.cells c.args.board.now in
    let same = c.in-Some.ensures.some.0 in
    let is = subst (λ k. IsOfferedAnew cells (g.B.Board.last c.loop-number.desk) (g.B.Board.last c.offer_unless_there-piece.new.desk) k) same e.offered in
    let stay = subst (λ k. OthersStay cells (g.B.Board.last c.loop-number.desk) (g.B.Board.last c.offer_unless_there-piece.new.desk) k) same e.others in record {
      made = e.made;
      cells = e.cells;
      next = e.next ∙ inv.next;
      goes = e.goes;
      offering = offering-more cells (g.B.Board.last c.args.desk.now) (g.B.Board.last c.loop-number.desk) (g.B.Board.last c.offer_unless_there-piece.new.desk) c.args.offers.now.next c.loop-number.number c.args.end
          inv.offering (omega arith) c.requires.end is stay;
      served = e.served ∙ inv.served;
      got = e.got ∙ inv.got;
    }

pub loop-number-init : goal.loop-number-init
loop-number-init g c = record {
  made = c.requires.made;
  cells = c.requires.cells;
  next = refl;
  goes = c.requires.goes;
  offering =
      let cells = g.B.Board.cells c.args.board.now in
      let last = g.B.Board.last c.args.desk.now in
      subst (λ (n : ℕ). Offering cells last last c.args.offers.now.next n c.args.end) (sym c.next-number.ensures.value) (offering-first cells last c.args.offers.now.next c.args.end);
  served = refl;
  got = refl;
}

-- what the call in the loop asks
pub unreachable-requires : goal.unreachable-requires
unreachable-requires g c = not-past 8589934592 c.loop-number.number c.args.end c.in_default.ensures.none c.loop-number-test.true c.requires.limit

pub offer_unless_there-piece-requires-clause-near : goal.offer_unless_there-piece-requires-clause-near
offer_unless_there-piece-requires-clause-near g c κs within =
    let inv = c.loop-number.invariant in
    near-next c.loop-number.offers.next c.args.offers.now.next c.loop-number.number c.args.end (length c.loop-number.offers.placed) (g.B.Board.cells c.args.board.now) c.in-Some.granule
    inv.next inv.offering.started c.loop-number-test.true c.requires.end inv.cells c.in-Some.ensures.some.0

pub offer_unless_there-piece-requires-clause-some : goal.offer_unless_there-piece-requires-clause-some
offer_unless_there-piece-requires-clause-some g c κs within =
    some-cells c.args.offers.now.next c.loop-number.number c.args.end (g.B.Board.cells c.args.board.now) c.loop-number.invariant.offering.started c.loop-number-test.true c.requires.end

pub offer_unless_there-piece-requires-clause-kept : goal.offer_unless_there-piece-requires-clause-kept
offer_unless_there-piece-requires-clause-kept g c κs within =
    kept-there c.args.windows.now.base c.args.offers.now.next c.loop-number.number c.args.end (g.B.Board.cells c.args.board.now) c.args.windows.now.ahead c.in-Some.granule
    c.requires.base c.loop-number.invariant.offering.started c.loop-number-test.true c.requires.end c.requires.few c.in-Some.ensures.some.0

pub offer_unless_there-piece-requires-clause-there : goal.offer_unless_there-piece-requires-clause-there
offer_unless_there-piece-requires-clause-there g c κs within =
    let w = c.args.windows.now in
    read-there (w.ended ≡ true) c.args.offers.now.next c.loop-number.number c.args.end (g.B.Board.cells c.args.board.now) w.ahead c.in-Some.granule w.read
    c.loop-number-test.true c.requires.end c.requires.few c.in-Some.ensures.some.0 c.requires.hand

pub returns-clause-offered : goal.returns-clause-offered
returns-clause-offered g c =
    offering-all (g.B.Board.cells c.args.board.now) (g.B.Board.last c.args.desk.now) (g.B.Board.last c.loop-number.desk) c.args.offers.now.next c.loop-number.number c.args.end
    c.loop-number.invariant.offering c.loop-number-test.false

pub returns-clause-rest : goal.returns-clause-rest
returns-clause-rest g c = c.loop-number.invariant.offering.rest
