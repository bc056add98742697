use Rattle.std.proofs.Common.{◌≡◌, ◌<◌, ◌%◌, ap, sym, subst, ◌∙◌, length}
use Rattle.std.proofs.Math.Nat.{mod-lt}
use Rattle.std.specs.Prelude.{Some}
use Rattle.l3_board.specs.Offers.{OffersView, IsNear}
use Rattle.l3_board.proofs.OfferLemmas.{ahead-placed}
use Rattle.l3_board.proofs.RecordLemmas.{goes-set, goes-busy}
use Rattle.l3_board.proofs.placed.Offers.offer.Goals as goal

pub invariant_of-self : goal.invariant_of-self
invariant_of-self g c =
    let is = c.self.view_is in
    let long : length c.self.inside.placed.items ≡ length c.args.self.now.placed = ap (λ (v : OffersView). length v.placed) is in
    let some = (g.B.Board.desk_entries c.args.board.now c.args.desk.now c.requires.made).1 in
    let room : 0 < length c.self.inside.placed.items = subst (λ k. 0 < k) (sym (long ∙ c.requires.cells)) some in
    let near = subst (λ (v : OffersView). IsNear v c.number-number.result) (sym is) (subst (λ k. IsNear c.args.self.now k) (sym c.number-number.ensures) c.requires.near) in
    rw (c.len.ensures ∙ c.self.inside.placed.ok.0) (ahead-placed c.self.inside.placed.items c.self.inside.next c.number-number.result c.self.invariant near (mod-lt c.number-number.result room))

pub returns-in-Placed-clause-goes : goal.returns-in-Placed-clause-goes
returns-in-Placed-clause-goes g c =
    let is = c.self.view_is in
    let placed = ap (λ (v : OffersView). v.placed) is in
    let long : length c.self.inside.placed.items ≡ g.B.Board.cells c.args.board.now = ap (λ (v : OffersView). length v.placed) is ∙ c.requires.cells in
    let size : c.len.result ≡ g.B.Board.cells c.args.board.now = c.len.ensures ∙ (c.self.inside.placed.ok.0 ∙ long) in
    goes-set (g.B.Board.last c.args.desk.now) (g.B.Board.last c.offer.new.desk) c.self.inside.placed.items _ _ _ _ c.in-Placed.ensures.last (c.requires.goes ∙ sym placed)
    (ap (λ k. k % g.B.Board.cells c.args.board.now) (sym c.number-number.ensures) ∙ ap (λ k. c.number-number.result % k) (sym size)) (ap Some (sym c.number-number.ensures))

pub returns-in-Busy-clause-goes : goal.returns-in-Busy-clause-goes
returns-in-Busy-clause-goes g c =
    goes-busy (g.B.Board.last c.args.desk.now) (g.B.Board.last c.offer.new.desk) _ _ c.in-Busy.back c.in-Busy.ensures.last ∙ c.requires.goes
