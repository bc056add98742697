use Rattle.std.proofs.Common.{◌≡◌, ◌<◌, ◌%◌, ap, sym, subst, ◌∙◌, length, arith}
use Rattle.std.proofs.Math.Nat.{mod-lt}
use Rattle.l3_board.specs.Offers.{OffersView, AreAhead, IsNear}
use Rattle.l3_board.proofs.OfferLemmas.{ahead-taken}
use Rattle.l3_board.proofs.RecordLemmas.{goes-set, told-after, told-next}
use Rattle.l3_board.proofs.placed.Offers.take.Goals as goal

pub invariant_of-self : goal.invariant_of-self
invariant_of-self g c =
    let is = c.self.view_is in
    let long : length c.self.inside.placed.items ≡ length c.args.self.now.placed = ap (λ (v : OffersView). length v.placed) is in
    let some = (g.B.Board.desk_entries c.args.board.now c.args.desk.now c.requires.made).1 in
    let room : 0 < length c.self.inside.placed.items = subst (λ k. 0 < k) (sym (long ∙ c.requires.cells)) some in
    rw (c.len.ensures ∙ c.self.inside.placed.ok.0) (ahead-taken c.self.inside.placed.items c.self.inside.next c.self.invariant (mod-lt c.self.inside.next room))

pub returns-clause-goes : goal.returns-clause-goes
returns-clause-goes g c =
    let is = c.self.view_is in
    let now = c.args.self.now in
    let placed = ap (λ (v : OffersView). v.placed) is in
    let next = ap (λ (v : OffersView). v.next) is in
    let number = c.in-Some.ensures.some.0 in
    let cells = g.B.Board.cells c.args.board.now in
    let long : length c.self.inside.placed.items ≡ cells = ap (λ (v : OffersView). length v.placed) is ∙ c.requires.cells in
    let size : c.len.result ≡ cells = c.len.ensures ∙ (c.self.inside.placed.ok.0 ∙ long) in
    let some = (g.B.Board.desk_entries c.args.board.now c.args.desk.now c.requires.made).1 in
    let ahead = subst AreAhead is c.self.invariant in
    let near : IsNear now c.in-Some.number =
    subst (λ k. IsNear now k) (sym (number ∙ next)) (omega arith, (let l = c.requires.cells in omega (arith, l, some))) in
    let own = told-next (g.B.Board.last c.args.desk.now) now cells c.in-Some.number ahead near c.requires.goes c.requires.cells in
    goes-set (g.B.Board.last c.args.desk.now) (g.B.Board.last c.take.new.desk) c.self.inside.placed.items _ _ _ _ c.take.ensures.last (c.requires.goes ∙ sym placed)
    (ap (λ k. k % cells) number ∙ ap (λ k. c.self.inside.next % k) (sym size)) (told-after c.in-Some.number c.take.result _ own)
