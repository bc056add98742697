use Rattle.std.proofs.Common.{◌≡◌, ◌+◌, ◌<◌, ◌≤◌, ℕ, length, refl, subst, sym}
use Rattle.std.specs.Prelude.{None, Some}
use Rattle.l3_board.specs.Offers.{placed_at}
use Rattle.l3_commit.proofs.Offering.{offered-there}
use Rattle.l3_commit.proofs.ahead.offer_unless_there.Goals as goal

pub returns-then-has-clause-offered : goal.returns-then-has-clause-offered
returns-then-has-clause-offered g c = offered-there (g.B.Board.last c.args.desk.now) c.args.offers.now (g.B.Board.cells c.args.board.now) c.args.number c.requires.goes c.requires.cells (subst (λ k. placed_at c.args.offers.now.placed k ≡ Some k) c.get.ensures.value (c.has.ensures.there c.if-has.true))

pub returns-then-has-clause-others : goal.returns-then-has-clause-others
returns-then-has-clause-others g c = λ k other. refl

pub has-requires-clause-some : goal.has-requires-clause-some
has-requires-clause-some g c = subst (λ (n : ℕ). 0 < n) (sym c.requires.cells) c.requires.some

pub has-requires-clause-near : goal.has-requires-clause-near
has-requires-clause-near g c =
    let v = c.args.offers.now in
    subst (λ (n : ℕ). (v.next ≤ n) × (n < v.next + length v.placed)) (sym c.get.ensures.value) c.requires.near

pub offer_one-requires-clause-near : goal.offer_one-requires-clause-near
offer_one-requires-clause-near g c κs within = c.requires.near

pub offer_one-requires-clause-absent : goal.offer_one-requires-clause-absent
offer_one-requires-clause-absent g c κs within = subst (λ (n : ℕ). placed_at c.args.offers.now.placed n ≡ None) c.get.ensures.value (c.has.ensures.absent c.if-has.false)

pub offer_one-requires-clause-kept : goal.offer_one-requires-clause-kept
offer_one-requires-clause-kept g c κs within = c.requires.kept

pub offer_one-requires-clause-there : goal.offer_one-requires-clause-there
offer_one-requires-clause-there g c κs within = c.requires.there

pub returns-clause-offered : goal.returns-clause-offered
returns-clause-offered g c = c.offer_one.ensures.offered

pub returns-clause-others : goal.returns-clause-others
returns-clause-others g c = c.offer_one.ensures.others
