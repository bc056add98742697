use Rattle.std.proofs.Common.{inl, inr, refl, sym}
use Rattle.l3_board.specs.declared.cell.Content.TheVariants.{Empty, Offered}
use Rattle.l3_board.specs.declared.event.Offer.TheVariants.{Placed, Busy}
use Rattle.l3_board.proofs.CallLemmas.{place_asked, place_within, reads, one_item, sound_after, placed_step, busy_step}
use Rattle.l3_board.proofs.OutcomeLemmas.{offer_one}
use Rattle.l3_board.proofs.machine.Core.offer.Goals as goal
use Rattle.l3_board.proofs.machine.Core.offer.Goals.{in_default-via-in-Empty+else-not-self, in_default-via-in_default}

pub place_of-at-requires : goal.place_of-at-requires
place_of-at-requires g c =
    place_asked g.T.Numbered.number_of c.self.inside.cells.items c.self.inside.shut c.len.result _ c.len.ensures c.self.inside.cells.ok.0 c.self.invariant

pub index-requires : goal.index-requires
index-requires g c =
    place_within g.T.Numbered.number_of c.self.inside.cells.items c.self.inside.shut c.len.result _ c.number.result c.place_of-at.result c.len.ensures c.self.inside.cells.ok.0 c.place_of-at.ensures c.self.invariant

pub index_mut-requires : goal.index_mut-requires
index_mut-requires g c =
    place_within g.T.Numbered.number_of c.self.inside.cells.items c.self.inside.shut c.len.result _ c.number.result c.place_of-at.result c.len.ensures c.self.inside.cells.ok.0 c.place_of-at.ensures c.self.invariant

pub exchange-requires : goal.exchange-requires
exchange-requires g c =
    let r = reads g.T.Numbered.number_of c.args.self.now c.self.inside.cells.items c.self.inside.shut _ _ _ _ _ c.index.result.now c.self.view_is c.self.invariant c.number.ensures c.len.ensures c.self.inside.cells.ok.0 c.place_of-at.ensures c.index.ensures in
    one_item g.T.Numbered.number_of r _ (Empty c.in-Empty.field-0) _ c.index_mut.ensures.value c.in-Empty.is refl

pub invariant_of-self : goal.invariant_of-self
invariant_of-self g c =
    let r = reads g.T.Numbered.number_of c.args.self.now c.self.inside.cells.items c.self.inside.shut _ _ _ _ _ c.index.result.now c.self.view_is c.self.invariant c.number.ensures c.len.ensures c.self.inside.cells.ok.0 c.place_of-at.ensures c.index.ensures in
    sound_after g.T.Numbered.number_of r c.exchange.new.self (Offered c.args.item) c.exchange.ensures.left (sym r.place)

pub returns-in-Empty-clause-step : goal.returns-in-Empty-clause-step
returns-in-Empty-clause-step g c =
    let r = reads g.T.Numbered.number_of c.args.self.now c.self.inside.cells.items c.self.inside.shut _ _ _ _ _ c.index.result.now c.self.view_is c.self.invariant c.number.ensures c.len.ensures c.self.inside.cells.ok.0 c.place_of-at.ensures c.index.ensures in
    placed_step g.T.Numbered.number_of c.args.item c.in-Empty.field-0 c.exchange.result c.index_mut.result.now c.exchange.new.self r c.if-not-self.true c.in-Empty.is c.index_mut.ensures.value c.exchange.ensures.item c.exchange.ensures.left

pub returns-in-Empty-clause-exact : goal.returns-in-Empty-clause-exact
returns-in-Empty-clause-exact g c =
    offer_one g.T.Numbered.number_of c.args.self.now _ c.args.item (Placed c.exchange.result) (returns-in-Empty-clause-step g c)

pub returns-in_default-clause-step : goal.returns-in_default-clause-step
returns-in_default-clause-step g c =
    let r = reads g.T.Numbered.number_of c.args.self.now c.self.inside.cells.items c.self.inside.shut _ _ _ _ _ c.index.result.now c.self.view_is c.self.invariant c.number.ensures c.len.ensures c.self.inside.cells.ok.0 c.place_of-at.ensures c.index.ensures in
    elim c.in_default.branch [
      | in_default-via-in-Empty+else-not-self w ↦ busy_step g.T.Numbered.number_of c.args.item r (inl w.if-not-self.false)
      | in_default-via-in_default w ↦ busy_step g.T.Numbered.number_of c.args.item r (inr w.in_default.not-Empty)
    ]

pub returns-in_default-clause-exact : goal.returns-in_default-clause-exact
returns-in_default-clause-exact g c =
    offer_one g.T.Numbered.number_of c.args.self.now c.args.self.now c.args.item (Busy c.args.item) (returns-in_default-clause-step g c)
