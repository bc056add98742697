use Rattle.std.proofs.Common.{arith, refl, sym}
use Rattle.l3_board.specs.declared.cell.Content.TheVariants.{Empty, Offered, Ready, Withdrawn}
use Rattle.l3_board.specs.declared.event.Take.TheVariants.{Got, Revoked, InWork, NotOffered}
use Rattle.l3_board.proofs.CallLemmas.{place_asked, place_within, reads, one_item, sound_after, got_step, revoked_step, in_work_step, not_ready, not_offered, not_claimed, not_there}
use Rattle.l3_board.proofs.OutcomeLemmas.{take_one}
use Rattle.l3_board.proofs.machine.Core.take.Goals as goal
use Rattle.l3_board.proofs.machine.Core.take.Goals.{in_default-via-in-Ready+else-number, in_default-via-in-Offered+else-number-2, in_default-via-in-Claimed+else-granule-number, in_default-via-in_default}

pub place_of-at-requires : goal.place_of-at-requires
place_of-at-requires g c =
    place_asked g.T.Numbered.number_of c.self.inside.cells.items c.self.inside.shut c.len.result _ c.len.ensures c.self.inside.cells.ok.0 c.self.invariant

pub index-requires : goal.index-requires
index-requires g c =
    place_within g.T.Numbered.number_of c.self.inside.cells.items c.self.inside.shut c.len.result _ c.args.number c.place_of-at.result c.len.ensures c.self.inside.cells.ok.0 c.place_of-at.ensures c.self.invariant

pub index_mut-requires : goal.index_mut-requires
index_mut-requires g c =
    place_within g.T.Numbered.number_of c.self.inside.cells.items c.self.inside.shut c.len.result _ c.args.number c.place_of-at.result c.len.ensures c.self.inside.cells.ok.0 c.place_of-at.ensures c.self.invariant

pub index_mut-requires-in-Offered : goal.index_mut-requires-in-Offered
index_mut-requires-in-Offered g c =
    place_within g.T.Numbered.number_of c.self.inside.cells.items c.self.inside.shut c.len.result _ c.args.number c.place_of-at.result c.len.ensures c.self.inside.cells.ok.0 c.place_of-at.ensures c.self.invariant

pub index_mut-requires-in-Claimed : goal.index_mut-requires-in-Claimed
index_mut-requires-in-Claimed g c =
    place_within g.T.Numbered.number_of c.self.inside.cells.items c.self.inside.shut c.len.result _ c.args.number c.place_of-at.result c.len.ensures c.self.inside.cells.ok.0 c.place_of-at.ensures c.self.invariant

pub exchange-requires : goal.exchange-requires
exchange-requires g c =
    let r = reads g.T.Numbered.number_of c.args.self.now c.self.inside.cells.items c.self.inside.shut c.args.number c.args.number _ _ _ c.index.result.now c.self.view_is c.self.invariant refl c.len.ensures c.self.inside.cells.ok.0 c.place_of-at.ensures c.index.ensures in
    one_item g.T.Numbered.number_of r _ (Ready c.in-Ready.item) _ c.index_mut.ensures.value c.in-Ready.is refl

pub exchange-requires-in-Offered : goal.exchange-requires-in-Offered
exchange-requires-in-Offered g c =
    let r = reads g.T.Numbered.number_of c.args.self.now c.self.inside.cells.items c.self.inside.shut c.args.number c.args.number _ _ _ c.index.result.now c.self.view_is c.self.invariant refl c.len.ensures c.self.inside.cells.ok.0 c.place_of-at.ensures c.index.ensures in
    one_item g.T.Numbered.number_of r _ (Offered c.in-Offered.item) _ c.index_mut-in-Offered.ensures.value c.in-Offered.is refl

pub invariant_of-self : goal.invariant_of-self
invariant_of-self g c =
    let r = reads g.T.Numbered.number_of c.args.self.now c.self.inside.cells.items c.self.inside.shut c.args.number c.args.number _ _ _ c.index.result.now c.self.view_is c.self.invariant refl c.len.ensures c.self.inside.cells.ok.0 c.place_of-at.ensures c.index.ensures in
    sound_after g.T.Numbered.number_of r c.exchange.new.self (Empty c.args.spare) c.exchange.ensures.left tt

pub invariant_of-self-then-number-2 : goal.invariant_of-self-then-number-2
invariant_of-self-then-number-2 g c =
    let r = reads g.T.Numbered.number_of c.args.self.now c.self.inside.cells.items c.self.inside.shut c.args.number c.args.number _ _ _ c.index.result.now c.self.view_is c.self.invariant refl c.len.ensures c.self.inside.cells.ok.0 c.place_of-at.ensures c.index.ensures in
    sound_after g.T.Numbered.number_of r c.exchange-in-Offered.new.self (Empty c.args.spare) c.exchange-in-Offered.ensures.left tt

pub invariant_of-self-then-granule-number : goal.invariant_of-self-then-granule-number
invariant_of-self-then-granule-number g c =
    let r = reads g.T.Numbered.number_of c.args.self.now c.self.inside.cells.items c.self.inside.shut c.args.number c.args.number _ _ _ c.index.result.now c.self.view_is c.self.invariant refl c.len.ensures c.self.inside.cells.ok.0 c.place_of-at.ensures c.index.ensures in
    sound_after g.T.Numbered.number_of r _ (Withdrawn c.args.number) refl (sym r.place)

pub returns-in-Ready-clause-step : goal.returns-in-Ready-clause-step
returns-in-Ready-clause-step g c =
    let r = reads g.T.Numbered.number_of c.args.self.now c.self.inside.cells.items c.self.inside.shut c.args.number c.args.number _ _ _ c.index.result.now c.self.view_is c.self.invariant refl c.len.ensures c.self.inside.cells.ok.0 c.place_of-at.ensures c.index.ensures in
    got_step g.T.Numbered.number_of c.args.spare c.in-Ready.item c.exchange.result c.number.result c.index_mut.result.now c.exchange.new.self r c.in-Ready.is c.number.ensures c.if-number.true c.index_mut.ensures.value c.exchange.ensures.item c.exchange.ensures.left

pub returns-in-Ready-clause-exact : goal.returns-in-Ready-clause-exact
returns-in-Ready-clause-exact g c =
    take_one g.T.Numbered.number_of c.args.self.now _ c.args.number c.args.spare (Got c.exchange.result) (returns-in-Ready-clause-step g c)

pub returns-in-Offered-clause-step : goal.returns-in-Offered-clause-step
returns-in-Offered-clause-step g c =
    let r = reads g.T.Numbered.number_of c.args.self.now c.self.inside.cells.items c.self.inside.shut c.args.number c.args.number _ _ _ c.index.result.now c.self.view_is c.self.invariant refl c.len.ensures c.self.inside.cells.ok.0 c.place_of-at.ensures c.index.ensures in
    revoked_step g.T.Numbered.number_of c.args.spare c.in-Offered.item c.exchange-in-Offered.result _ c.index_mut-in-Offered.result.now c.exchange-in-Offered.new.self r c.in-Offered.is (omega arith) c.if-number-2.true c.index_mut-in-Offered.ensures.value c.exchange-in-Offered.ensures.item c.exchange-in-Offered.ensures.left

pub returns-in-Offered-clause-exact : goal.returns-in-Offered-clause-exact
returns-in-Offered-clause-exact g c =
    take_one g.T.Numbered.number_of c.args.self.now _ c.args.number c.args.spare (Revoked c.exchange-in-Offered.result) (returns-in-Offered-clause-step g c)

pub returns-in-Claimed-clause-step : goal.returns-in-Claimed-clause-step
returns-in-Claimed-clause-step g c =
    let r = reads g.T.Numbered.number_of c.args.self.now c.self.inside.cells.items c.self.inside.shut c.args.number c.args.number _ _ _ c.index.result.now c.self.view_is c.self.invariant refl c.len.ensures c.self.inside.cells.ok.0 c.place_of-at.ensures c.index.ensures in
    in_work_step g.T.Numbered.number_of c.args.spare c.in-Claimed.granule r c.in-Claimed.is c.if-granule-number.true

pub returns-in-Claimed-clause-exact : goal.returns-in-Claimed-clause-exact
returns-in-Claimed-clause-exact g c =
    take_one g.T.Numbered.number_of c.args.self.now _ c.args.number c.args.spare (InWork c.args.spare) (returns-in-Claimed-clause-step g c)

pub returns-in_default-clause-step : goal.returns-in_default-clause-step
returns-in_default-clause-step g c =
    let r = reads g.T.Numbered.number_of c.args.self.now c.self.inside.cells.items c.self.inside.shut c.args.number c.args.number _ _ _ c.index.result.now c.self.view_is c.self.invariant refl c.len.ensures c.self.inside.cells.ok.0 c.place_of-at.ensures c.index.ensures in
    elim c.in_default.branch [
      | in_default-via-in-Ready+else-number w ↦ not_ready g.T.Numbered.number_of c.args.spare _ _ r w.in-Ready.is w.number.ensures w.if-number.false
      | in_default-via-in-Offered+else-number-2 w ↦ not_offered g.T.Numbered.number_of c.args.spare _ _ r w.in-Offered.is (omega arith) w.if-number-2.false
      | in_default-via-in-Claimed+else-granule-number w ↦ not_claimed g.T.Numbered.number_of c.args.spare _ r w.in-Claimed.is w.if-granule-number.false
      | in_default-via-in_default w ↦ not_there g.T.Numbered.number_of c.args.spare r w.in_default.not-Ready w.in_default.not-Offered w.in_default.not-Claimed
    ]

pub returns-in_default-clause-exact : goal.returns-in_default-clause-exact
returns-in_default-clause-exact g c =
    take_one g.T.Numbered.number_of c.args.self.now c.args.self.now c.args.number c.args.spare (NotOffered c.args.spare) (returns-in_default-clause-step g c)
