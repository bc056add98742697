use Rattle.std.proofs.Common.{refl, sym}
use Rattle.l3_board.specs.declared.cell.Content.TheVariants.{Empty, Ready}
use Rattle.l3_board.specs.declared.event.Deposit.TheVariants.{Kept, Late, Stray}
use Rattle.l3_board.proofs.CallLemmas.{place_asked, place_within, reads, sound_after, kept_step, late_step, stray_claimed, stray_withdrawn, stray_else}
use Rattle.l3_board.proofs.OutcomeLemmas.{deposit_one}
use Rattle.l3_board.proofs.machine.Core.deposit.Goals as goal
use Rattle.l3_board.proofs.machine.Core.deposit.Goals.{in_default-via-in-Claimed+else-granule-number, in_default-via-in-Withdrawn+else-granule-number-2, in_default-via-in_default}

pub place_of-at-requires : goal.place_of-at-requires
place_of-at-requires g c =
    place_asked g.T.Numbered.number_of c.self.inside.cells.items c.self.inside.shut c.len.result _ c.len.ensures c.self.inside.cells.ok.0 c.self.invariant

pub index-requires : goal.index-requires
index-requires g c =
    place_within g.T.Numbered.number_of c.self.inside.cells.items c.self.inside.shut c.len.result _ c.number-number.result c.place_of-at.result c.len.ensures c.self.inside.cells.ok.0 c.place_of-at.ensures c.self.invariant

pub index_mut-requires : goal.index_mut-requires
index_mut-requires g c =
    place_within g.T.Numbered.number_of c.self.inside.cells.items c.self.inside.shut c.len.result _ c.number-number.result c.place_of-at.result c.len.ensures c.self.inside.cells.ok.0 c.place_of-at.ensures c.self.invariant

pub index_mut-requires-in-Withdrawn : goal.index_mut-requires-in-Withdrawn
index_mut-requires-in-Withdrawn g c =
    place_within g.T.Numbered.number_of c.self.inside.cells.items c.self.inside.shut c.len.result _ c.number-number.result c.place_of-at.result c.len.ensures c.self.inside.cells.ok.0 c.place_of-at.ensures c.self.invariant

pub invariant_of-self : goal.invariant_of-self
invariant_of-self g c =
    let r = reads g.T.Numbered.number_of c.args.self.now c.self.inside.cells.items c.self.inside.shut _ _ _ _ _ c.index.result.now c.self.view_is c.self.invariant c.number-number.ensures c.len.ensures c.self.inside.cells.ok.0 c.place_of-at.ensures c.index.ensures in
    sound_after g.T.Numbered.number_of r _ (Ready c.args.item) refl (sym r.place)

pub invariant_of-self-then-granule-number-2 : goal.invariant_of-self-then-granule-number-2
invariant_of-self-then-granule-number-2 g c =
    let r = reads g.T.Numbered.number_of c.args.self.now c.self.inside.cells.items c.self.inside.shut _ _ _ _ _ c.index.result.now c.self.view_is c.self.invariant c.number-number.ensures c.len.ensures c.self.inside.cells.ok.0 c.place_of-at.ensures c.index.ensures in
    sound_after g.T.Numbered.number_of r _ (Empty c.args.item) refl tt

pub returns-in-Claimed-clause-step : goal.returns-in-Claimed-clause-step
returns-in-Claimed-clause-step g c =
    let r = reads g.T.Numbered.number_of c.args.self.now c.self.inside.cells.items c.self.inside.shut _ _ _ _ _ c.index.result.now c.self.view_is c.self.invariant c.number-number.ensures c.len.ensures c.self.inside.cells.ok.0 c.place_of-at.ensures c.index.ensures in
    kept_step g.T.Numbered.number_of c.args.item c.in-Claimed.granule c.number-number.result r c.number-number.ensures c.in-Claimed.is c.if-granule-number.true

pub returns-in-Claimed-clause-exact : goal.returns-in-Claimed-clause-exact
returns-in-Claimed-clause-exact g c =
    deposit_one g.T.Numbered.number_of c.args.self.now _ c.args.item Kept (returns-in-Claimed-clause-step g c)

pub returns-in-Withdrawn-clause-step : goal.returns-in-Withdrawn-clause-step
returns-in-Withdrawn-clause-step g c =
    let r = reads g.T.Numbered.number_of c.args.self.now c.self.inside.cells.items c.self.inside.shut _ _ _ _ _ c.index.result.now c.self.view_is c.self.invariant c.number-number.ensures c.len.ensures c.self.inside.cells.ok.0 c.place_of-at.ensures c.index.ensures in
    late_step g.T.Numbered.number_of c.args.item c.in-Withdrawn.granule c.number-number.result r c.number-number.ensures c.in-Withdrawn.is c.if-granule-number-2.true

pub returns-in-Withdrawn-clause-exact : goal.returns-in-Withdrawn-clause-exact
returns-in-Withdrawn-clause-exact g c =
    deposit_one g.T.Numbered.number_of c.args.self.now _ c.args.item Late (returns-in-Withdrawn-clause-step g c)

pub returns-in_default-clause-step : goal.returns-in_default-clause-step
returns-in_default-clause-step g c =
    let r = reads g.T.Numbered.number_of c.args.self.now c.self.inside.cells.items c.self.inside.shut _ _ _ _ _ c.index.result.now c.self.view_is c.self.invariant c.number-number.ensures c.len.ensures c.self.inside.cells.ok.0 c.place_of-at.ensures c.index.ensures in
    elim c.in_default.branch [
      | in_default-via-in-Claimed+else-granule-number w ↦ stray_claimed g.T.Numbered.number_of c.args.item _ _ r c.number-number.ensures w.in-Claimed.is w.if-granule-number.false
      | in_default-via-in-Withdrawn+else-granule-number-2 w ↦ stray_withdrawn g.T.Numbered.number_of c.args.item _ _ r c.number-number.ensures w.in-Withdrawn.is w.if-granule-number-2.false
      | in_default-via-in_default w ↦ stray_else g.T.Numbered.number_of c.args.item r w.in_default.not-Claimed w.in_default.not-Withdrawn
    ]

pub returns-in_default-clause-exact : goal.returns-in_default-clause-exact
returns-in_default-clause-exact g c =
    deposit_one g.T.Numbered.number_of c.args.self.now c.args.self.now c.args.item (Stray c.args.item) (returns-in_default-clause-step g c)
