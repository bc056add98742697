use Rattle.std.proofs.Common.{rules, ◌≡◌, to_z, of_z, w32, FitsSigned, ap, ◌∙◌}
use Rattle.std.proofs.lemmas.Int.{to_z-of_z}
use Rattle.l3_base.specs.Lists.{entry}
use Rattle.l3_base.specs.Filterbank.{turned}
use Rattle.l3_transform.proofs.Shapes.{shape_kept, slot_in-filled, slot_in-other}
use Rattle.l3_transform.proofs.filterbank.set_slots.Goals as goal

pub loop-i-preserved : goal.loop-i-preserved
loop-i-preserved c =
    let fits : FitsSigned w32 c.turned_at.result = search rules in
    let fits_slot : FitsSigned w32 (entry c.args.slots.now c.loop-i.i) = search rules in
    let slot : to_z w32 (of_z w32 c.turned_at.result) ≡ turned c.loop-i.i c.args.k (entry c.args.slots.now c.loop-i.i) =
    to_z-of_z w32 c.turned_at.result fits ∙ (c.turned_at.ensures.value ∙ ap (turned c.loop-i.i c.args.k) (to_z-of_z w32 (entry c.args.slots.now c.loop-i.i) fits_slot)) in
    rw c.set.ensures (record {
      shape = shape_kept c.loop-i.out c.loop-i.i c.args.k (to_z w32 (of_z w32 c.turned_at.result)) c.loop-i.invariant.shape c.loop-i-test.true;
      set = slot_in-filled c.loop-i.out c.loop-i.i c.args.k (to_z w32 (of_z w32 c.turned_at.result)) (λ m. turned m c.args.k (entry c.args.slots.now m)) c.loop-i.invariant.shape c.loop-i-test.true c.requires.slot c.loop-i.invariant.set slot;
      others = λ m n low ne. slot_in-other c.loop-i.out c.loop-i.i c.args.k m n (to_z w32 (of_z w32 c.turned_at.result)) c.loop-i.invariant.shape c.loop-i-test.true ne ∙ c.loop-i.invariant.others m n low ne;
    })
