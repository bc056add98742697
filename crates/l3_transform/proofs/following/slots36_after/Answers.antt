use Rattle.std.proofs.Common.{◌+◌, ap, ◌∙◌, arith}
use Rattle.l3_base.specs.Slots.{slot_in}
use Rattle.l3_transform.proofs.SharedSlots.{shape_of, slot_in-of, taken_over, small_in}
use Rattle.l3_transform.proofs.following.slots36_after.Goals as goal

pub keep-requires-clause-shape : goal.keep-requires-clause-shape
keep-requires-clause-shape c = rw c.requires.value (shape_of c.args.before.now)

pub keep-requires-clause-small : goal.keep-requires-clause-small
keep-requires-clause-small c = small_in c.args.slots.now (rw c.requires.value (shape_of c.args.before.now)) c.requires.bound

pub fill_from-requires-clause-value : goal.fill_from-requires-clause-value
fill_from-requires-clause-value c = λ i k low lt.
    c.keep.ensures.kept i k low lt
    ∙ (ap (λ s. slot_in s i (k + 18)) c.requires.value
    ∙ (slot_in-of c.args.before.now i (k + 18) low (omega arith)
    ∙ taken_over c.args.before.now c.args.window.now i k lt c.if-follows.ensures))

pub fill_from-requires-clause-small : goal.fill_from-requires-clause-small
fill_from-requires-clause-small c = λ i k low lt.
    rw (c.keep.ensures.kept i k low lt) (small_in c.args.slots.now (rw c.requires.value (shape_of c.args.before.now)) c.requires.bound i (k + 18) low (omega arith))
