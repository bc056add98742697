use Rattle.std.proofs.Common.{◌≡◌, ◌≢◌, ℕ, ◌+◌, ◌-◌, ◌*◌, ◌<◌, below_more, pos, ℤ, arith, ap, ◌∙◌}
use Rattle.std.proofs.lemmas.List.Elements.{All-get_or}
use Rattle.l3_base.specs.Slots.{slot_in}
use Rattle.l3_base.specs.Lists.{entry}
use Rattle.l3_base.specs.Sums.{IsWithin}
use Rattle.l3_base.specs.Filterbank.{slot_sum, window_slot, turned, turned_slot}
use Rattle.l3_base.proofs.Entries.{within_same}
use Rattle.l3_transform.proofs.Shapes.{slots_are, slots_small}
use Rattle.l3_transform.proofs.WindowSlots.{turned_small}
use Rattle.l3_transform.proofs.ColumnSlots.{taps_of}
use Rattle.l3_transform.specs.Pairs.{AreTaps}
use Rattle.l3_base.proofs.ListLemmas.{get_or-tabulate}
use Rattle.l3_transform.proofs.filterbank.fill_from.Goals as goal

pub loop-k-init : goal.loop-k-init
loop-k-init c = record {
  shape = c.requires.shape;
  value = c.requires.value;
  small = c.requires.small;
}

pub set_slots-requires-clause-small : goal.set_slots-requires-clause-small
set_slots-requires-clause-small c =
    c.subbands.ensures.bound (λ n. entry c.args.window.now (32 * c.loop-k.k + 511 - n)) (taps_of c.args.window.now c.make_rows.new.rows c.args.from c.loop-k.k (omega arith) (omega arith) c.make_rows.ensures)

pub loop-k-preserved : goal.loop-k-preserved
unfolding turned_slot window_slot
loop-k-preserved c =
    let newest : ℕ → ℤ = λ n. entry c.args.window.now (32 * c.loop-k.k + 511 - n) in
    let taps : AreTaps newest c.make_rows.new.rows c.loop-k.k = taps_of c.args.window.now c.make_rows.new.rows c.args.from c.loop-k.k (omega arith) (omega arith) c.make_rows.ensures in
    let slot : (i : ℕ) → i < 32 → entry c.subbands.new.out i ≡ window_slot c.args.window.now i c.loop-k.k =
    λ i low. ap (λ xs. entry xs i) (c.subbands.ensures.value newest taps) ∙ get_or-tabulate 32 i (slot_sum newest) (pos 0) low in
    let bound : (i : ℕ) → i < 32 → IsWithin 44598016 (entry c.subbands.new.out i) =
    λ i low. All-get_or (IsWithin 44598016) c.subbands.new.out i (pos 0) (omega arith) (c.subbands.ensures.bound newest taps) in
    record {
      shape = c.set_slots.ensures.shape;
      value = λ i n low lt. below_more (λ m. slot_in c.set_slots.new.out i m ≡ turned_slot c.args.window.now i m) c.loop-k.k
          (λ m under. let ne : m ≢ c.loop-k.k = omega arith in c.set_slots.ensures.others i m low ne ∙ c.loop-k.invariant.value i m low under)
          (c.set_slots.ensures.set i low ∙ ap (turned i c.loop-k.k) (slot i low)) n lt;
      small = λ i n low lt. below_more (λ m. IsWithin 44598016 (slot_in c.set_slots.new.out i m)) c.loop-k.k
          (λ m under. let ne : m ≢ c.loop-k.k = omega arith in within_same 44598016 _ _ (c.set_slots.ensures.others i m low ne) (c.loop-k.invariant.small i m low under))
          (within_same 44598016 _ _ (c.set_slots.ensures.set i low) (turned_small i c.loop-k.k (entry c.subbands.new.out i) 44598016 (bound i low))) n lt;
    }

pub returns-clause-value : goal.returns-clause-value
returns-clause-value c =
    slots_are c.loop-k.out c.args.window.now c.loop-k.invariant.shape (λ i k low lt. c.loop-k.invariant.value i k low (omega arith))

pub returns-clause-bound : goal.returns-clause-bound
returns-clause-bound c =
    slots_small c.loop-k.out c.loop-k.invariant.shape (λ i k low lt. c.loop-k.invariant.small i k low (omega arith))
