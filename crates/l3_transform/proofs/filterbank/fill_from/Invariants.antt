use Rattle.std.proofs.Common.{◌≡◌, ℕ, ◌<◌}
use Rattle.l3_base.specs.Slots.{slot_in}
use Rattle.l3_base.specs.Sums.{IsWithin}
use Rattle.l3_base.specs.Filterbank.{turned_slot}
use Rattle.l3_transform.specs.Samples.{HasShape}
use Rattle.l3_transform.proofs.filterbank.fill_from.Given as goal

abbrev pub invariant-loop-k : goal.invariant-loop-k
invariant-loop-k l = record {
  shape : HasShape l.out;
  value : (i k : ℕ) → i < 32 → k < l.k → slot_in l.out i k ≡ turned_slot l.window i k;
  small : (i k : ℕ) → i < 32 → k < l.k → IsWithin 44598016 (slot_in l.out i k);
}
