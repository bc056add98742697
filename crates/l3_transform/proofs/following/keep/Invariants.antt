use Rattle.std.proofs.Common.{◌≡◌, ◌≤◌, ℕ, ◌+◌, ◌<◌}
use Rattle.l3_base.specs.Slots.{slot_in}
use Rattle.l3_transform.specs.Samples.{HasShape}
use Rattle.l3_transform.proofs.following.keep.Given as goal

abbrev pub invariant-loop-i : goal.invariant-loop-i
invariant-loop-i l = record {
  shape : HasShape l.slots;
  kept : (i k : ℕ) → i < l.i → k < 18 → slot_in l.slots i k ≡ slot_in l.fn.slots i (k + 18);
  ahead : (i k : ℕ) → l.i ≤ i → slot_in l.slots i k ≡ slot_in l.fn.slots i k;
}
