use Rattle.std.proofs.Common.{◌≡◌, ◌≢◌, ◌≤◌, ℕ, ◌+◌, ◌<◌}
use Rattle.l3_base.specs.Slots.{slot_in}
use Rattle.l3_transform.specs.Samples.{HasShape}
use Rattle.l3_transform.proofs.following.keep_subband.Given as goal

abbrev pub invariant-loop-k : goal.invariant-loop-k
invariant-loop-k l = record {
  shape : HasShape l.slots;
  kept : (k : ℕ) → k < l.k → slot_in l.slots l.i k ≡ slot_in l.fn.slots l.i (k + 18);
  ahead : (k : ℕ) → 18 ≤ k → slot_in l.slots l.i k ≡ slot_in l.fn.slots l.i k;
  others : (m k : ℕ) → m ≢ l.i → slot_in l.slots m k ≡ slot_in l.fn.slots m k;
}
