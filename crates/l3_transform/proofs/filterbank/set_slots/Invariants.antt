use Rattle.std.proofs.Common.{◌≡◌, ◌≢◌, ℕ, ◌<◌}
use Rattle.l3_base.specs.Slots.{slot_in}
use Rattle.l3_base.specs.Lists.{entry}
use Rattle.l3_base.specs.Filterbank.{turned}
use Rattle.l3_transform.specs.Samples.{HasShape}
use Rattle.l3_transform.proofs.filterbank.set_slots.Given as goal

abbrev pub invariant-loop-i : goal.invariant-loop-i
invariant-loop-i l = record {
  shape : HasShape l.out;
  set : (m : ℕ) → m < l.i → slot_in l.out m l.k ≡ turned m l.k (entry l.slots m);
  others : (m n : ℕ) → m < 32 → n ≢ l.k → slot_in l.out m n ≡ slot_in l.fn.out m n;
}
