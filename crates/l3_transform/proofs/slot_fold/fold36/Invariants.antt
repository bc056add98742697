use Rattle.std.proofs.Common.{◌≡◌, ℕ, ◌<◌, ◌≤◌, length}
use Rattle.l3_base.specs.Lists.{entry}
use Rattle.l3_transform.specs.SlotFold.{folded_slot}
use Rattle.l3_transform.proofs.slot_fold.fold36.Given as goal

abbrev pub invariant-loop-k : goal.invariant-loop-k
invariant-loop-k l = record {
  long : length l.t ≡ 18;
  value : (n : ℕ) → n < l.k → entry l.t n ≡ folded_slot (entry l.z) n;
}

abbrev pub invariant-loop-k-2 : goal.invariant-loop-k-2
invariant-loop-k-2 l = record {
  from : 9 ≤ l.k;
  long : length l.t ≡ 18;
  value : (n : ℕ) → n < l.k → entry l.t n ≡ folded_slot (entry l.z) n;
}
