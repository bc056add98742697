use Rattle.std.proofs.Common.{◌≡◌, ℕ, ◌<◌, length}
use Rattle.l3_base.specs.Slots.{slot_in}
use Rattle.l3_base.specs.Lists.{entry}
use Rattle.l3_base.specs.Sums.{IsWithin}
use Rattle.l3_transform.specs.Spectrum.{windowed}
use Rattle.l3_transform.proofs.lines.windowed_slots.Given as goal

abbrev pub invariant-loop-k : goal.invariant-loop-k
invariant-loop-k l = record {
  long : length l.z ≡ 36;
  value : (n : ℕ) → n < l.k → entry l.z n ≡ windowed (slot_in l.slots l.band) n;
  bound : (n : ℕ) → n < l.k → IsWithin 44598016 (entry l.z n);
}
