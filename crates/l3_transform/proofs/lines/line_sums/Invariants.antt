use Rattle.std.proofs.Common.{◌≡◌, ℕ, ◌*◌, ◌<◌, ◌^◌, length}
use Rattle.l3_base.specs.Lists.{entry}
use Rattle.l3_base.specs.Sums.{IsWithin}
use Rattle.l3_transform.specs.SlotFold.{folded_slots_sum}
use Rattle.l3_transform.proofs.lines.line_sums.Given as goal

abbrev pub invariant-loop-m : goal.invariant-loop-m
invariant-loop-m l = record {
  long : length l.sums ≡ 18;
  value : (n : ℕ) → n < l.m → entry l.sums n ≡ folded_slots_sum (entry l.f) n;
  bound : (n : ℕ) → n < l.m → IsWithin (18 * (89196032 * 2 ^ 15)) (entry l.sums n);
}
