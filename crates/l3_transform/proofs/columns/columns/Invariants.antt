use Rattle.std.proofs.Common.{◌≡◌, ℕ, ◌<◌, ◌^◌, pos, ◌+ℤ◌, ◌*ℤ◌, length}
use Rattle.l3_base.specs.Lists.{entry}
use Rattle.l3_base.specs.Sums.{IsWithin}
use Rattle.l3_transform.proofs.columns.columns.Given as goal

abbrev pub invariant-loop-j : goal.invariant-loop-j
invariant-loop-j l = record {
  long : length l.u ≡ 32;
  value : (i : ℕ) → i < l.j → entry l.u i ≡ pos 512 *ℤ entry l.high i +ℤ entry l.low i;
  small : (i : ℕ) → i < l.j → IsWithin (2 ^ 36) (entry l.u i);
}
