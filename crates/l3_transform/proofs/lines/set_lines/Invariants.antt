use Rattle.std.proofs.Common.{◌≡◌, ℕ, ◌+◌, ◌*◌, ◌<◌, pos, ◌+ℤ◌, ◌*ℤ◌, length}
use Rattle.l3_base.specs.Lists.{entry}
use Rattle.l3_base.specs.Sums.{floor_div}
use Rattle.l3_transform.proofs.lines.set_lines.Given as goal

abbrev pub invariant-loop-m : goal.invariant-loop-m
invariant-loop-m l = record {
  long : length l.out ≡ 576;
  lines : (n : ℕ) → n < l.m → entry l.out (18 * l.band + n) ≡ floor_div (pos 2 *ℤ entry l.sums n +ℤ pos 294912) 589824;
  before : (n : ℕ) → n < 18 * l.band → entry l.out n ≡ entry l.fn.out n;
}
