use Rattle.std.proofs.Common.{◌≡◌, ℕ, ◌<◌, ◌+ℤ◌, length}
use Rattle.l3_base.specs.Lists.{entry}
use Rattle.l3_transform.proofs.columns.high_sums.Given as goal

abbrev pub invariant-loop-j : goal.invariant-loop-j
invariant-loop-j l = record {
  long : length l.sums ≡ 32;
  value : (i : ℕ) → i < l.j → entry l.sums i ≡ entry l.third i +ℤ entry l.fourth i;
}
