use Rattle.std.proofs.Common.{◌≡◌, ℕ, ◌<◌, ◌≤◌, length}
use Rattle.l3_base.specs.Lists.{entry}
use Rattle.l3_transform.specs.Fold.{folded_column}
use Rattle.l3_transform.proofs.fold.fold64.Given as goal

abbrev pub invariant-loop-j : goal.invariant-loop-j
invariant-loop-j l = record {
  from : 1 ≤ l.j;
  long : length l.u ≡ 32;
  value : (m : ℕ) → m < l.j → entry l.u m ≡ folded_column (entry l.y) m;
}

abbrev pub invariant-loop-j-2 : goal.invariant-loop-j-2
invariant-loop-j-2 l = record {
  from : 17 ≤ l.j;
  long : length l.u ≡ 32;
  value : (m : ℕ) → m < l.j → entry l.u m ≡ folded_column (entry l.y) m;
}
