use Rattle.std.proofs.Common.{◌≡◌, ℕ, ◌+◌, ◌-◌, ◌*◌, ◌<◌, ◌≤◌, length}
use Rattle.l3_base.specs.Lists.{entry}
use Rattle.l3_transform.specs.Pairs.{other_column}
use Rattle.l3_transform.proofs.rows.paired.Given as goal

abbrev pub invariant-loop-j : goal.invariant-loop-j
invariant-loop-j l = record {
  from : 1 ≤ l.j;
  long : length l.row ≡ 64;
  both : (m : ℕ) → m < l.j → (entry l.row (2 * m) ≡ entry l.samples (63 - (16 + m))) × (entry l.row (2 * m + 1) ≡ entry l.samples (63 - other_column m));
}

abbrev pub invariant-loop-j-2 : goal.invariant-loop-j-2
invariant-loop-j-2 l = record {
  from : 17 ≤ l.j;
  long : length l.row ≡ 64;
  both : (m : ℕ) → m < l.j → (entry l.row (2 * m) ≡ entry l.samples (63 - (16 + m))) × (entry l.row (2 * m + 1) ≡ entry l.samples (63 - other_column m));
}
