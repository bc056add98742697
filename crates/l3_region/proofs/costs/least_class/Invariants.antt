use Rattle.std.proofs.Common.{ℕ, ◌<◌, ◌≤◌, get_or}
use Rattle.l3_region.proofs.costs.least_class.Given as goal

abbrev pub invariant-loop-j : goal.invariant-loop-j
invariant-loop-j l = record {
  some : 1 ≤ l.j;
  lower : (i : ℕ) → i < l.j → l.least ≤ get_or l.most i 0;
}
