use Rattle.std.proofs.Common.{ℕ, ◌<◌, ◌≤ℤ◌, ◌*◌, ◌+◌, pos, get_or}
use Rattle.l3_count.proofs.rows.top.Given as goal

abbrev pub invariant-loop-j : goal.invariant-loop-j
invariant-loop-j l = record {
  most : (j : ℕ) → j < l.j → get_or l.rows (32 * l.row + j) (pos 0) ≤ℤ l.top;
}
