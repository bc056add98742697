use Rattle.std.proofs.Common.{◌≡◌, ℕ, ◌<◌, ◌<ℤ◌, ◌≤ℤ◌, ◌*◌, ◌+◌, pos, get_or, length}
use Rattle.l3_count.proofs.plane_count.with_row_above.Given as goal

abbrev pub invariant-loop-j : goal.invariant-loop-j
invariant-loop-j l = record {
  long : length l.more ≡ 32;
  above : (j : ℕ) → j < l.j → l.mark <ℤ get_or l.rows (32 * l.row + j) (pos 0) → get_or l.more j 0 ≡ get_or l.counts j 0 + 1;
  others : (j : ℕ) → j < l.j → get_or l.rows (32 * l.row + j) (pos 0) ≤ℤ l.mark → get_or l.more j 0 ≡ get_or l.counts j 0;
}
