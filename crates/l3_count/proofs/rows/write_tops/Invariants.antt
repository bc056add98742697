use Rattle.std.proofs.Common.{◌≡◌, ℕ, ◌<◌, ◌≤ℤ◌, ◌*◌, ◌+◌, pos, get_or, length}
use Rattle.l3_count.proofs.rows.write_tops.Given as goal

abbrev pub invariant-loop-row : goal.invariant-loop-row
invariant-loop-row l = record {
  long : length l.out ≡ 270;
  is : (row : ℕ) → row < l.row → (j : ℕ) → j < 32 → get_or l.rows (32 * row + j) (pos 0) ≤ℤ get_or l.out row (pos 0);
}
