use Rattle.std.proofs.Common.{◌≡◌, ℕ, List, ℤ, ◌<◌, ◌*◌, ◌+◌, ◌/◌, ◌%◌, pos, get_or, length}
use Rattle.std.specs.Prelude.{unsigned_abs}
use Rattle.l3_count.specs.Rows.{line_at, AreRanked, IsStored}
use Rattle.l3_count.proofs.rows.write_rows.Given as goal

abbrev pub invariant-loop-row : goal.invariant-loop-row
invariant-loop-row l = record {
  long : length l.out ≡ 8640;
  value : (lines : List ℤ) → AreRanked lines l.octaves l.ranks → (row : ℕ) → row < l.row → (j : ℕ) → j < 32 → IsStored (row % 15 + 1) (unsigned_abs (get_or lines (line_at (32 * (row / 15) + j)) (pos 0))) (get_or l.out (32 * row + j) (pos 0));
}
