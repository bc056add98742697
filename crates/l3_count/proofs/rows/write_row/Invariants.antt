use Rattle.std.proofs.Common.{◌≡◌, ℕ, ◌<◌, ◌*◌, ◌+◌, ◌/◌, ◌%◌, pos, get_or, length}
use Rattle.l3_count.specs.Planes.{IsRanked}
use Rattle.l3_count.specs.Rows.{IsStored}
use Rattle.l3_count.proofs.rows.write_row.Given as goal

abbrev pub invariant-loop-j : goal.invariant-loop-j
invariant-loop-j l = record {
  long : length l.out ≡ 8640;
  value : (j : ℕ) → j < l.j → (x : ℕ) → IsRanked x (get_or l.octaves (32 * (l.row / 15) + j) 0) (get_or l.ranks (32 * (l.row / 15) + j) 0) → IsStored (l.row % 15 + 1) x (get_or l.out (32 * l.row + j) (pos 0));
  before : (i : ℕ) → i < 32 * l.row → get_or l.out i (pos 0) ≡ get_or l.fn.out i (pos 0);
}
