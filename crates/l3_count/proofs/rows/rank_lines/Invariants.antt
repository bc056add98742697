use Rattle.std.proofs.Common.{◌≡◌, ℕ, ◌<◌, ◌≤◌, pos, get_or, length}
use Rattle.std.specs.Prelude.{unsigned_abs}
use Rattle.l3_count.specs.Planes.{IsRanked}
use Rattle.l3_count.specs.Rows.{line_at}
use Rattle.l3_count.proofs.rows.rank_lines.Given as goal

abbrev pub invariant-loop-i : goal.invariant-loop-i
invariant-loop-i l = record {
  long : length l.octaves ≡ 576;
  long_too : length l.ranks ≡ 576;
  is : (i : ℕ) → i < l.i → IsRanked (unsigned_abs (get_or l.lines (line_at i) (pos 0))) (get_or l.octaves i 0) (get_or l.ranks i 0);
  small : (i : ℕ) → i < l.i → get_or l.octaves i 0 ≤ 242;
}
