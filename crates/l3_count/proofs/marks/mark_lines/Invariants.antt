use Rattle.std.proofs.Common.{◌≡◌, ℕ, ◌<◌, ◌≤◌, pos, get_or, length}
use Rattle.l3_count.specs.Rows.{line_at}
use Rattle.l3_count.proofs.marks.mark_lines.Given as goal

abbrev pub invariant-loop-line : goal.invariant-loop-line
invariant-loop-line l = record {
  long : length l.marks ≡ 576;
  here : (cell : ℕ) → cell < 576 → l.from ≤ line_at cell → line_at cell < l.line → get_or l.marks cell (pos 0) ≡ l.mark;
  before : (cell : ℕ) → cell < 576 → line_at cell < l.from → get_or l.marks cell (pos 0) ≡ get_or l.fn.marks cell (pos 0);
}
