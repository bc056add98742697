use Rattle.std.proofs.Common.{◌≡◌, ℕ, List, ℤ, ◌<◌, ◌≤◌, ◌*◌, get_or, length}
use Rattle.l3_count.specs.Rows.{AreRows}
use Rattle.l3_count.specs.Marks.{AreCounted, IsMark}
use Rattle.l3_count.proofs.plane_count.count_block_above.Given as goal

abbrev pub invariant-loop-three : goal.invariant-loop-three
invariant-loop-three l = record {
  long : length l.counts ≡ 32;
  value : (lines : List ℤ) (steps : ℕ → ℕ) → AreRows lines l.rows → IsMark steps l.mark → AreCounted lines steps l.block (3 * l.three) l.counts;
  bound : (j : ℕ) → j < 32 → get_or l.counts j 0 ≤ 3 * l.three;
}
