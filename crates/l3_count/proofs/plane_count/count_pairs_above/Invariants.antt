use Rattle.std.proofs.Common.{◌≡◌, ℕ, List, ℤ, ◌<◌, ◌*◌, ◌+◌, get_or, length}
use Rattle.l3_count.specs.Rows.{AreRows, AreTops}
use Rattle.l3_count.specs.Marks.{cut_at, IsMark}
use Rattle.l3_count.proofs.plane_count.count_pairs_above.Given as goal

abbrev pub invariant-loop-block : goal.invariant-loop-block
invariant-loop-block l = record {
  long : length l.out ≡ 288;
  value : (lines : List ℤ) (steps : ℕ → ℕ) → AreRows lines l.rows → AreTops l.rows l.tops → IsMark steps l.mark → (i : ℕ) → i < 16 * l.block → get_or l.out i 0 ≡ 16 * cut_at lines steps (2 * i) + cut_at lines steps (2 * i + 1);
}
