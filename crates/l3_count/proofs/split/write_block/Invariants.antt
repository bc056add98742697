use Rattle.std.proofs.Common.{◌≡◌, ℕ, List, ℤ, ◌<◌, ◌*◌, ◌+◌, get_or, length}
use Rattle.l3_count.specs.Rows.{AreRows}
use Rattle.l3_count.specs.Ends.{IsPairPlane}
use Rattle.l3_count.proofs.split.write_block.Given as goal

abbrev pub invariant-loop-j : goal.invariant-loop-j
invariant-loop-j l = record {
  long : length l.out ≡ 288;
  here : (lines : List ℤ) → AreRows lines l.rows → (j : ℕ) → j < l.j → IsPairPlane lines l.k (16 * l.block + j) (get_or l.out (16 * l.block + j) 0);
  before : (i : ℕ) → i < 16 * l.block → get_or l.out i 0 ≡ get_or l.fn.out i 0;
}
