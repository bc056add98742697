use Rattle.std.proofs.Common.{◌≡◌, ℕ, List, ℤ, ◌<◌, ◌*◌, get_or, length}
use Rattle.l3_count.specs.Rows.{AreRows}
use Rattle.l3_count.specs.Ends.{IsPairPlane}
use Rattle.l3_count.proofs.split.write_pair_planes.Given as goal

abbrev pub invariant-loop-block : goal.invariant-loop-block
invariant-loop-block l = record {
  long : length l.out ≡ 288;
  value : (lines : List ℤ) → AreRows lines l.rows → (pair : ℕ) → pair < 16 * l.block → IsPairPlane lines l.k pair (get_or l.out pair 0);
}
