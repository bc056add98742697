use Rattle.std.proofs.Common.{◌≡◌, ℕ, List, ℤ, ◌<◌, ◌≤◌, ◌-◌, get_or, length}
use Rattle.l3_count.specs.Rows.{AreRows}
use Rattle.l3_count.specs.Ends.{IsEnd, IsPairPlane}
use Rattle.l3_count.proofs.split.write_ends.Given as goal

abbrev pub invariant-loop-r : goal.invariant-loop-r
invariant-loop-r l = record {
  long : length l.out ≡ 288;
  end : (lines : List ℤ) → AreRows lines l.rows → IsEnd lines l.k (288 - l.r) l.end;
  is : (lines : List ℤ) → AreRows lines l.rows → (pair : ℕ) → 288 - l.r ≤ pair → pair < 288 → IsEnd lines l.k pair (get_or l.out pair 0);
  rest : (lines : List ℤ) → AreRows lines l.rows → (pair : ℕ) → pair < 288 - l.r → IsPairPlane lines l.k pair (get_or l.out pair 0);
}
