use Rattle.std.proofs.Common.{◌≡◌, ℕ, ◌<◌, ◌≤◌, length, get_or}
use Rattle.l3_region.proofs.sums.whole_classes.Given as goal

abbrev pub invariant-loop-b : goal.invariant-loop-b
invariant-loop-b l = record {
  long : length l.own ≡ 32;
  own : (b : ℕ) → b < l.b → b < 22 → get_or l.own b 0 ≡ get_or l.classes b 0;
  none : (b : ℕ) → b < l.b → 22 ≤ b → get_or l.own b 0 ≡ 0;
}
