use Rattle.std.proofs.Common.{◌≡◌, ℕ, ◌<◌, ◌≤◌, ◌*◌, ◌+◌, get_or, length}
use Rattle.l3_count.proofs.bands.with_class.Given as goal

abbrev pub invariant-loop-b : goal.invariant-loop-b
invariant-loop-b l = record {
  long : length l.more ≡ 32;
  more : (b : ℕ) → b < l.b → get_or l.keys b 0 ≤ get_or l.planes (32 * l.class + b) 0 → get_or l.more b 0 ≡ get_or l.classes b 0 + 1;
  same : (b : ℕ) → b < l.b → get_or l.planes (32 * l.class + b) 0 < get_or l.keys b 0 → get_or l.more b 0 ≡ get_or l.classes b 0;
}
