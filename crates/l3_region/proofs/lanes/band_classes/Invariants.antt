use Rattle.std.proofs.Common.{◌≡◌, ℕ, ◌<◌, ◌≤◌, length, get_or}
use Rattle.l3_region.proofs.lanes.band_classes.Given as goal

abbrev pub invariant-loop-b : goal.invariant-loop-b
invariant-loop-b l = record {
  long : length l.tops ≡ 32;
  done : (b : ℕ) → b < l.b → get_or l.tops b 0 ≡ get_or l.peaks b 0;
  small : (b : ℕ) → get_or l.tops b 0 ≤ 8191;
}

abbrev pub invariant-loop-b-2 : goal.invariant-loop-b-2
invariant-loop-b-2 l = record {
  long : length l.classes ≡ 32;
  done : (b : ℕ) → b < l.b → get_or l.classes b 0 ≡ get_or l.wide b 0;
}
