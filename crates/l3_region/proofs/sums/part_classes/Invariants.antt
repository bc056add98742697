use Rattle.std.proofs.Common.{◌≡◌, ℕ, ◌<◌, ◌≤◌, length, get_or}
use Rattle.l3_region.specs.Pairs.{IsBandClass}
use Rattle.l3_region.proofs.sums.part_classes.Given as goal

abbrev pub invariant-loop-band : goal.invariant-loop-band
invariant-loop-band l = record {
  within : l.band ≤ 22;
  long : length l.own ≡ 32;
  done : (b : ℕ) → l.band ≤ b → b < 22 → IsBandClass l.pairs l.classes l.rate l.end b (get_or l.own b 0);
  whole : (b : ℕ) → b < l.band → get_or l.own b 0 ≡ get_or l.classes b 0;
  few : (b : ℕ) → get_or l.own b 0 < 14;
}

abbrev pub decreases-loop-band : goal.decreases-loop-band
decreases-loop-band l = l.band
