use Rattle.std.proofs.Common.{ℕ, ◌<◌, ◌≤◌, get_or}
use Rattle.l3_base.specs.Bands.{edge_at}
use Rattle.l3_region.proofs.sums.need_linbits.Given as goal

abbrev pub invariant-loop-band : goal.invariant-loop-band
invariant-loop-band l = record {
  within : l.band ≤ 22;
  long : (b : ℕ) → l.band ≤ b → b < 22 → edge_at l.rate b < l.end → 6 ≤ get_or l.parts b 0;
}

abbrev pub decreases-loop-band : goal.decreases-loop-band
decreases-loop-band l = l.band
