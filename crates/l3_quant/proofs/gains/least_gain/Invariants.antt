use Rattle.std.proofs.Common.{◌+◌, ◌-◌, ℕ, ◌<◌, ◌≤◌}
use Rattle.l3_quant.specs.Quantiser.{magnitude_at}
use Rattle.l3_quant.proofs.gains.least_gain.Given as goal

abbrev pub invariant-loop-low : goal.invariant-loop-low
invariant-loop-low l = record {
  from : l.least ≤ l.low;
  ordered : l.low ≤ l.high;
  within : l.high ≤ 255;
  coded : magnitude_at l.x (258 - l.high + l.finer) ≤ 8191;
  least : (k : ℕ) → l.least ≤ k → k < l.low → 8191 < magnitude_at l.x (258 - k + l.finer);
}

abbrev pub decreases-loop-low : goal.decreases-loop-low
decreases-loop-low l = l.high - l.low
