use Rattle.std.proofs.Common.{ℕ, ◌<◌, ◌≤◌, get_or}
use Rattle.l3_count.proofs.keys.least_key.Given as goal

abbrev pub invariant-loop-band : goal.invariant-loop-band
invariant-loop-band l = record {
  least : (b : ℕ) → b < l.band → l.least ≤ get_or l.keys b 0;
  some : 0 < l.least;
}
