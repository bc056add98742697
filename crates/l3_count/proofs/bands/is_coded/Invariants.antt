use Rattle.std.proofs.Common.{ℕ, ◌+◌, ◌<◌, get_or}
use Rattle.l3_count.proofs.bands.is_coded.Given as goal

abbrev pub invariant-loop-b : goal.invariant-loop-b
invariant-loop-b l = record {
  below : (b : ℕ) → b < l.b → get_or l.planes (416 + b) 0 < get_or l.keys b 0;
}
