use Rattle.std.proofs.Common.{◌≡◌, ℕ, ◌+◌, ◌<◌, get_or, length, if◌then◌else◌}
use Rattle.l3_search.specs.Noise.{is_over}
use Rattle.l3_search.proofs.allowance.raise.Given as goal

abbrev pub invariant-loop-band : goal.invariant-loop-band
invariant-loop-band l = record {
  long : length l.next ≡ 21;
  value : (k : ℕ) → k < l.band → get_or l.next k 0 ≡ get_or l.amp k 0 + (if is_over l.noise l.allowed k then 1 else 0);
}
