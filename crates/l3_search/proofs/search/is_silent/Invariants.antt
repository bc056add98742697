use Rattle.std.proofs.Common.{◌≡◌, ℕ, ◌<◌, get_or}
use Rattle.l3_search.proofs.search.is_silent.Given as goal

abbrev pub invariant-loop-band : goal.invariant-loop-band
invariant-loop-band l = record {
  none : (b : ℕ) → b < l.band → get_or l.peaks b 0 ≡ 0;
}
