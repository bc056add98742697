use Rattle.std.proofs.Common.{◌≡◌, ◌≤◌}
use Rattle.std.specs.List.{count_by, range_with_len}
use Rattle.l3_search.specs.Noise.{is_over}
use Rattle.l3_search.proofs.allowance.over.Given as goal

abbrev pub invariant-loop-band : goal.invariant-loop-band
invariant-loop-band l = record {
  value : l.bands ≡ count_by (is_over l.noise l.allowed) (range_with_len 0 l.band);
  bound : l.bands ≤ l.band;
}
