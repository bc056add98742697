use Rattle.std.proofs.Common.{◌≡◌, ℕ, ◌+◌, ◌*◌, ◌/◌, ◌≢◌, ◌<◌, [], length, get_or, min}
use Rattle.l3_base.specs.Bands.{edge_at}
use Rattle.l3_region.specs.Pairs.{lines_in}
use Rattle.l3_region.specs.Lanes.{cell_at, pairs_at, short_sum}
use Rattle.l3_region.proofs.sums.sum_long.Given as goal

abbrev pub invariant-loop-band : goal.invariant-loop-band
invariant-loop-band l = record {
  start : l.from ≡ min (edge_at l.rate (min l.band 22)) l.end;
  sum : l.sum ≡ short_sum (lines_in l.pairs) 12 (l.from / 2) + 65536 * short_sum (lines_in l.pairs) 13 (l.from / 2);
  lanes : length l.sums ≡ 16;
  edges : (t : ℕ) → t < 16 → length (get_or l.sums t []) ≡ 32;
  first : (b : ℕ) → b < l.band → cell_at l.sums 12 b ≡ short_sum (lines_in l.pairs) 12 (pairs_at l.rate l.end b);
  second : (b : ℕ) → b < l.band → cell_at l.sums 13 b ≡ short_sum (lines_in l.pairs) 13 (pairs_at l.rate l.end b);
  zeros : (t b : ℕ) → t < 16 → t ≢ 12 → t ≢ 13 → cell_at l.sums t b ≡ 0;
}
