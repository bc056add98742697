use Rattle.std.proofs.Common.{◌≡◌, ℕ, ◌+◌, ◌-◌, ◌<◌, ◌≤◌, Some, false, true}
use Rattle.l3_quant.specs.Gains.{first_gain_of}
use Rattle.l3_count.specs.Units.{ArePlanesOf}
use Rattle.l3_count.specs.Bands.{band_edges}
use Rattle.l3_count.specs.Count.{count_of}
use Rattle.l3_count.specs.Memo.{IsLaneOf, lane_of}
use Rattle.l3_search.specs.Gain.{HasLaneTo, fits, lacking}
use Rattle.l3_search.proofs.search.pick.Given as goal

abbrev pub invariant-loop-found : goal.invariant-loop-found
invariant-loop-found g l = record {
  first : first_gain_of (band_edges l.rate) l.amp l.spec ≤ l.gain;
  most : l.gain ≤ 255;
  count : count_of (band_edges l.rate) l.amp l.spec l.gain ≡ Some l.found.count;
  none_before : (k : ℕ) → k < l.gain → fits (band_edges l.rate) l.amp l.spec l.budget k ≡ false;
  made : l.made ≡ lacking (lane_of l.fn.memo l.lane).counts (first_gain_of (band_edges l.rate) l.amp l.spec) l.gain;
  ticks : l.steps ≡ l.fn.steps + l.made;
  memo : HasLaneTo (band_edges l.rate) l.amp l.spec l.lane (first_gain_of (band_edges l.rate) l.amp l.spec) l.gain l.fn.memo l.memo;
  own : l.prepared.made ≡ true → ArePlanesOf (band_edges l.rate) l.spec l.prepared.planes;
  kept : IsLaneOf (band_edges l.rate) l.spec (lane_of l.memo l.lane);
}

abbrev pub decreases-loop-found : goal.decreases-loop-found
decreases-loop-found g l = 255 - l.gain
