-- What a memo keeps of a count: all but its amplification, which is the lane's. Only the inside of
-- this crate speaks of these.
use Rattle.std.specs.Prelude.{◌≡◌, ℕ, Bool, false, List, Option, Some, None, map, length, replicate, slice_index_or}
use Rattle.l3_base.specs.Amp.{IsAmp}
use Rattle.l3_count.specs.declared.count.Cost.{Cost}
use Rattle.l3_count.specs.Count.{Counted, IsCounted}
use Rattle.l3_count.specs.Memo.{LaneView}

-- the count under an amplification
abbrev pub counted_with : List ℕ → Cost → Counted
counted_with amp x = record {
  amp = amp;
  gain = x.gain;
  bits = x.bits;
  big = x.big;
  quads = x.quads;
  region0 = x.region0;
  region1 = x.region1;
  tables = x.tables;
  quad = x.quad;
}

-- the same back
abbrev pub cost_in : Counted → Cost
cost_in c = record {
  bits = c.bits;
  big = c.big;
  quads = c.quads;
  gain = c.gain;
  region0 = c.region0;
  region1 = c.region1;
  tables = c.tables;
  quad = c.quad;
}

-- the count of an entry, where there is one
abbrev pub entry_with : List ℕ → Option Cost → Option Counted
entry_with amp None = None
entry_with amp (Some x) = Some (counted_with amp x)

-- a lane as contracts see it
abbrev pub lane_with : List ℕ → List (Option Cost) → LaneView
lane_with amp costs = record { amp = amp; counts = map (entry_with amp) costs }

-- no entry for any gain
unfoldable pub no_costs : List (Option Cost)
no_costs = replicate 256 None

-- an entry of a lane is at its own gain, and a count under the lane's amplification
pub record IsEntry (amp : List ℕ) (gain : ℕ) (x : Cost) : Type 0 where
  pub gain_is : x.gain ≡ gain
  pub counted : IsCounted (counted_with amp x)

-- 256 entries of a lane; one in which none was put has none
pub record HoldsCosts (amp : List ℕ) (used : Bool) (costs : List (Option Cost)) : Type 0 where
  pub is_amp : IsAmp amp
  pub long : length costs ≡ 256
  pub entries : (gain : ℕ) (x : Cost) → slice_index_or costs gain None ≡ Some x → IsEntry amp gain x
  pub unused : used ≡ false → costs ≡ no_costs
