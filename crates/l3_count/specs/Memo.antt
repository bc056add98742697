-- Counts of a spectrum by lane and gain.
use Rattle.std.specs.Prelude.{◌≡◌, ℕ, List, Option, Some, None, replicate, length, slice_set, slice_index_or, ℤ}
use Rattle.l3_base.specs.Amp.{IsAmp, no_amp}
use Rattle.l3_count.specs.Count.{Counted, count_of}

-- a lane of a memo: an amplification, and for each gain the count under it, where there is one
pub record LaneView : Type 0 where
  pub amp : List ℕ
  pub counts : List (Option Counted)

-- no count for any gain
unfoldable pub no_counts : List (Option Counted)
no_counts = replicate 256 None

-- the count that is kept for a gain, where there is one
abbrev pub kept_at : List (Option Counted) → ℕ → Option Counted
kept_at counts gain = slice_index_or counts gain None

-- a lane without a count
abbrev pub empty_lane : List ℕ → LaneView
empty_lane amp = record { amp = amp; counts = no_counts }

-- a lane with one more count, at its gain
abbrev pub with_count : LaneView → Counted → LaneView
with_count lane c = record { amp = lane.amp; counts = slice_set lane.counts c.gain (Some c) }

-- a memo of four lanes without a count, under no amplification
unfoldable pub empty_memo : List LaneView
empty_memo = replicate 4 (empty_lane no_amp)

-- a lane by its number
abbrev pub lane_of : List LaneView → ℕ → LaneView
lane_of memo lane = slice_index_or memo lane (empty_lane no_amp)

-- the count of a lane for a gain, where there is one
abbrev pub memo_at : List LaneView → (lane gain : ℕ) → Option Counted
memo_at memo lane gain = kept_at (lane_of memo lane).counts gain

-- an amplification and 256 entries, each at its own gain under that amplification
pub record IsLane (lane : LaneView) : Type 0 where
  pub amp : IsAmp lane.amp
  pub long : length lane.counts ≡ 256
  pub at_gains : (gain : ℕ) (c : Counted) → kept_at lane.counts gain ≡ Some c →
      (c.gain ≡ gain) × (c.amp ≡ lane.amp)

-- four lanes
pub record IsMemo (memo : List LaneView) : Type 0 where
  pub long : length memo ≡ 4
  pub lanes : (lane : ℕ) → IsLane (lane_of memo lane)

-- each count of a lane is the spectrum's at that gain under the lane's amplification
abbrev pub IsLaneOf : List ℕ → List ℤ → LaneView → Type 0
IsLaneOf edges lines lane = (gain : ℕ) (c : Counted) → kept_at lane.counts gain ≡ Some c →
    count_of edges lane.amp lines gain ≡ Some c

-- each lane's counts are the spectrum's
abbrev pub IsMemoOf : List ℕ → List ℤ → List LaneView → Type 0
IsMemoOf edges lines memo = (lane : ℕ) → IsLaneOf edges lines (lane_of memo lane)
