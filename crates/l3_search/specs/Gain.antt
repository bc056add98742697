-- The least global_gain whose count is within a budget, and what a lane of counts lacks up to it.
use Rattle.std.specs.Prelude.{◌≡◌, ◌≢◌, ◌≤◌, ◌<◌, ◌+◌, ◌-◌, ℕ, Bool, false, nat_le, List, count_by, Option, Some, None, is_none, ℤ}
use Rattle.std.specs.List.{range_with_len}
use Rattle.l3_base.specs.Choosing.{least_passing}
use Rattle.l3_quant.specs.Gains.{first_gain_of}
use Rattle.l3_count.specs.Count.{Counted, count_of}
use Rattle.l3_count.specs.Memo.{LaneView, kept_at, lane_of}

-- whether a count is there and its bits are at most the budget
abbrev pub is_within : ℕ → Option Counted → Bool
is_within budget None = false
is_within budget (Some c) = nat_le c.bits budget

-- whether a spectrum's count under an amplification at a gain is there and within the budget
abbrev pub fits : (edges amp : List ℕ) → List ℤ → (budget gain : ℕ) → Bool
fits edges amp lines budget gain = is_within budget (count_of edges amp lines gain)

-- the least gain of 0 to 255 that fits
unfoldable pub picked_gain : (edges amp : List ℕ) → List ℤ → (budget : ℕ) → ℕ
picked_gain edges amp lines budget = least_passing 256 (fits edges amp lines budget)

-- the count at that gain
abbrev pub picked : (edges amp : List ℕ) → List ℤ → (budget : ℕ) → Option Counted
picked edges amp lines budget = count_of edges amp lines (picked_gain edges amp lines budget)

-- how many gains are tried: those from the first gain to the picked one
abbrev pub tried_of : (edges amp : List ℕ) → List ℤ → (budget : ℕ) → ℕ
tried_of edges amp lines budget = picked_gain edges amp lines budget + 1 - first_gain_of edges amp lines

-- the gains from one to another, both of them included
abbrev pub gains_from : (first last : ℕ) → List ℕ
gains_from first last = range_with_len first (last + 1 - first)

-- for how many gains from the first to the last a lane has no count
unfoldable pub lacking : List (Option Counted) → (first last : ℕ) → ℕ
lacking counts first last = count_by (λ gain. is_none (kept_at counts gain)) (gains_from first last)

-- a count is the spectrum's own under the amplification at its gain, it is within the budget, and
-- no lesser gain has one that is
pub record IsLeastWithin (edges amp : List ℕ) (lines : List ℤ) (budget : ℕ) (c : Counted) : Type 0 where
  pub under : c.amp ≡ amp
  pub own : count_of edges amp lines c.gain ≡ Some c
  pub within : c.bits ≤ budget
  pub least : (gain : ℕ) (other : Counted) → count_of edges amp lines gain ≡ Some other →
      other.bits ≤ budget → c.gain ≤ gain

-- a lane has the spectrum's counts under an amplification at the gains from the first to the last,
-- and at all others what it had before
pub record HasCountsTo (edges amp : List ℕ) (lines : List ℤ) (first last : ℕ) (before after : List (Option Counted)) : Type 0 where
  pub counts : (gain : ℕ) → first ≤ gain → gain ≤ last →
      kept_at after gain ≡ count_of edges amp lines gain
  pub below : (gain : ℕ) → gain < first → kept_at after gain ≡ kept_at before gain
  pub above : (gain : ℕ) → last < gain → kept_at after gain ≡ kept_at before gain

-- a memo has in a lane under an amplification the spectrum's counts at the gains from the first to
-- the last, and all else is as it was: the lane's amplification, its other gains and other lanes
pub record HasLaneTo (edges amp : List ℕ) (lines : List ℤ) (lane first last : ℕ) (before after : List LaneView) : Type 0 where
  pub amp_is : (lane_of after lane).amp ≡ amp
  pub counts : HasCountsTo edges amp lines first last (lane_of before lane).counts (lane_of after lane).counts
  pub others : (other : ℕ) → other ≢ lane → lane_of after other ≡ lane_of before other
