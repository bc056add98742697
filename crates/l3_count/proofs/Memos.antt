-- Memos: what one has after a count was put in, and of which spectrum its counts are.
use Rattle.std.proofs.Common.{◌≡◌, ◌≢◌, ℕ, ◌<◌, ◌≤◌, List, Option, Some, None, length, replicate, set, get_or, refl, sym, ap, ◌∙◌, subst, inl, inr, arith, ℤ}
use Rattle.std.proofs.Math.ListN.{length-set}
use Rattle.std.proofs.lemmas.Bool.{cases_eq, cases_lt}
use Rattle.std.proofs.lemmas.List.{ext_get_or, get_or-replicate, get_or-set_same, get_or-set_other, get_or_past}
use Rattle.l3_base.specs.Amp.{IsAmp, no_amp}
use Rattle.l3_count.specs.Count.{Counted, count_of}
use Rattle.l3_count.specs.Memo.{IsLane, IsLaneOf, IsMemo, IsMemoOf, LaneView, empty_lane, empty_memo, kept_at, lane_of, memo_at, no_counts, with_count}

-- no count at any gain
pub kept_at-no_counts : (gain : ℕ) → kept_at no_counts gain ≡ None
unfolding no_counts
kept_at-no_counts gain =
    elim (cases_lt gain 256) [
      | inl lt ↦ get_or-replicate 256 gain None None lt
      | inr le ↦ get_or_past (replicate 256 None) gain None le
    ]

pub no_counts-long : length no_counts ≡ 256
unfolding no_counts
no_counts-long = refl

-- no amplification is one
pub no_amp-is : IsAmp no_amp
no_amp-is = record { long = refl; small = λ k d lt. let none : get_or no_amp k d ≡ 0 = get_or-replicate 21 k 0 d lt in rw none (omega arith) }

-- a lane without a count
pub empty_lane-is : (amp : List ℕ) → IsAmp amp → IsLane (empty_lane amp)
empty_lane-is amp is = record { amp = is; long = no_counts-long; at_gains = λ gain c e. let none = kept_at-no_counts gain in cc }

pub lane_of-empty : (lane : ℕ) → lane_of empty_memo lane ≡ empty_lane no_amp
unfolding empty_memo
lane_of-empty lane =
    elim (cases_lt lane 4) [
      | inl lt ↦ get_or-replicate 4 lane (empty_lane no_amp) (empty_lane no_amp) lt
      | inr le ↦ get_or_past (replicate 4 (empty_lane no_amp)) lane (empty_lane no_amp) le
    ]

pub empty_memo-is : IsMemo empty_memo
unfolding empty_memo
empty_memo-is = record { long = refl; lanes = λ lane. subst IsLane (sym (lane_of-empty lane)) (empty_lane-is no_amp no_amp-is) }

-- four empty lanes are such a memo
pub emptied_memo : (memo : List LaneView) → IsMemo memo →
    ((k : ℕ) → k < 4 → lane_of memo k ≡ empty_lane no_amp) → memo ≡ empty_memo
unfolding empty_memo
emptied_memo memo is each = ext_get_or (empty_lane no_amp) memo empty_memo is.long (λ k lt. each k (omega (arith, is.long)) ∙ sym (lane_of-empty k))

-- a memo without a count has none in any lane at any gain
pub memo_at-empty : (lane gain : ℕ) → memo_at empty_memo lane gain ≡ None
memo_at-empty lane gain = ap (λ (l : LaneView). kept_at l.counts gain) (lane_of-empty lane) ∙ kept_at-no_counts gain

-- a lane that was changed, and the others
pub lane_of-set : (memo : List LaneView) (lane : ℕ) (l : LaneView) → length memo ≡ 4 → lane < 4 →
    lane_of (set memo lane l) lane ≡ l
lane_of-set memo lane l long lt = get_or-set_same memo lane l (empty_lane no_amp) (omega arith)

pub lane_of-set_other : (memo : List LaneView) (lane other : ℕ) (l : LaneView) → other ≢ lane →
    lane_of (set memo lane l) other ≡ lane_of memo other
lane_of-set_other memo lane other l ne = get_or-set_other memo lane other l (empty_lane no_amp) ne

-- a memo with another lane is one
pub IsMemo-set : (memo : List LaneView) (lane : ℕ) (l : LaneView) → lane < 4 → IsMemo memo →
    IsLane l → IsMemo (set memo lane l)
IsMemo-set memo lane l lt is here = record { long = length-set memo lane l ∙ is.long; lanes = λ k. at k }
  where
    at : (k : ℕ) → IsLane (lane_of (set memo lane l) k)
    at k = elim (cases_eq k lane) [
      | inl same ↦ subst IsLane (sym (ap (lane_of (set memo lane l)) same ∙ lane_of-set memo lane l is.long lt)) here
      | inr other ↦ subst IsLane (sym (lane_of-set_other memo lane k l other)) (is.lanes k)
    ]

-- the count that was put in
pub kept_at-put : (counts : List (Option Counted)) (c : Counted) (gain : ℕ) → length counts ≡ 256 →
    c.gain ≤ 255 → gain ≡ c.gain → kept_at (set counts c.gain (Some c)) gain ≡ Some c
kept_at-put counts c gain long le e = rw e (get_or-set_same counts c.gain (Some c) None (omega arith))

-- at another gain
pub kept_at-put_other : (counts : List (Option Counted)) (c : Counted) (gain : ℕ) → gain ≢ c.gain →
    kept_at (set counts c.gain (Some c)) gain ≡ kept_at counts gain
kept_at-put_other counts c gain other = get_or-set_other counts c.gain gain (Some c) None other

-- with one more count of the spectrum a lane is still its lane
pub IsLaneOf-put : (edges : List ℕ) (lines : List ℤ) (l : LaneView) (c : Counted) →
    length l.counts ≡ 256 → c.gain ≤ 255 → IsLaneOf edges lines l →
    count_of edges l.amp lines c.gain ≡ Some c → IsLaneOf edges lines (with_count l c)
IsLaneOf-put edges lines l c long le is here gain d e =
    elim (cases_eq gain c.gain) [
      | inl same ↦
          (let put = kept_at-put l.counts c gain long le same in
          let at : count_of edges l.amp lines gain ≡ count_of edges l.amp lines c.gain = ap (count_of edges l.amp lines) same in
          cc)
      | inr other ↦ is gain d (sym (kept_at-put_other l.counts c gain other) ∙ e)
    ]

-- a memo without a count is one of any spectrum
pub IsMemoOf-empty : (edges : List ℕ) (lines : List ℤ) → IsMemoOf edges lines empty_memo
IsMemoOf-empty edges lines lane gain c e = let none = memo_at-empty lane gain in cc

-- a lane without a count is one of any spectrum
pub IsLaneOf-empty : (edges : List ℕ) (lines : List ℤ) (amp : List ℕ) →
    IsLaneOf edges lines (empty_lane amp)
IsLaneOf-empty edges lines amp gain c e = let none = kept_at-no_counts gain in cc

-- a memo of a spectrum of which one lane was changed
pub IsMemoOf-lane : (edges : List ℕ) (lines : List ℤ) (memo after : List LaneView) (lane : ℕ) →
    IsMemoOf edges lines memo → IsLaneOf edges lines (lane_of after lane) →
    ((k : ℕ) → k ≢ lane → lane_of after k ≡ lane_of memo k) → IsMemoOf edges lines after
IsMemoOf-lane edges lines memo after lane is here others k =
    elim (cases_eq k lane) [
      | inl same ↦ subst (λ (j : ℕ). IsLaneOf edges lines (lane_of after j)) (sym same) here
      | inr other ↦ subst (λ (l : LaneView). IsLaneOf edges lines l) (sym (others k other)) (is k)
    ]

-- a memo without a count, by an equation: its lanes are of any spectrum and under no amplification
pub IsLaneOf-new : (edges : List ℕ) (lines : List ℤ) (memo : List LaneView) (lane : ℕ) →
    memo ≡ empty_memo → IsLaneOf edges lines (lane_of memo lane)
IsLaneOf-new edges lines memo lane e = subst (λ (m : List LaneView). IsLaneOf edges lines (lane_of m lane)) (sym e) (IsMemoOf-empty edges lines lane)

pub amp-new : (memo : List LaneView) (lane : ℕ) → memo ≡ empty_memo →
    (lane_of memo lane).amp ≡ no_amp
amp-new memo lane e = ap (λ (m : List LaneView). (lane_of m lane).amp) e ∙ ap (λ (l : LaneView). l.amp) (lane_of-empty lane)

pub counts-new : (memo : List LaneView) (lane : ℕ) → memo ≡ empty_memo →
    (lane_of memo lane).counts ≡ no_counts
counts-new memo lane e = ap (λ (m : List LaneView). (lane_of m lane).counts) e ∙ ap (λ (l : LaneView). l.counts) (lane_of-empty lane)

-- a memo of which one lane was emptied and turned to an amplification
pub turned-amp : (memo : List LaneView) (at lane : ℕ) (l : LaneView) (amp : List ℕ) →
    length memo ≡ 4 → lane < 4 → at ≡ lane → l ≡ empty_lane amp →
    (lane_of (set memo at l) lane).amp ≡ amp
turned-amp memo at lane l amp long lt same e =
    ap (λ (k : ℕ). (lane_of (set memo k l) lane).amp) same ∙ (ap (λ (v : LaneView). v.amp) (lane_of-set memo lane l long lt) ∙ ap (λ (v : LaneView). v.amp) e)

-- it is still one of the same spectra
pub IsMemoOf-turned : (edges : List ℕ) (lines : List ℤ) (memo old : List LaneView) (at lane : ℕ) (l : LaneView) (amp : List ℕ) → length memo ≡ 4 → lane < 4 → at ≡ lane →
    l ≡ empty_lane amp → memo ≡ old → IsMemoOf edges lines old →
    IsMemoOf edges lines (set memo at l)
IsMemoOf-turned edges lines memo old at lane l amp long lt same e before is =
    let own : IsMemoOf edges lines memo = subst (λ (m : List LaneView). IsMemoOf edges lines m) (sym before) is in
    let here : lane_of (set memo at l) at ≡ empty_lane amp = lane_of-set memo at l long (omega arith) ∙ e in
    IsMemoOf-lane edges lines memo (set memo at l) at own (subst (λ (v : LaneView). IsLaneOf edges lines v) (sym here) (IsLaneOf-empty edges lines amp))
    (λ k ne. lane_of-set_other memo at k l ne)
