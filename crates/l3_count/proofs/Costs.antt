-- What a lane keeps is a lane as contracts see it.
use Rattle.std.proofs.Common.{◌≡◌, ℕ, Bool, true, List, Option, Some, None, length, map, replicate, set, get_or, refl, sym, ap, ◌∙◌, subst, inl, inr, arith}
use Rattle.std.proofs.Math.ListN.{get_or-map, length-set}
use Rattle.std.proofs.lemmas.Bool.{cases_eq, cases_lt}
use Rattle.std.proofs.lemmas.List.{length-map, map-set, get_or-set_same, get_or-set_other, get_or-replicate, get_or_past}
use Rattle.l3_base.specs.Amp.{IsAmp}
use Rattle.l3_count.specs.declared.count.Cost.{Cost}
use Rattle.l3_count.specs.Count.{Counted, IsCounted}
use Rattle.l3_count.specs.Memo.{IsLane, LaneView, empty_lane, kept_at, no_counts, with_count}
use Rattle.l3_count.specs.Cost.{HoldsCosts, IsEntry, cost_in, counted_with, entry_with, lane_with, no_costs}

-- no entries are no counts
pub lane_with-none : (amp : List ℕ) → lane_with amp no_costs ≡ empty_lane amp
unfolding no_costs no_counts
lane_with-none amp = refl

pub lane_with-empty : (amp : List ℕ) (costs : List (Option Cost)) → costs ≡ no_costs →
    lane_with amp costs ≡ empty_lane amp
lane_with-empty amp costs e = ap (lane_with amp) e ∙ lane_with-none amp

pub no_costs-hold : (amp : List ℕ) (used : Bool) (costs : List (Option Cost)) → IsAmp amp →
    costs ≡ no_costs → HoldsCosts amp used costs
unfolding no_costs
no_costs-hold amp used costs is e = record {
  is_amp = is;
  long = ap (λ (xs : List (Option Cost)). length xs) e;
  entries = λ gain x at. let none : get_or costs gain None ≡ None = ap (λ (xs : List (Option Cost)). get_or xs gain None) e ∙ none_at gain in cc;
  unused = λ _. e;
}
  where
    none_at : (gain : ℕ) → get_or no_costs gain None ≡ None
    none_at gain = elim (cases_lt gain 256) [
      | inl lt ↦ get_or-replicate 256 gain None None lt
      | inr le ↦ get_or_past (replicate 256 None) gain None le
    ]

-- the entry of a count
entry_some : (amp : List ℕ) (o : Option Cost) (c : Counted) → entry_with amp o ≡ Some c →
    (x : Cost) × (o ≡ Some x) × (counted_with amp x ≡ c)
entry_some amp None c e = absurd (cc)
entry_some amp (Some x) c e = (x, refl, let same : counted_with amp x ≡ c = cc in same)

-- the count of an entry
pub kept_at-with : (amp : List ℕ) (costs : List (Option Cost)) (gain : ℕ) →
    kept_at (lane_with amp costs).counts gain ≡ entry_with amp (get_or costs gain None)
kept_at-with amp costs gain = get_or-map (entry_with amp) costs gain None

-- what is kept is a lane
pub lane_with-is : (amp : List ℕ) (used : Bool) (costs : List (Option Cost)) →
    HoldsCosts amp used costs → IsLane (lane_with amp costs)
lane_with-is amp used costs is = record {
  amp = is.is_amp;
  long = length-map costs (entry_with amp) ∙ is.long;
  at_gains = λ gain c e.
      let found = entry_some amp (get_or costs gain None) c (sym (kept_at-with amp costs gain) ∙ e) in
      let own = is.entries gain found.0 found.1 in
      (ap (λ (d : Counted). d.gain) (sym found.2) ∙ own.gain_is, ap (λ (d : Counted). d.amp) (sym found.2));
}

-- with one more entry
pub lane_with-put : (amp : List ℕ) (costs : List (Option Cost)) (c : Counted) → c.amp ≡ amp →
    lane_with amp (set costs c.gain (Some (cost_in c))) ≡ with_count (lane_with amp costs) c
lane_with-put amp costs c e =
    let own : counted_with amp (cost_in c) ≡ c = ap (λ (a : List ℕ). counted_with a (cost_in c)) (sym e) in
    let put = map-set (entry_with amp) costs c.gain (Some (cost_in c)) in
    let P : List (Option Counted) → LaneView = λ counts. record { amp = amp; counts = counts } in
    ap P (put ∙ ap (λ (d : Counted). set (map (entry_with amp) costs) c.gain (Some d)) own)

pub costs-put : (amp : List ℕ) (used : Bool) (costs : List (Option Cost)) (c : Counted) →
    HoldsCosts amp used costs → c.amp ≡ amp → IsCounted c →
    HoldsCosts amp true (set costs c.gain (Some (cost_in c)))
costs-put amp used costs c is e counted = record {
  is_amp = is.is_amp;
  long = length-set costs c.gain (Some (cost_in c)) ∙ is.long;
  entries = λ gain x at. entry gain x at;
  unused = λ no. cc;
}
  where
    own : counted_with amp (cost_in c) ≡ c
    own = ap (λ (a : List ℕ). counted_with a (cost_in c)) (sym e)

    entry : (gain : ℕ) (x : Cost) →
        get_or (set costs c.gain (Some (cost_in c))) gain None ≡ Some x → IsEntry amp gain x
    entry gain x at = elim (cases_eq gain c.gain) [
      | inl same ↦
          (let put : get_or (set costs c.gain (Some (cost_in c))) gain None ≡ Some (cost_in c) = rw same (get_or-set_same costs c.gain (Some (cost_in c)) None (omega (arith, is.long, counted.gain))) in
          let x_is : cost_in c ≡ x = cc in
          subst (IsEntry amp gain) x_is (record { gain_is = sym same; counted = subst IsCounted (sym own) counted }))
      | inr other ↦ is.entries gain x (sym (get_or-set_other costs c.gain gain (Some (cost_in c)) None other) ∙ at)
    ]
