-- When a count fits a budget, and which gain is picked.
use Rattle.std.proofs.Common.{◌≡◌, ℕ, ◌+◌, ◌<◌, ◌≤◌, Bool, ◌&&◌, false, true, List, Option, Some, None, refl, sym, ap, ◌∙◌, inl, inr, arith, ℤ, pos}
use Rattle.std.specs.Prelude.{All, nat_le, if◌then◌else◌}
use Rattle.std.proofs.Math.Path.{fun_ext}
use Rattle.std.proofs.lemmas.Bool.{cases_lt, le-leb, lt-leb}
use Rattle.l3_base.specs.Amp.{IsAmp, no_amp}
use Rattle.l3_base.specs.Choosing.{IsLeastPassing, least_passing}
use Rattle.l3_base.specs.Spectrum.{IsLine}
use Rattle.l3_base.proofs.ChoosingLemmas.{least_passing-is, least_passing-least}
use Rattle.l3_quant.specs.Quantiser.{is_codable, quantised_lines}
use Rattle.l3_quant.specs.Gains.{first_gain_of}
use Rattle.l3_count.specs.Count.{Counted, count_of, counted}
use Rattle.l3_count.specs.Regions.{regions_of}
use Rattle.l3_count.proofs.Counts.{IsSome-from, at_one_gain, from_the_first_gain, none_below_the_first_gain, what_is_taken}
use Rattle.l3_count.proofs.Tops.{empty_at_the_top}
use Rattle.l3_search.specs.Gain.{IsLeastWithin, fits, is_within, picked_gain}
use Rattle.l3_search.specs.Laws.{PickExists, PicksAtOneGain}

-- a count within the budget
pub fits-within : (edges amp : List ℕ) (lines : List ℤ) (budget gain : ℕ) (c : Counted) →
    count_of edges amp lines gain ≡ Some c → c.bits ≤ budget →
    fits edges amp lines budget gain ≡ true
fits-within edges amp lines budget gain c e le = ap (is_within budget) e ∙ le-leb c.bits budget le

-- a count above it
pub fits-above : (edges amp : List ℕ) (lines : List ℤ) (budget gain : ℕ) (c : Counted) →
    count_of edges amp lines gain ≡ Some c → budget < c.bits →
    fits edges amp lines budget gain ≡ false
fits-above edges amp lines budget gain c e lt = ap (is_within budget) e ∙ lt-leb c.bits budget lt

-- no count
pub fits-none : (edges amp : List ℕ) (lines : List ℤ) (budget gain : ℕ) →
    count_of edges amp lines gain ≡ None → fits edges amp lines budget gain ≡ false
fits-none edges amp lines budget gain e = ap (is_within budget) e

-- a count is at its gain
pub counted_at : (edges amp : List ℕ) (lines : List ℤ) (gain : ℕ) (c : Counted) →
    count_of edges amp lines gain ≡ Some c → c.gain ≡ gain
counted_at edges amp lines gain c e = (what_is_taken edges amp lines gain c e).gain_is

-- and under its amplification
pub counted_under : (edges amp : List ℕ) (lines : List ℤ) (gain : ℕ) (c : Counted) →
    count_of edges amp lines gain ≡ Some c → c.amp ≡ amp
counted_under edges amp lines gain c e = (what_is_taken edges amp lines gain c e).amp_is

-- nothing fits below the first gain
pub none_before : (edges amp : List ℕ) (lines : List ℤ) (budget first : ℕ) →
    first ≡ first_gain_of edges amp lines → (k : ℕ) → k < first →
    fits edges amp lines budget k ≡ false
none_before edges amp lines budget first e k lt = fits-none edges amp lines budget k (none_below_the_first_gain edges amp lines k (omega arith))

-- nor below the next gain, where the count at this one is above the budget
pub none_before-more : (edges amp : List ℕ) (lines : List ℤ) (budget gain : ℕ) (c : Counted) →
    ((k : ℕ) → k < gain → fits edges amp lines budget k ≡ false) →
    count_of edges amp lines gain ≡ Some c →
    budget < c.bits → (k : ℕ) → k < gain + 1 → fits edges amp lines budget k ≡ false
none_before-more edges amp lines budget gain c before e above k lt =
    elim (cases_lt k gain) [
      | inl less ↦ before k less
      | inr ge ↦
          (let same : k ≡ gain = omega arith in
          ap (fits edges amp lines budget) same ∙ fits-above edges amp lines budget gain c e above)
    ]

-- at the highest gain no bits are left
pub bits_at_top : (edges amp : List ℕ) (lines : List ℤ) (gain : ℕ) (c : Counted) → IsAmp amp →
    All IsLine lines → gain ≡ 255 → count_of edges amp lines gain ≡ Some c → c.bits ≡ 0
bits_at_top edges amp lines gain c own small e is =
    let top = empty_at_the_top edges amp lines own small in
    let at : count_of edges amp lines gain ≡ Some top.0 = ap (count_of edges amp lines) e ∙ top.1.there in
    let same : c ≡ top.0 = cc in
    ap (λ (d : Counted). d.bits) same ∙ top.1.bits

-- so a gain whose count is above a budget is not the highest
pub below_top : (edges amp : List ℕ) (lines : List ℤ) (budget gain : ℕ) (c : Counted) → IsAmp amp →
    All IsLine lines → gain ≤ 255 → count_of edges amp lines gain ≡ Some c → budget < c.bits →
    gain < 255
below_top edges amp lines budget gain c own small most is above =
    elim (cases_lt gain 255) [
      | inl lt ↦ lt
      | inr ge ↦
          (let none : c.bits ≡ 0 = bits_at_top edges amp lines gain c own small (omega arith) is in
          absurd (omega arith))
    ]

-- the gain that fits while none below it does
pub picked_gain-is : (edges amp : List ℕ) (lines : List ℤ) (budget gain : ℕ) (c : Counted) →
    gain ≤ 255 → count_of edges amp lines gain ≡ Some c → c.bits ≤ budget →
    ((k : ℕ) → k < gain → fits edges amp lines budget k ≡ false) →
    picked_gain edges amp lines budget ≡ gain
unfolding picked_gain
picked_gain-is edges amp lines budget gain c most e le before =
    least_passing-is 256 (fits edges amp lines budget) gain (record { within = omega arith; passing = λ _. fits-within edges amp lines budget gain c e le; least = before })

-- what that means of its count
pub least_within : (edges amp : List ℕ) (lines : List ℤ) (budget gain : ℕ) (c : Counted) →
    count_of edges amp lines gain ≡ Some c → c.bits ≤ budget →
    ((k : ℕ) → k < gain → fits edges amp lines budget k ≡ false) →
    IsLeastWithin edges amp lines budget c
least_within edges amp lines budget gain c e le before =
    let at = counted_at edges amp lines gain c e in
    record { under = counted_under edges amp lines gain c e; own = ap (count_of edges amp lines) at ∙ e; within = le; least = λ other d is within. further other d is within at }
  where
    further : (other : ℕ) (d : Counted) → count_of edges amp lines other ≡ Some d →
        d.bits ≤ budget → c.gain ≡ gain → c.gain ≤ other
    further other d is within at = elim (cases_lt other gain) [
      | inl lt ↦ let no : false ≡ true = sym (before other lt) ∙ fits-within edges amp lines budget other d is within in cc
      | inr ge ↦ omega arith
    ]

-- the picked gain is the least that fits
pub picked_gain-least : (edges amp : List ℕ) (lines : List ℤ) (budget : ℕ) →
    IsLeastPassing 256 (fits edges amp lines budget) (picked_gain edges amp lines budget)
unfolding picked_gain
picked_gain-least edges amp lines budget = least_passing-least 256 (fits edges amp lines budget)

-- and one of 0 to 255
pub picked_gain-most : (edges amp : List ℕ) (lines : List ℤ) (budget : ℕ) → IsAmp amp →
    All IsLine lines → picked_gain edges amp lines budget ≤ 255
picked_gain-most edges amp lines budget own small =
    let top = empty_at_the_top edges amp lines own small in
    elim (cases_lt 255 (picked_gain edges amp lines budget)) [
      | inl lt ↦
          (let no : fits edges amp lines budget 255 ≡ false = (picked_gain-least edges amp lines budget).least 255 lt in
          let yes : fits edges amp lines budget 255 ≡ true = fits-within edges amp lines budget 255 top.0 top.1.there (omega (arith, top.1.bits)) in
          cc)
      | inr le ↦ le
    ]

-- what fits is a count within the budget
pub within-is : (budget : ℕ) (o : Option Counted) → is_within budget o ≡ true →
    (c : Counted) × (o ≡ Some c) × (c.bits ≤ budget)
within-is budget None e = cc
within-is budget (Some c) e = (c, refl, grind arith)

pub pick_there : PickExists
pick_there edges amp lines budget own small =
    let gain = picked_gain edges amp lines budget in
    let least = picked_gain-least edges amp lines budget in
    let most : gain ≤ 255 = picked_gain-most edges amp lines budget own small in
    let found = within-is budget (count_of edges amp lines gain) (least.passing (omega arith)) in (
      found.0,
      record {
        limit = most;
        first = (from_the_first_gain edges amp lines gain most).0 (IsSome-from (count_of edges amp lines gain) found.0 found.1);
        count = found.1;
        gain = counted_at edges amp lines gain found.0 found.1;
        least = least_within edges amp lines budget gain found.0 found.1 found.2 least.least;
      },
    )

-- where no band is amplified
fits-at_one_gain : (edges : List ℕ) (lines : List ℤ) (budget gain : ℕ) →
    let q = quantised_lines (pos gain) lines in
    fits edges no_amp lines budget gain ≡ (is_codable q && nat_le (regions_of edges q).bits budget)
unfolding counted
fits-at_one_gain edges lines budget gain =
    let q = quantised_lines (pos gain) lines in
    ap (is_within budget) (at_one_gain edges lines gain) ∙ tested (is_codable q) q
  where
    tested : (b : Bool) (q : List ℤ) →
        is_within budget (if b then Some (counted edges no_amp gain q) else None) ≡ (b && nat_le (regions_of edges q).bits budget)
    tested true q = refl
    tested false q = refl

pub picks_at_one_gain : PicksAtOneGain
unfolding picked_gain
picks_at_one_gain edges lines budget =
    ap (least_passing 256) (fun_ext (λ gain. fits-at_one_gain edges lines budget gain))
