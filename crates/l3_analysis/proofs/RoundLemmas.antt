-- Rounds of amplification: how many there are, how far their amplification goes, and that they stay
-- within the budget.
use Rattle.std.proofs.Common.{◌≡◌, ℕ, zero, suc, ◌+◌, ◌-◌, ◌<◌, ◌≤◌, Bool, true, false, ◌&&◌, List, [], ◌∷◌, ◌++◌, length, get_or, leb, ltb, refl, subst, arith, if◌then◌else◌, ℤ}
use Rattle.std.specs.Prelude.{All}
use Rattle.std.proofs.lemmas.Bool.{leb-true}
use Rattle.std.proofs.lemmas.List.Elements.{All-nil, All-cons, All-head, All-tail, All-from_get_or, All-replicate}
use Rattle.l3_base.specs.Amp.{IsAmp, no_amp}
use Rattle.l3_base.specs.Spectrum.{IsLine}
use Rattle.l3_base.proofs.ChoosingLemmas.{first_least-first}
use Rattle.l3_base.specs.Lists.{tabulate}
use Rattle.l3_base.proofs.ListLemmas.{get_or-tabulate, length-tabulate}
use Rattle.l3_count.specs.Bands.{edges_at}
use Rattle.l3_search.specs.Noise.{compress_of, is_over, part2_of, raised, scalefactor_bits, slen1_of, slen2_of}
use Rattle.l3_search.proofs.Fits.{pick_there}
use Rattle.l3_analysis.specs.Rounds.{AmpsRiseByOne, ChosenHasFewestOver, ChosenIsWithin, IsRoundWithin, Round, RoundsAreFew, RoundsAreWithin, allowed_in, chosen_round, first_round, goes_on, next_amp, part2_bits, round_of, rounds_after, rounds_of}

and_right : (a b : Bool) → (a && b) ≡ true → b ≡ true
and_right true b e = e
and_right false b e = absurd (let no : false ≡ true = e in cc)

-- what holds of some rounds and of none
either : (goes : Bool) (P : List Round → Type 0) (rounds : List Round) → (goes ≡ true → P rounds) → P [] → P (if goes then rounds else [])
either true P rounds some none = some refl
either false P rounds some none = none

-- ---- how many there are

after-few : (most rate : ℕ) (lines : List ℤ) (budget : ℕ) (r : Round) → length (rounds_after most rate lines budget r) ≤ most
unfolding rounds_after
after-few zero rate lines budget r = omega arith
after-few (suc most) rate lines budget r =
    let next = round_of rate lines budget (next_amp rate lines r) in
    let rest = after-few most rate lines budget next in
    let P : List Round → Type 0 = λ rounds. length rounds ≤ suc most in
    either (goes_on rate lines budget r) P (next ∷ rounds_after most rate lines budget next) (λ _. omega (arith, rest)) (omega arith)

pub rounds_are_few : RoundsAreFew
rounds_are_few rate lines budget =
    let first = first_round rate lines budget in
    (omega arith, omega (arith, after-few 3 rate lines budget first))

pub chosen_has_fewest_over : ChosenHasFewestOver
chosen_has_fewest_over rate lines budget =
    let first = first_round rate lines budget in
    first_least-first (λ r. r.over) first (rounds_after 3 rate lines budget first)

-- ---- amplification

-- 21 numbers of at most j
pub record IsRaised (j : ℕ) (amp : List ℕ) : Type 0 where
  pub long : length amp ≡ 21
  pub small : All (λ a. a ≤ j) amp

raised-no_amp : IsRaised 0 no_amp
raised-no_amp = record { long = refl; small = All-replicate (λ a. a ≤ 0) 21 0 (omega arith) }

one_or_none : (b : Bool) → (if b then 1 else 0) ≤ 1
one_or_none true = omega arith
one_or_none false = omega arith

raised-more : (j : ℕ) (amp noise allowed : List ℕ) → IsRaised j amp → IsRaised (j + 1) (raised amp noise allowed)
unfolding raised
raised-more j amp noise allowed is =
    let f : ℕ → ℕ = λ band. get_or amp band 0 + (if is_over noise allowed band then 1 else 0) in
    let long : length (tabulate 21 f) ≡ 21 = length-tabulate 21 f in
    record {
      long = long;
      small = All-from_get_or (λ a. a ≤ j + 1) (tabulate 21 f) 0 (λ k lt.
          let room : k < 21 = omega (arith, long) in
          let before : get_or amp k 0 ≤ j = is.small k 0 (omega (arith, is.long)) in
          omega (arith, get_or-tabulate 21 k f 0 room, before, one_or_none (is_over noise allowed k)));
    }

amp-of : (rate : ℕ) (lines : List ℤ) (budget : ℕ) (amp : List ℕ) → (round_of rate lines budget amp).amp ≡ amp
unfolding round_of
amp-of rate lines budget amp = refl

-- the round after one of number j
next-raised : (j rate : ℕ) (lines : List ℤ) (budget : ℕ) (r : Round) → IsRaised j r.amp →
    IsRaised (j + 1) (round_of rate lines budget (next_amp rate lines r)).amp
unfolding round_of
next-raised j rate lines budget r is = raised-more j r.amp _ (allowed_in rate lines) is

after-raised : (most j rate : ℕ) (lines : List ℤ) (budget : ℕ) (r : Round) → IsRaised j r.amp →
    (k : ℕ) (d : Round) → k < length (rounds_after most rate lines budget r) →
    IsRaised (j + 1 + k) (get_or (rounds_after most rate lines budget r) k d).amp
unfolding rounds_after
after-raised zero j rate lines budget r is = λ k d lt. absurd (omega arith)
after-raised (suc most) j rate lines budget r is =
    let next = round_of rate lines budget (next_amp rate lines r) in
    let more : IsRaised (j + 1) next.amp = next-raised j rate lines budget r is in
    let P : List Round → Type 0 = λ rounds. (k : ℕ) (d : Round) → k < length rounds → IsRaised (j + 1 + k) (get_or rounds k d).amp in
    either (goes_on rate lines budget r) P (next ∷ rounds_after most rate lines budget next)
    (λ _. at_front next more (rounds_after most rate lines budget next) (after-raised most (j + 1) rate lines budget next more))
    (λ k d lt. absurd (omega arith))
  where
    at_front : (next : Round) → IsRaised (j + 1) next.amp → (rest : List Round) →
        ((k : ℕ) (d : Round) → k < length rest → IsRaised (j + 1 + 1 + k) (get_or rest k d).amp) →
        (k : ℕ) (d : Round) → k < length (next ∷ rest) → IsRaised (j + 1 + k) (get_or (next ∷ rest) k d).amp
    at_front next more rest later zero d lt =
        let same : j + 1 ≡ j + 1 + 0 = omega arith in
        subst (λ (n : ℕ). IsRaised n next.amp) same more
    at_front next more rest later (suc k) d lt =
        let same : j + 1 + 1 + k ≡ j + 1 + suc k = omega arith in
        subst (λ (n : ℕ). IsRaised n (get_or rest k d).amp) same (later k d (omega arith))

all-raised : (rate : ℕ) (lines : List ℤ) (budget j : ℕ) (d : Round) → j < length (rounds_of rate lines budget) →
    IsRaised j (get_or (rounds_of rate lines budget) j d).amp
unfolding round_of
all-raised rate lines budget zero d lt = raised-no_amp
all-raised rate lines budget (suc j) d lt =
    let same : 0 + 1 + j ≡ suc j = omega arith in
    let first = first_round rate lines budget in
    subst (λ (n : ℕ). IsRaised n (get_or (rounds_after 3 rate lines budget first) j d).amp) same
    (after-raised 3 0 rate lines budget first raised-no_amp j d (omega arith))

pub amps_rise_by_one : AmpsRiseByOne
amps_rise_by_one rate lines budget j d lt = (all-raised rate lines budget j d lt).small

-- ---- within the budget

amp-small : (j : ℕ) (amp : List ℕ) → j ≤ 3 → IsRaised j amp → IsAmp amp
amp-small j amp le is = record { long = is.long; small = λ k d lt. omega (arith, is.small k d lt) }

round-within : (rate : ℕ) (lines : List ℤ) (budget : ℕ) (amp : List ℕ) → All IsLine lines → IsAmp amp → part2_bits amp ≤ budget →
    IsRoundWithin rate lines budget (round_of rate lines budget amp)
unfolding round_of
round-within rate lines budget amp small is le =
    let there = pick_there (edges_at rate) amp lines (budget - part2_bits amp) is small in
    record {
      amp = is;
      count = there.0;
      picked_is = there.1.count;
      gain_is = there.1.gain;
      within = omega (arith, le, there.1.least.within);
    }

after-within : (most j rate : ℕ) (lines : List ℤ) (budget : ℕ) (r : Round) → All IsLine lines → j + most ≤ 3 → IsRaised j r.amp →
    All (IsRoundWithin rate lines budget) (rounds_after most rate lines budget r)
unfolding rounds_after
after-within zero j rate lines budget r small le is = All-nil (IsRoundWithin rate lines budget)
after-within (suc most) j rate lines budget r small le is =
    let P : Round → Type 0 = IsRoundWithin rate lines budget in
    let next = round_of rate lines budget (next_amp rate lines r) in
    let more : IsRaised (j + 1) next.amp = next-raised j rate lines budget r is in
    let amp : IsAmp (next_amp rate lines r) = amp-small (j + 1) (next_amp rate lines r) (omega arith) (raised-more j r.amp _ (allowed_in rate lines) is) in
    let rest = after-within most (j + 1) rate lines budget next small (omega arith) more in
    either (goes_on rate lines budget r) (All P) (next ∷ rounds_after most rate lines budget next)
    (λ e.
    let bits : part2_bits (next_amp rate lines r) ≤ budget = leb-true _ _ (and_right (ltb 0 r.over) (leb (part2_bits (next_amp rate lines r)) budget) e) in
    let here : P next = round-within rate lines budget (next_amp rate lines r) small amp bits in
    All-cons P next (rounds_after most rate lines budget next) here rest)
    (All-nil P)

no_bits : part2_bits no_amp ≡ 0
unfolding part2_of compress_of scalefactor_bits slen1_of slen2_of
no_bits = refl

pub rounds_are_within : RoundsAreWithin
unfolding round_of
rounds_are_within rate lines budget small =
    let first = first_round rate lines budget in
    let here = round-within rate lines budget no_amp small (amp-small 0 no_amp (omega arith) raised-no_amp) (omega (arith, no_bits)) in
    All-cons (IsRoundWithin rate lines budget) first (rounds_after 3 rate lines budget first) here
    (after-within 3 0 rate lines budget first small (omega arith) raised-no_amp)

member : {A : Type 0} (P : A → Type 0) (before : List A) (x : A) (after : List A) → All P (before ++ x ∷ after) → P x
member P [] x after all = All-head P x after all
member P (y ∷ before) x after all = member P before x after (All-tail P y (before ++ x ∷ after) all)

pub chosen_is_within : ChosenIsWithin
chosen_is_within rate lines budget small =
    let P = IsRoundWithin rate lines budget in
    let is = chosen_has_fewest_over rate lines budget in
    let Q : List Round → Type 0 = λ rounds. All P rounds in
    member P is.before (chosen_round rate lines budget) is.after (subst Q is.placed (rounds_are_within rate lines budget small))
