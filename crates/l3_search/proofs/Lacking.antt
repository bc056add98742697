-- How many counts a memo lacks.
use Rattle.std.proofs.Common.{◌≡◌, ℕ, zero, suc, ◌+◌, ◌-◌, ◌<◌, ◌≤◌, Bool, true, false, List, [], ◌∷◌, ◌++◌, Option, Some, None, refl, sym, ap, ◌∙◌, arith, cond, is_none}
use Rattle.std.specs.List.{count_by, range_with_len}
use Rattle.std.proofs.lemmas.List.FromFn.{length-range_with_len}
use Rattle.std.proofs.lemmas.List.Sums.{count_by-le-length, sum_by-cons, sum_by_push}
use Rattle.l3_quant.specs.Gains.{first_gain_of}
use Rattle.l3_count.specs.Count.{Counted}
use Rattle.l3_count.specs.Memo.{kept_at, no_counts}
use Rattle.l3_count.proofs.Counts.{count_from_the_first_gain}
use Rattle.l3_count.proofs.Memos.{kept_at-no_counts}
use Rattle.l3_search.specs.Gain.{lacking, picked_gain}
use Rattle.l3_search.specs.Laws.{CountedLacksNone, EmptyLacksTried, LacksAtMostTried}

-- one number more
range_with_len-more : (a n : ℕ) → range_with_len a (suc n) ≡ range_with_len a n ++ (a + n) ∷ []
range_with_len-more a zero = let e : a ≡ a + 0 = omega arith in ap (λ (k : ℕ). k ∷ []) e
range_with_len-more a (suc n) =
    let e : a + 1 + n ≡ a + suc n = omega arith in
    ap (λ (l : List ℕ). a ∷ l) (range_with_len-more (a + 1) n ∙ ap (λ (k : ℕ). range_with_len (a + 1) n ++ k ∷ []) e)

-- all of the numbers pass
count_by-range_all : (p : ℕ → Bool) (a n : ℕ) → ((k : ℕ) → p k ≡ true) →
    count_by p (range_with_len a n) ≡ n
count_by-range_all p a zero h = refl
count_by-range_all p a (suc n) h =
    let one : cond {A = ℕ} (p a) 1 0 ≡ 1 = ap (λ (b : Bool). cond b 1 0) (h a) in
    let rest : count_by p (range_with_len (a + 1) n) ≡ n = count_by-range_all p (a + 1) n h in
    let step : count_by p (range_with_len a (suc n)) ≡ cond (p a) 1 0 + count_by p (range_with_len (a + 1) n) = sum_by-cons (λ x. cond (p x) 1 0) a (range_with_len (a + 1) n) in
    omega arith

-- none of them does
count_by-range_none : (p : ℕ → Bool) (a n : ℕ) → ((k : ℕ) → a ≤ k → k < a + n → p k ≡ false) →
    count_by p (range_with_len a n) ≡ 0
count_by-range_none p a zero h = refl
count_by-range_none p a (suc n) h =
    let one : cond {A = ℕ} (p a) 1 0 ≡ 0 = ap (λ (b : Bool). cond b 1 0) (h a (omega arith) (omega arith)) in
    let rest : count_by p (range_with_len (a + 1) n) ≡ 0 = count_by-range_none p (a + 1) n (λ k low high. h k (omega arith) (omega arith)) in
    let step : count_by p (range_with_len a (suc n)) ≡ cond (p a) 1 0 + count_by p (range_with_len (a + 1) n) = sum_by-cons (λ x. cond (p x) 1 0) a (range_with_len (a + 1) n) in
    omega arith

-- at one gain
pub lacking-one : (memo : List (Option Counted)) (gain : ℕ) →
    lacking memo gain gain ≡ cond (is_none (kept_at memo gain)) 1 0
unfolding lacking
lacking-one memo gain = let one : gain + 1 - gain ≡ 1 = omega arith in rw one (omega arith)

pub lacking-one_there : (memo : List (Option Counted)) (gain : ℕ) (c : Counted) →
    kept_at memo gain ≡ Some c → 0 ≡ lacking memo gain gain
lacking-one_there memo gain c e = sym (lacking-one memo gain ∙ ap (λ (o : Option Counted). cond (is_none o) 1 0) e)

pub lacking-one_none : (memo : List (Option Counted)) (gain : ℕ) → kept_at memo gain ≡ None →
    1 ≡ lacking memo gain gain
lacking-one_none memo gain e = sym (lacking-one memo gain ∙ ap (λ (o : Option Counted). cond (is_none o) 1 0) e)

pub lacking-one_same : (memo other : List (Option Counted)) (gain : ℕ) →
    kept_at memo gain ≡ kept_at other gain → lacking memo gain gain ≡ lacking other gain gain
lacking-one_same memo other gain e = lacking-one memo gain ∙ (ap (λ (o : Option Counted). cond (is_none o) 1 0) e ∙ sym (lacking-one other gain))

-- up to one gain more
pub lacking-more : (memo : List (Option Counted)) (first last : ℕ) → first ≤ last + 1 →
    lacking memo first (last + 1) ≡ lacking memo first last + lacking memo (last + 1) (last + 1)
unfolding lacking
lacking-more memo first last le =
    let p : ℕ → Bool = λ gain. is_none (kept_at memo gain) in
    let f : ℕ → ℕ = λ x. cond (p x) 1 0 in
    let n = last + 1 - first in
    let long : last + 1 + 1 - first ≡ suc n = omega arith in
    let end : first + n ≡ last + 1 = omega arith in
    let range : range_with_len first (last + 1 + 1 - first) ≡ range_with_len first n ++ (last + 1) ∷ [] =
    ap (range_with_len first) long ∙ (range_with_len-more first n ∙ ap (λ (k : ℕ). range_with_len first n ++ k ∷ []) end) in
    let whole : count_by p (range_with_len first (last + 1 + 1 - first)) ≡ count_by p (range_with_len first n) + f (last + 1) = ap (count_by p) range ∙ sum_by_push f (range_with_len first n) (last + 1) in
    let one = lacking-one memo (last + 1) in
    omega arith

-- at most one for each gain
pub lacking-le : (memo : List (Option Counted)) (first last : ℕ) →
    lacking memo first last ≤ last + 1 - first
unfolding lacking
lacking-le memo first last =
    let n = last + 1 - first in
    omega (arith, count_by-le-length (λ gain. is_none (kept_at memo gain)) (range_with_len first n), length-range_with_len first n)

pub lacking-no_counts : (first last : ℕ) → lacking no_counts first last ≡ last + 1 - first
unfolding lacking
lacking-no_counts first last =
    count_by-range_all (λ gain. is_none (kept_at no_counts gain)) first (last + 1 - first) (λ k. ap (λ (o : Option Counted). is_none o) (kept_at-no_counts k))

pub empty_lacks_tried : EmptyLacksTried
empty_lacks_tried edges amp lines budget = lacking-no_counts (first_gain_of edges amp lines) (picked_gain edges amp lines budget)

pub lacks_at_most_tried : LacksAtMostTried
lacks_at_most_tried edges amp lines budget memo = lacking-le memo (first_gain_of edges amp lines) (picked_gain edges amp lines budget)

pub counted_lacks_none : CountedLacksNone
unfolding lacking
counted_lacks_none edges amp lines last most before after within top has =
    let first = first_gain_of edges amp lines in
    count_by-range_none (λ gain. is_none (kept_at after gain)) first (last + 1 - first) (λ k low high. there k low (omega arith))
  where
    there : (k : ℕ) → first_gain_of edges amp lines ≤ k → k ≤ last →
        is_none (kept_at after k) ≡ false
    there k low high = ap (λ (o : Option Counted). is_none o) (has.counts k low (omega arith) ∙ count_from_the_first_gain edges amp lines k (omega arith) low)
