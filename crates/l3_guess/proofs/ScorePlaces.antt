-- The first of the least scores and the last of the greatest, as a loop from the front finds them.
use Rattle.std.proofs.Common.{◌≡◌, ◌⊎◌, ◌∙◌, ℕ, zero, suc, ◌+◌, ◌-◌, ◌<◌, ◌≤◌, Bool, true, false, List, [], ◌∷◌, length, map, get_or, refl, ap, sym, arith, inl, inr}
use Rattle.std.specs.Prelude.{nat_le}
use Rattle.std.specs.List.{list_all}
use Rattle.std.proofs.lemmas.List.{get_or-map, length-map}
use Rattle.std.proofs.lemmas.Bool.{cases_lt, cases_eq}
use Rattle.std.proofs.lemmas.Bool.Decides.{nat_tests}
use Rattle.std.proofs.lemmas.List.Folds.{list_all_at}
use Rattle.l3_base.proofs.ChoosingLemmas.{least_passing-is, greatest_passing-is}
use Rattle.l3_guess.specs.Scores.{best_place, worst_place}
use Rattle.l3_guess.specs.Laws.{IsFirstOfLeast, IsLastOfGreatest, BestIsFirstOfLeast, WorstIsLastOfGreatest}

-- of the first n scores, that at p is the first of the least
pub record LeastOf (scores : List ℕ) (n p : ℕ) : Type 0 where
  pub among : p < n
  pub least : (k : ℕ) → k < n → get_or scores p 0 ≤ get_or scores k 0
  pub first : (k : ℕ) → k < p → get_or scores p 0 < get_or scores k 0

-- of the first n scores, that at p is the last of the greatest
pub record GreatestOf (scores : List ℕ) (n p : ℕ) : Type 0 where
  pub among : p < n
  pub greatest : (k : ℕ) → k < n → get_or scores k 0 ≤ get_or scores p 0
  pub last : (k : ℕ) → p < k → k < n → get_or scores k 0 < get_or scores p 0

score-same : (scores : List ℕ) (j k : ℕ) → j ≡ k → get_or scores j 0 ≡ get_or scores k 0
score-same scores j k same = ap (λ i. get_or scores i 0) same

pub least-one : (scores : List ℕ) → LeastOf scores 1 0
least-one scores = record {
  among = omega arith;
  least = λ k lt. let same = score-same scores k 0 (omega arith) in omega arith;
  first = λ k lt. absurd (omega arith);
}

pub greatest-one : (scores : List ℕ) → GreatestOf scores 1 0
greatest-one scores = record {
  among = omega arith;
  greatest = λ k lt. let same = score-same scores k 0 (omega arith) in omega arith;
  last = λ k gt lt. absurd (omega arith);
}

pub least-new : (scores : List ℕ) (n m p : ℕ) → m ≡ n + 1 → LeastOf scores n p → get_or scores n 0 < get_or scores p 0 → LeastOf scores m n
least-new scores n m p next is less = record {
  among = omega arith;
  least = λ k lt. elim (cases_eq k n) [
    | inl same ↦ let equal = score-same scores k n same in omega arith
    | inr other ↦ omega (arith, is.least k (omega (arith, other)))
  ];
  first = λ k lt. omega (arith, is.least k lt);
}

pub least-kept : (scores : List ℕ) (n m p : ℕ) → m ≡ n + 1 → LeastOf scores n p → get_or scores p 0 ≤ get_or scores n 0 → LeastOf scores m p
least-kept scores n m p next is no_less = record {
  among = omega (arith, is.among);
  least = λ k lt. elim (cases_eq k n) [
    | inl same ↦ let equal = score-same scores k n same in omega arith
    | inr other ↦ omega (arith, is.least k (omega (arith, other)))
  ];
  first = is.first;
}

pub greatest-new : (scores : List ℕ) (n m p : ℕ) → m ≡ n + 1 → GreatestOf scores n p → get_or scores p 0 ≤ get_or scores n 0 → GreatestOf scores m n
greatest-new scores n m p next is no_less = record {
  among = omega arith;
  greatest = λ k lt. elim (cases_eq k n) [
    | inl same ↦ let equal = score-same scores k n same in omega arith
    | inr other ↦ omega (arith, is.greatest k (omega (arith, other)))
  ];
  last = λ k gt lt. absurd (omega arith);
}

pub greatest-kept : (scores : List ℕ) (n m p : ℕ) → m ≡ n + 1 → GreatestOf scores n p → get_or scores n 0 < get_or scores p 0 → GreatestOf scores m p
greatest-kept scores n m p next is less = record {
  among = omega (arith, is.among);
  greatest = λ k lt. elim (cases_eq k n) [
    | inl same ↦ let equal = score-same scores k n same in omega arith
    | inr other ↦ omega (arith, is.greatest k (omega (arith, other)))
  ];
  last = λ k gt lt. elim (cases_eq k n) [
    | inl same ↦ let equal = score-same scores k n same in omega arith
    | inr other ↦ omega (arith, is.last k gt (omega (arith, other)))
  ];
}

pub least-whole : (scores : List ℕ) (n p : ℕ) → n ≡ length scores → LeastOf scores n p → IsFirstOfLeast scores p
least-whole scores n p all is = record { among = omega (arith, is.among); least = λ k lt. is.least k (omega arith); first = is.first }

pub greatest-whole : (scores : List ℕ) (n p : ℕ) → n ≡ length scores → GreatestOf scores n p → IsLastOfGreatest scores p
greatest-whole scores n p all is = record { among = omega (arith, is.among); greatest = λ k lt. is.greatest k (omega arith); last = λ k gt lt. is.last k gt (omega arith) }

-- a test that each score passes
all_pass : (passes : ℕ → Bool) (scores : List ℕ) → ((k : ℕ) → k < length scores → passes (get_or scores k 0) ≡ true) → list_all passes scores ≡ true
all_pass passes [] each = refl
all_pass passes (score ∷ scores) each =
    let here : passes score ≡ true = each zero (omega arith) in
    rw here (all_pass passes scores (λ k lt. each (suc k) (omega arith)))

tests-le : (a b : ℕ) → a ≤ b → nat_le a b ≡ true
tests-le a b le = grind (arith, nat_tests)

tests-gt : (a b : ℕ) → b < a → nat_le a b ≡ false
tests-gt a b lt = grind (arith, nat_tests)

pub best_place-is : (scores : List ℕ) (p : ℕ) → IsFirstOfLeast scores p → best_place scores ≡ p
best_place-is scores p is =
    least_passing-is (length scores) (λ place. list_all (λ other. nat_le (get_or scores place 0) other) scores) p (record {
      within = omega (arith, is.among);
      passing = λ _. all_pass (λ other. nat_le (get_or scores p 0) other) scores (λ k lt. tests-le (get_or scores p 0) (get_or scores k 0) (is.least k lt));
      least = λ k lt. list_all_at (λ other. nat_le (get_or scores k 0) other) scores p 0 is.among (tests-gt (get_or scores k 0) (get_or scores p 0) (is.first k lt));
    })

pub worst_place-is : (scores : List ℕ) (p : ℕ) → IsLastOfGreatest scores p → worst_place scores ≡ p
worst_place-is scores p is =
    greatest_passing-is (length scores) (λ place. list_all (λ other. nat_le other (get_or scores place 0)) scores) p is.among
    (all_pass (λ other. nat_le other (get_or scores p 0)) scores (λ k lt. tests-le (get_or scores k 0) (get_or scores p 0) (is.greatest k lt)))
    (λ k gt lt. list_all_at (λ other. nat_le other (get_or scores k 0)) scores p 0 is.among (tests-gt (get_or scores p 0) (get_or scores k 0) (is.last k gt lt)))

least_found : (scores : List ℕ) (n : ℕ) → (p : ℕ) × LeastOf scores (suc n) p
least_found scores zero = (0, least-one scores)
least_found scores (suc n) =
    let so_far = least_found scores n in
    elim (cases_lt (get_or scores (suc n) 0) (get_or scores so_far.0 0)) [
      | inl less ↦ (suc n, least-new scores (suc n) (suc (suc n)) so_far.0 (omega arith) so_far.1 less)
      | inr no_less ↦ (so_far.0, least-kept scores (suc n) (suc (suc n)) so_far.0 (omega arith) so_far.1 no_less)
    ]

greatest_found : (scores : List ℕ) (n : ℕ) → (p : ℕ) × GreatestOf scores (suc n) p
greatest_found scores zero = (0, greatest-one scores)
greatest_found scores (suc n) =
    let so_far = greatest_found scores n in
    elim (cases_lt (get_or scores (suc n) 0) (get_or scores so_far.0 0)) [
      | inl less ↦ (so_far.0, greatest-kept scores (suc n) (suc (suc n)) so_far.0 (omega arith) so_far.1 less)
      | inr no_less ↦ (suc n, greatest-new scores (suc n) (suc (suc n)) so_far.0 (omega arith) so_far.1 no_less)
    ]

pub best_place-first : BestIsFirstOfLeast
best_place-first scores some =
    let found = least_found scores (length scores - 1) in
    let is = least-whole scores (suc (length scores - 1)) found.0 (omega arith) found.1 in
    rw (best_place-is scores found.0 is) is

pub worst_place-last : WorstIsLastOfGreatest
worst_place-last scores some =
    let found = greatest_found scores (length scores - 1) in
    let is = greatest-whole scores (suc (length scores - 1)) found.0 (omega arith) found.1 in
    rw (worst_place-is scores found.0 is) is

-- the same for rows that have a score each

pub least-more : {A : Type 0} (score : A → ℕ) (rows : List A) (n p q : ℕ) (d e : A) → LeastOf (map score rows) n p → n < length rows →
    ((score (get_or rows n d) < score (get_or rows p e)) × (q ≡ n)) ⊎ ((score (get_or rows p e) ≤ score (get_or rows n d)) × (q ≡ p)) →
    LeastOf (map score rows) (n + 1) q
least-more score rows n p q d e is within choice =
    let row_is = get_or-map score rows n d 0 within in
    let best_is = get_or-map score rows p e 0 (omega (arith, is.among)) in
    elim choice [
      | inl less ↦ rw less.1 (least-new (map score rows) n (n + 1) p refl is (omega (arith, less.0)))
      | inr no_less ↦ rw no_less.1 (least-kept (map score rows) n (n + 1) p refl is (omega (arith, no_less.0)))
    ]

pub greatest-more : {A : Type 0} (score : A → ℕ) (rows : List A) (n p q : ℕ) (d e : A) → GreatestOf (map score rows) n p → n < length rows →
    ((score (get_or rows p e) ≤ score (get_or rows n d)) × (q ≡ n)) ⊎ ((score (get_or rows n d) < score (get_or rows p e)) × (q ≡ p)) →
    GreatestOf (map score rows) (n + 1) q
greatest-more score rows n p q d e is within choice =
    let row_is = get_or-map score rows n d 0 within in
    let worst_is = get_or-map score rows p e 0 (omega (arith, is.among)) in
    elim choice [
      | inl no_less ↦ rw no_less.1 (greatest-new (map score rows) n (n + 1) p refl is (omega (arith, no_less.0)))
      | inr less ↦ rw less.1 (greatest-kept (map score rows) n (n + 1) p refl is (omega (arith, less.0)))
    ]

pub best_of_rows : {A : Type 0} (score : A → ℕ) (rows : List A) (n p : ℕ) → n ≡ length rows → LeastOf (map score rows) n p → p ≡ best_place (map score rows)
best_of_rows score rows n p all is =
    sym (best_place-is (map score rows) p (least-whole (map score rows) n p (all ∙ sym (length-map rows score)) is))

pub worst_of_rows : {A : Type 0} (score : A → ℕ) (rows : List A) (n p : ℕ) → n ≡ length rows → GreatestOf (map score rows) n p → p ≡ worst_place (map score rows)
worst_of_rows score rows n p all is =
    sym (worst_place-is (map score rows) p (greatest-whole (map score rows) n p (all ∙ sym (length-map rows score)) is))
