-- What the words for choosing mean, and how a loop goes on with them.
use Rattle.std.proofs.Common.{◌≡◌, ℕ, zero, suc, ◌<◌, ◌≤◌, Bool, true, false, List, [], ◌∷◌, refl, ap, sym, ◌∙◌, arith, inl, inr, if◌then◌else◌}
use Rattle.std.specs.Prelude.{All, nat_le}
use Rattle.std.proofs.lemmas.Bool.{cases_Bool, cases_eq, cases_lt}
use Rattle.std.proofs.lemmas.Bool.Decides.{leb_tells}
use Rattle.std.proofs.lemmas.List.Elements.{All-nil, All-cons, All-append, All-weaker}
use Rattle.l3_base.specs.Choosing.{first_least, IsFirstLeast, least_passing, IsLeastPassing, greatest_passing, IsGreatestPassing}

-- what is cheaper than the chosen one is cheaper than all
no_cheaper_than_all : {A : Type 0} (cost : A → ℕ) (n : ℕ) (candidates : List A) (chosen : A) →
    IsFirstLeast cost candidates chosen → n ≤ cost chosen → All (λ other. n ≤ cost other) candidates
no_cheaper_than_all {A = A} cost n candidates chosen is le =
    let P : A → Type 0 = λ other. n ≤ cost other in
    let dearer = All-weaker (λ other. cost chosen < cost other) P (λ x lt. omega arith) is.before is.dearer in
    let others = All-weaker (λ other. cost chosen ≤ cost other) P (λ x l. omega arith) is.after is.no_cheaper in
    rw is.placed (All-append P is.before (chosen ∷ is.after) dearer (All-cons P chosen is.after le others))

pub first_least-first : {A : Type 0} (cost : A → ℕ) (first : A) (others : List A) → IsFirstLeast cost (first ∷ others) (first_least cost first others)
first_least-first cost first [] = record {
  before = [];
  after = [];
  placed = refl;
  dearer = All-nil (λ other. cost first < cost other);
  no_cheaper = All-nil (λ other. cost first ≤ cost other);
}
first_least-first cost first (second ∷ others) =
    let best = first_least cost second others in
    let is = first_least-first cost second others in
    elim (leb_tells (cost first) (cost best)) as (λ _. IsFirstLeast cost (first ∷ second ∷ others) (if nat_le (cost first) (cost best) then first else best)) [
      | inl low ↦ rw low.0 (record {
        before = [];
        after = second ∷ others;
        placed = refl;
        dearer = All-nil (λ other. cost first < cost other);
        no_cheaper = no_cheaper_than_all cost (cost first) (second ∷ others) best is low.1;
      })
      | inr high ↦ rw high.0 (record {
        before = first ∷ is.before;
        after = is.after;
        placed = ap (λ l. first ∷ l) is.placed;
        dearer = All-cons (λ other. cost best < cost other) first is.before high.1 is.dearer;
        no_cheaper = is.no_cheaper;
      })
    ]

pub least_passing-least : (limit : ℕ) (passes : ℕ → Bool) → IsLeastPassing limit passes (least_passing limit passes)
unfolding least_passing
least_passing-least zero passes = record { within = omega arith; passing = λ lt. absurd (omega arith); least = λ k lt. absurd (omega arith) }
least_passing-least (suc n) passes =
    let rest = least_passing-least n (λ k. passes (suc k)) in
    elim (cases_Bool (passes 0)) [
      | inl e ↦ rw e (record { within = omega arith; passing = λ _. e; least = λ k lt. absurd (omega arith) })
      | inr e ↦ rw e (record { within = omega (arith, rest.within); passing = λ lt. rest.passing (omega arith); least = below e rest.least })
    ]
  where
    below : {r : ℕ} → passes 0 ≡ false → ((k : ℕ) → k < r → passes (suc k) ≡ false) → (k : ℕ) → k < suc r → passes k ≡ false
    below e least zero lt = e
    below e least (suc k) lt = least k (omega arith)

pub greatest_passing-greatest : (limit : ℕ) (passes : ℕ → Bool) → IsGreatestPassing limit passes (greatest_passing limit passes)
unfolding greatest_passing
greatest_passing-greatest zero passes = record { greatest = λ k lt is. absurd (omega arith); none = λ _. refl }
greatest_passing-greatest (suc n) passes =
    let rest = greatest_passing-greatest n passes in
    elim (cases_Bool (passes n)) [
      | inl e ↦ rw e (record {
        greatest = λ k lt is. (omega arith, omega arith, e);
        none = λ none. let no : false ≡ true = sym (none n (omega arith)) ∙ e in cc;
      })
      | inr e ↦ rw e (record { greatest = further e rest; none = λ none. rest.none (λ k lt. none k (omega arith)) })
    ]
  where
    further : passes n ≡ false → IsGreatestPassing n passes (greatest_passing n passes) → (k : ℕ) → k < suc n → passes k ≡ true →
        (k ≤ greatest_passing n passes) × (greatest_passing n passes < suc n) × (passes (greatest_passing n passes) ≡ true)
    further e rest k lt is = elim (cases_eq k n) [
      | inl same ↦ let no : false ≡ true = sym e ∙ (ap passes (sym same) ∙ is) in cc
      | inr other ↦ let found = rest.greatest k (omega (arith, other)) is in (found.0, omega (arith, found.1), found.2)
    ]

-- a number that is the least that passes is the one
pub least_passing-is : (limit : ℕ) (passes : ℕ → Bool) (n : ℕ) → IsLeastPassing limit passes n → least_passing limit passes ≡ n
least_passing-is limit passes n is =
    let own = least_passing-least limit passes in
    let r = least_passing limit passes in
    elim (cases_lt r n) [
      | inl lt ↦ let no : false ≡ true = sym (is.least r lt) ∙ own.passing (omega (arith, is.within)) in cc
      | inr ge ↦ elim (cases_eq r n) [
        | inl same ↦ same
        | inr other ↦ let no : false ≡ true = sym (own.least n (omega (arith, other))) ∙ is.passing (omega (arith, other, own.within)) in cc
      ]
    ]

-- a number that passes, and above which none does below the limit, is the greatest
pub greatest_passing-is : (limit : ℕ) (passes : ℕ → Bool) (n : ℕ) → n < limit → passes n ≡ true →
    ((k : ℕ) → n < k → k < limit → passes k ≡ false) → greatest_passing limit passes ≡ n
greatest_passing-is limit passes n lt is above =
    let own = (greatest_passing-greatest limit passes).greatest n lt is in
    let r = greatest_passing limit passes in
    elim (cases_eq r n) [
      | inl same ↦ same
      | inr other ↦ let no : false ≡ true = sym (above r (omega (arith, other, own.0)) own.1) ∙ own.2 in cc
    ]
