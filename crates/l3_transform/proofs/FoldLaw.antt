-- The sum of the 64 columns is that of the 32 they are folded to.
use Rattle.std.proofs.Common.{◌≡◌, ℕ, zero, suc, ◌+◌, ◌-◌, ◌*◌, ◌<◌, ◌≤◌, ℤ, pos, ◌+ℤ◌, ◌-ℤ◌, ◌*ℤ◌, neg_ℤ, inl, inr, lit<, mul-add, arith, refl, sym, ap, ◌∙◌}
use Rattle.std.proofs.lemmas.Int.{ints}
use Rattle.std.proofs.lemmas.Bool.Decides.{nat_tests}
use Rattle.std.proofs.Math.IntN.{zero-*ℤ, *ℤ-zero, *ℤ_comm}
use Rattle.std.proofs.lemmas.Bool.{cases_lt}
use Rattle.std.specs.Prelude.{unsigned_abs}
use Rattle.l3_base.specs.Sums.{sum_below}
use Rattle.l3_base.specs.Cosines.{cosine64}
use Rattle.l3_base.specs.Filterbank.{subband_sum}
use Rattle.l3_base.proofs.Circles.{extended64}
use Rattle.l3_base.proofs.Entries.{within_same}
use Rattle.l3_base.proofs.SumLemmas.{sum_below-split, sum_below-add, sum_below-same, times_add}
use Rattle.l3_transform.specs.Fold.{folded_column, folded_columns_sum}

-- the first term and the others
pub sum_below-first : (n : ℕ) (f : ℕ → ℤ) → sum_below (suc n) f ≡ f 0 +ℤ sum_below n (λ i. f (suc i))
unfolding sum_below
sum_below-first zero f = omega (arith, ints)
sum_below-first (suc n) f = omega (arith, ints, sum_below-first n f)

-- backwards
pub sum_below-back : (n : ℕ) (f : ℕ → ℤ) → sum_below n f ≡ sum_below n (λ i. f (n - 1 - i))
unfolding sum_below
sum_below-back zero f = refl
sum_below-back (suc n) f =
    let g : ℕ → ℤ = λ i. f (suc n - 1 - i) in
    let first : sum_below (suc n) g ≡ g 0 +ℤ sum_below n (λ i. g (suc i)) = sum_below-first n g in
    let zero_is : g 0 ≡ f n = ap f (omega arith) in
    let rest : sum_below n (λ i. g (suc i)) ≡ sum_below n (λ i. f (n - 1 - i)) = sum_below-same n (λ i. g (suc i)) (λ i. f (n - 1 - i)) (λ i lt. ap f (omega arith)) in
    let before : sum_below n f ≡ sum_below n (λ i. f (n - 1 - i)) = sum_below-back n f in
    let mine : sum_below (suc n) f ≡ sum_below n f +ℤ f n = refl in
    omega (arith, ints)

pub times_sub : (k a b : ℤ) → k *ℤ (a -ℤ b) ≡ k *ℤ a -ℤ k *ℤ b
times_sub k a b =
    let whole : a -ℤ b +ℤ b ≡ a = omega (arith, ints) in
    let both : k *ℤ (a -ℤ b +ℤ b) ≡ k *ℤ a = ap (λ z. k *ℤ z) whole in
    omega (arith, ints, times_add k (a -ℤ b) b, both)

pub neg_times : (k a : ℤ) → neg_ℤ k *ℤ a ≡ neg_ℤ (k *ℤ a)
neg_times k a =
    let none : k +ℤ neg_ℤ k ≡ pos 0 = omega (arith, ints) in
    let both : a *ℤ (k +ℤ neg_ℤ k) ≡ a *ℤ pos 0 = ap (λ z. a *ℤ z) none in
    omega (arith, ints, times_add a k (neg_ℤ k), both, *ℤ-zero a, *ℤ_comm k a, *ℤ_comm (neg_ℤ k) a)

-- the 64 terms by the places of the fold
pub parts : (f : ℕ → ℤ) → sum_below 64 f ≡ f 16 +ℤ (sum_below 16 (λ j. f (16 + suc j)) +ℤ sum_below 16 (λ j. f (15 - j))) +ℤ (sum_below 15 (λ j. f (33 + j)) +ℤ (f 48 +ℤ sum_below 15 (λ j. f (63 - j))))
parts f =
    let low : sum_below 64 f ≡ sum_below 16 f +ℤ sum_below 48 (λ i. f (16 + i)) = sum_below-split 16 48 f in
    let back : sum_below 16 f ≡ sum_below 16 (λ i. f (16 - 1 - i)) = sum_below-back 16 f in
    let back' : sum_below 16 (λ i. f (16 - 1 - i)) ≡ sum_below 16 (λ j. f (15 - j)) = sum_below-same 16 (λ i. f (16 - 1 - i)) (λ j. f (15 - j)) (λ i lt. ap f (omega arith)) in
    let middle : sum_below 48 (λ i. f (16 + i)) ≡ sum_below 17 (λ i. f (16 + i)) +ℤ sum_below 31 (λ i. f (16 + (17 + i))) = sum_below-split 17 31 (λ i. f (16 + i)) in
    let first : sum_below 17 (λ i. f (16 + i)) ≡ f (16 + 0) +ℤ sum_below 16 (λ j. f (16 + suc j)) = sum_below-first 16 (λ i. f (16 + i)) in
    let high : sum_below 31 (λ i. f (16 + (17 + i))) ≡ sum_below 15 (λ i. f (16 + (17 + i))) +ℤ sum_below 16 (λ i. f (16 + (17 + (15 + i)))) = sum_below-split 15 16 (λ i. f (16 + (17 + i))) in
    let high' : sum_below 15 (λ i. f (16 + (17 + i))) ≡ sum_below 15 (λ j. f (33 + j)) = sum_below-same 15 (λ i. f (16 + (17 + i))) (λ j. f (33 + j)) (λ i lt. ap f (omega arith)) in
    let last : sum_below 16 (λ i. f (16 + (17 + (15 + i)))) ≡ f (16 + (17 + (15 + 0))) +ℤ sum_below 15 (λ i. f (16 + (17 + (15 + suc i)))) = sum_below-first 15 (λ i. f (16 + (17 + (15 + i)))) in
    let back2 : sum_below 15 (λ i. f (16 + (17 + (15 + suc i)))) ≡ sum_below 15 (λ i. f (16 + (17 + (15 + suc (15 - 1 - i))))) = sum_below-back 15 (λ i. f (16 + (17 + (15 + suc i)))) in
    let back2' : sum_below 15 (λ i. f (16 + (17 + (15 + suc (15 - 1 - i))))) ≡ sum_below 15 (λ j. f (63 - j)) =
    sum_below-same 15 (λ i. f (16 + (17 + (15 + suc (15 - 1 - i))))) (λ j. f (63 - j)) (λ i lt. ap f (omega arith)) in
    omega (arith, ints)

-- the 32 folded terms
pub half_parts : (g : ℕ → ℤ) → sum_below 32 g ≡ g 0 +ℤ (sum_below 16 (λ j. g (suc j)) +ℤ sum_below 15 (λ j. g (17 + j)))
half_parts g =
    let first : sum_below 32 g ≡ g 0 +ℤ sum_below 31 (λ j. g (suc j)) = sum_below-first 31 g in
    let split : sum_below 31 (λ j. g (suc j)) ≡ sum_below 16 (λ j. g (suc j)) +ℤ sum_below 15 (λ j. g (suc (16 + j))) = sum_below-split 16 15 (λ j. g (suc j)) in
    let same : sum_below 15 (λ j. g (suc (16 + j))) ≡ sum_below 15 (λ j. g (17 + j)) = sum_below-same 15 (λ j. g (suc (16 + j))) (λ j. g (17 + j)) (λ j lt. ap g (omega arith)) in
    omega (arith, ints)

-- the cosine of column k, and of folded column j, in a subband of odd steps a
abbrev of_column : ℕ → ℕ → ℤ
of_column a k = cosine64 (pos a *ℤ (pos k -ℤ pos 16))

abbrev of_folded : ℕ → ℕ → ℤ
of_folded a j = cosine64 (pos a *ℤ pos j)

times_neg : (a j : ℕ) → pos a *ℤ neg_ℤ (pos j) ≡ neg_ℤ (pos a *ℤ pos j)
times_neg a zero = omega (arith, ints)
times_neg a (suc j) = refl

pub periods : (n : ℕ) (m : ℤ) → cosine64 (m +ℤ pos (128 * n)) ≡ cosine64 m
periods zero m = ap cosine64 (omega (arith, ints))
periods (suc n) m =
    let next : m +ℤ pos (128 * suc n) ≡ m +ℤ pos (128 * n) +ℤ pos 128 = omega (arith, ints) in
    ap cosine64 next ∙ (extended64.periodic (m +ℤ pos (128 * n)) ∙ periods n m)

-- to the right of column 16, to its left, and about column 48
right_is : (a j : ℕ) → of_column a (16 + j) ≡ of_folded a j
right_is a j = let place : pos (16 + j) -ℤ pos 16 ≡ pos j = omega (arith, ints) in ap (λ z. cosine64 (pos a *ℤ z)) place

left_is : (a j : ℕ) → j ≤ 16 → of_column a (16 - j) ≡ of_folded a j
left_is a j le =
    let place : pos (16 - j) -ℤ pos 16 ≡ neg_ℤ (pos j) = omega (arith, ints) in
    ap (λ z. cosine64 (pos a *ℤ z)) place ∙ (ap cosine64 (times_neg a j) ∙ extended64.even (pos a *ℤ pos j))

pub shifted : (p q n : ℕ) → p + q ≡ 64 + n → pos p ≡ pos 64 -ℤ pos q +ℤ pos n
shifted p q n e = omega (arith, ints)

-- terms put in order
regrouped : (s x y t u : ℤ) → s ≡ x -ℤ y → x ≡ t → neg_ℤ y ≡ u → s ≡ t +ℤ u
regrouped s x y t u e f g = omega (arith, ints)

joined : (whole half a b c d e f g h k : ℤ) → whole ≡ a +ℤ (b +ℤ c) +ℤ (d +ℤ (e +ℤ f)) → half ≡ g +ℤ (h +ℤ k) → e ≡ pos 0 → g ≡ a → h ≡ b +ℤ c → k ≡ d +ℤ f → half ≡ whole
joined whole half a b c d e f g h k p q r s t u = omega (arith, ints)

odd_steps : (i a j r : ℕ) → a ≡ 2 * i + 1 → r + j ≡ 64 → a * r + a * j ≡ 64 + 128 * i
odd_steps i a j r e f =
    let whole : a * (r + j) ≡ a * r + a * j = mul-add a r j in
    let product : a * (r + j) ≡ a * 64 = ap (λ n. a * n) f in
    omega arith

mirror_is : (i j : ℕ) → j ≤ 64 → of_column (2 * i + 1) (80 - j) ≡ neg_ℤ (of_folded (2 * i + 1) j)
mirror_is i j le =
    let place : pos (80 - j) -ℤ pos 16 ≡ pos (64 - j) = omega (arith, ints) in
    let steps : (2 * i + 1) * (64 - j) + (2 * i + 1) * j ≡ 64 + 128 * i = odd_steps i (2 * i + 1) j (64 - j) refl (omega arith) in
    let turned : pos ((2 * i + 1) * (64 - j)) ≡ pos 64 -ℤ pos ((2 * i + 1) * j) +ℤ pos (128 * i) = shifted ((2 * i + 1) * (64 - j)) ((2 * i + 1) * j) (128 * i) steps in
    ap (λ z. cosine64 (pos (2 * i + 1) *ℤ z)) place
    ∙ (ap cosine64 turned ∙ (periods i (pos 64 -ℤ pos ((2 * i + 1) * j)) ∙ extended64.turned (pos ((2 * i + 1) * j))))

own_opposite : (x : ℤ) → x ≡ neg_ℤ x → x ≡ pos 0
own_opposite x e = omega (arith, ints)

none_is : (i : ℕ) → of_column (2 * i + 1) 48 ≡ pos 0
none_is i = own_opposite (of_column (2 * i + 1) 48) (mirror_is i 32 (omega arith) ∙ ap neg_ℤ (sym (right_is (2 * i + 1) 32)))

-- the folded terms, one by one
abbrev term : (ℕ → ℤ) → ℕ → ℕ → ℤ
term y i k = of_column (2 * i + 1) k *ℤ y k

abbrev half_term : (ℕ → ℤ) → ℕ → ℕ → ℤ
half_term u i j = of_folded (2 * i + 1) j *ℤ u j

pub at_low : (y : ℕ → ℤ) (j : ℕ) → 1 ≤ j → j ≤ 16 → folded_column y j ≡ y (16 + j) +ℤ y (16 - j)
unfolding folded_column
at_low y j a b = grind (arith, nat_tests)

pub at_high : (y : ℕ → ℤ) (j : ℕ) → 17 ≤ j → folded_column y j ≡ y (16 + j) -ℤ y (80 - j)
unfolding folded_column
at_high y j a = grind (arith, nat_tests)

pub at_first : (y : ℕ → ℤ) → folded_column y 0 ≡ y 16
unfolding folded_column
at_first y = refl

first_term : (y : ℕ → ℤ) (i : ℕ) → half_term (folded_column y) i 0 ≡ term y i 16
first_term y i = ap (λ z. of_folded (2 * i + 1) 0 *ℤ z) (at_first y)

low_term : (y : ℕ → ℤ) (i j : ℕ) → j < 16 → half_term (folded_column y) i (suc j) ≡ term y i (16 + suc j) +ℤ term y i (15 - j)
low_term y i j lt =
    let there : 16 - suc j ≡ 15 - j = omega arith in
    let value : folded_column y (suc j) ≡ y (16 + suc j) +ℤ y (15 - j) = at_low y (suc j) (omega arith) (omega arith) ∙ ap (λ n. y (16 + suc j) +ℤ y n) there in
    let left : of_column (2 * i + 1) (15 - j) ≡ of_folded (2 * i + 1) (suc j) = ap (of_column (2 * i + 1)) (sym there) ∙ left_is (2 * i + 1) (suc j) (omega arith) in
    ap (λ z. of_folded (2 * i + 1) (suc j) *ℤ z) value
    ∙ (times_add (of_folded (2 * i + 1) (suc j)) (y (16 + suc j)) (y (15 - j))
    ∙ (ap (λ z. z *ℤ y (16 + suc j) +ℤ of_folded (2 * i + 1) (suc j) *ℤ y (15 - j)) (sym (right_is (2 * i + 1) (suc j)))
    ∙ ap (λ z. of_column (2 * i + 1) (16 + suc j) *ℤ y (16 + suc j) +ℤ z *ℤ y (15 - j)) (sym left)))

high_term : (y : ℕ → ℤ) (i j : ℕ) → j < 15 → half_term (folded_column y) i (17 + j) ≡ term y i (33 + j) +ℤ term y i (63 - j)
high_term y i j lt =
    let above : 16 + (17 + j) ≡ 33 + j = omega arith in
    let there : 80 - (17 + j) ≡ 63 - j = omega arith in
    let value : folded_column y (17 + j) ≡ y (33 + j) -ℤ y (63 - j) = at_high y (17 + j) (omega arith) ∙ (ap (λ n. y n -ℤ y (80 - (17 + j))) above ∙ ap (λ n. y (33 + j) -ℤ y n) there) in
    let right : of_column (2 * i + 1) (33 + j) ≡ of_folded (2 * i + 1) (17 + j) = ap (of_column (2 * i + 1)) (sym above) ∙ right_is (2 * i + 1) (17 + j) in
    let mirror : of_column (2 * i + 1) (63 - j) ≡ neg_ℤ (of_folded (2 * i + 1) (17 + j)) = ap (of_column (2 * i + 1)) (sym there) ∙ mirror_is i (17 + j) (omega arith) in
    let first : of_folded (2 * i + 1) (17 + j) *ℤ y (33 + j) ≡ term y i (33 + j) = ap (λ z. z *ℤ y (33 + j)) (sym right) in
    let second : neg_ℤ (of_folded (2 * i + 1) (17 + j)) *ℤ y (63 - j) ≡ term y i (63 - j) = ap (λ z. z *ℤ y (63 - j)) (sym mirror) in
    let sum : half_term (folded_column y) i (17 + j) ≡ of_folded (2 * i + 1) (17 + j) *ℤ y (33 + j) -ℤ of_folded (2 * i + 1) (17 + j) *ℤ y (63 - j) =
    ap (λ z. of_folded (2 * i + 1) (17 + j) *ℤ z) value ∙ times_sub (of_folded (2 * i + 1) (17 + j)) (y (33 + j)) (y (63 - j)) in
    regrouped _ _ _ _ _ sum first (sym (neg_times (of_folded (2 * i + 1) (17 + j)) (y (63 - j))) ∙ second)

pub fold_is : (y : ℕ → ℤ) (i : ℕ) → folded_columns_sum (folded_column y) i ≡ subband_sum y i
unfolding folded_columns_sum subband_sum
fold_is y i =
    let none : term y i 48 ≡ pos 0 = ap (λ z. z *ℤ y 48) (none_is i) ∙ zero-*ℤ (y 48) in
    let start : half_term (folded_column y) i 0 ≡ term y i 16 = first_term y i in
    let low : sum_below 16 (λ j. half_term (folded_column y) i (suc j)) ≡ sum_below 16 (λ j. term y i (16 + suc j) +ℤ term y i (15 - j)) =
    sum_below-same 16 (λ j. half_term (folded_column y) i (suc j)) (λ j. term y i (16 + suc j) +ℤ term y i (15 - j)) (λ j lt. low_term y i j lt) in
    let high : sum_below 15 (λ j. half_term (folded_column y) i (17 + j)) ≡ sum_below 15 (λ j. term y i (33 + j) +ℤ term y i (63 - j)) =
    sum_below-same 15 (λ j. half_term (folded_column y) i (17 + j)) (λ j. term y i (33 + j) +ℤ term y i (63 - j)) (λ j lt. high_term y i j lt) in
    joined _ _ _ (sum_below 16 (λ j. term y i (16 + suc j))) (sum_below 16 (λ j. term y i (15 - j))) (sum_below 15 (λ j. term y i (33 + j))) _ (sum_below 15 (λ j. term y i (63 - j))) _ _ _
    (parts (term y i)) (half_parts (half_term (folded_column y) i)) none start
    (low ∙ sum_below-add 16 (λ j. term y i (16 + suc j)) (λ j. term y i (15 - j)))
    (high ∙ sum_below-add 15 (λ j. term y i (33 + j)) (λ j. term y i (63 - j)))

pub folded_columns_sum-same : (f g : ℕ → ℤ) (i : ℕ) → ((j : ℕ) → j < 32 → f j ≡ g j) → folded_columns_sum f i ≡ folded_columns_sum g i
unfolding folded_columns_sum
folded_columns_sum-same f g i h = sum_below-same 32 _ _ (λ j lt. ap (λ z. cosine64 (pos (2 * i + 1) *ℤ pos j) *ℤ z) (h j lt))

abs_both : (x y : ℤ) → (unsigned_abs (x +ℤ y) ≤ unsigned_abs x + unsigned_abs y) × (unsigned_abs (x -ℤ y) ≤ unsigned_abs x + unsigned_abs y)
abs_both x y = (grind (arith, ints), grind (arith, ints))

pub folded_small : (y : ℕ → ℤ) (j bound : ℕ) → j < 32 → ((k : ℕ) → k < 64 → unsigned_abs (y k) ≤ bound) → unsigned_abs (folded_column y j) ≤ 2 * bound
folded_small y zero bound lt small = within_same (2 * bound) _ _ (at_first y) (omega (arith, small 16 (lit< tt)))
folded_small y (suc j) bound lt small =
    elim (cases_lt j 16) [
      | inl low ↦ within_same (2 * bound) _ _ (at_low y (suc j) (omega arith) (omega arith))
          (omega (arith, (abs_both (y (16 + suc j)) (y (16 - suc j))).0, small (16 + suc j) (omega arith), small (16 - suc j) (omega arith)))
      | inr high ↦ within_same (2 * bound) _ _ (at_high y (suc j) (omega arith))
          (omega (arith, (abs_both (y (16 + suc j)) (y (80 - suc j))).1, small (16 + suc j) (omega arith), small (80 - suc j) (omega arith)))
    ]
