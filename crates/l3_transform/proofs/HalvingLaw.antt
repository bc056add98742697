-- A subband and the one opposite to it have the same products, with the other sign at every other
-- column.
use Rattle.std.proofs.Common.{◌≡◌, ℕ, zero, suc, ◌+◌, ◌*◌, ◌<◌, ℤ, pos, ◌+ℤ◌, ◌-ℤ◌, ◌*ℤ◌, neg_ℤ, ◌-◌, ◌≤◌, ◌^◌, mul-add, add-mul, mul_assoc, mul-suc, arith, refl, sym, ap, ◌∙◌}
use Rattle.std.proofs.lemmas.Int.{ints}
use Rattle.std.specs.Prelude.{unsigned_abs}
use Rattle.l3_base.specs.Sums.{sum_below}
use Rattle.l3_base.specs.Cosines.{cosine64}
use Rattle.l3_base.proofs.Circles.{extended64}
use Rattle.l3_base.proofs.SumLemmas.{sum_below-same}
use Rattle.l3_transform.specs.Fold.{folded_columns_sum, part_sum}
use Rattle.l3_transform.proofs.FoldLaw.{periods, shifted, neg_times}

-- the terms at even and at odd places
sum_below-pairs : (n : ℕ) (f : ℕ → ℤ) → sum_below (n + n) f ≡ sum_below n (λ m. f (m + m)) +ℤ sum_below n (λ m. f (suc (m + m)))
unfolding sum_below
sum_below-pairs zero f = refl
sum_below-pairs (suc n) f =
    let two : suc n + suc n ≡ suc (suc (n + n)) = omega arith in
    let whole : sum_below (suc n + suc n) f ≡ sum_below (n + n) f +ℤ f (n + n) +ℤ f (suc (n + n)) = ap (λ k. sum_below k f) two in
    omega (arith, ints, whole, sum_below-pairs n f)

-- each term with the other sign
pub sum_below-neg : (n : ℕ) (f : ℕ → ℤ) → sum_below n (λ m. neg_ℤ (f m)) ≡ neg_ℤ (sum_below n f)
unfolding sum_below
sum_below-neg zero f = refl
sum_below-neg (suc n) f = omega (arith, ints, sum_below-neg n f)

-- steps that make whole circles together, and those that want half a circle
whole_circles : (n x y : ℕ) → x + y ≡ 128 * n → cosine64 (pos y) ≡ cosine64 (pos x)
whole_circles n x y e =
    let back : pos y ≡ neg_ℤ (pos x) +ℤ pos (128 * n) = omega (arith, ints) in
    ap cosine64 back ∙ (periods n (neg_ℤ (pos x)) ∙ extended64.even (pos x))

half_more : (n x y : ℕ) → x + y ≡ 64 + 128 * n → cosine64 (pos y) ≡ neg_ℤ (cosine64 (pos x))
half_more n x y e = ap cosine64 (shifted y x (128 * n) (omega arith)) ∙ (periods n (pos 64 -ℤ pos x) ∙ extended64.turned (pos x))

-- the steps of two subbands, a and b a column, at the even columns and at the odd ones
even_steps : (a b s m : ℕ) → (a + b) * s ≡ 64 → a * ((s + s) * m) + b * ((s + s) * m) ≡ 128 * m
even_steps a b s m e =
    let both : (a + b) * ((s + s) * m) ≡ a * ((s + s) * m) + b * ((s + s) * m) = add-mul a b ((s + s) * m) in
    let twice : (a + b) * (s + s) ≡ (a + b) * s + (a + b) * s = mul-add (a + b) s s in
    let circle : (a + b) * (s + s) ≡ 128 = omega (arith, twice, e) in
    let regroup : (a + b) * (s + s) * m ≡ (a + b) * ((s + s) * m) = mul_assoc (a + b) (s + s) m in
    sym both ∙ (sym regroup ∙ ap (λ z. z * m) circle)

odd_steps : (a b s m : ℕ) → (a + b) * s ≡ 64 → a * (s + (s + s) * m) + b * (s + (s + s) * m) ≡ 64 + 128 * m
odd_steps a b s m e =
    omega (arith, e, even_steps a b s m e, add-mul a b s, mul-add a s ((s + s) * m), mul-add b s ((s + s) * m))

-- column p of subband i
abbrev at_column : (ℕ → ℤ) → ℕ → ℕ → ℤ
at_column u i p = cosine64 (pos (2 * i + 1) *ℤ pos p) *ℤ u p

even_place : (s m : ℕ) → 0 + s * (m + m) ≡ 0 + (s + s) * m
even_place s m = omega (arith, mul-add s m m, add-mul s s m)

odd_place : (s m : ℕ) → 0 + s * suc (m + m) ≡ s + (s + s) * m
odd_place s m = omega (arith, mul-suc s (m + m), mul-add s m m, add-mul s s m)

-- a subband of 2 n columns
pub part_sum-halves : (s n : ℕ) (u : ℕ → ℤ) (i : ℕ) → part_sum 0 s (n + n) u i ≡ part_sum 0 (s + s) n u i +ℤ part_sum s (s + s) n u i
unfolding part_sum
part_sum-halves s n u i =
    let even = sum_below-same n (λ m. at_column u i (0 + s * (m + m))) (λ m. at_column u i (0 + (s + s) * m)) (λ m lt. ap (at_column u i) (even_place s m)) in
    let odd = sum_below-same n (λ m. at_column u i (0 + s * suc (m + m))) (λ m. at_column u i (s + (s + s) * m)) (λ m lt. ap (at_column u i) (odd_place s m)) in
    sum_below-pairs n (λ j. at_column u i (0 + s * j))
    ∙ (ap (λ z. z +ℤ sum_below n (λ m. at_column u i (0 + s * suc (m + m)))) even ∙ ap (λ z. sum_below n (λ m. at_column u i (0 + (s + s) * m)) +ℤ z) odd)

-- the two halves of opposite subbands
even_same : (s n : ℕ) (u : ℕ → ℤ) (i k : ℕ) → (2 * i + 1 + (2 * k + 1)) * s ≡ 64 → part_sum 0 (s + s) n u k ≡ part_sum 0 (s + s) n u i
unfolding part_sum
even_same s n u i k e =
    sum_below-same n (λ m. at_column u k (0 + (s + s) * m)) (λ m. at_column u i (0 + (s + s) * m)) (λ m lt.
    let place : 0 + (s + s) * m ≡ (s + s) * m = omega arith in
    ap (λ z. z *ℤ u (0 + (s + s) * m)) (whole_circles m ((2 * i + 1) * (0 + (s + s) * m)) ((2 * k + 1) * (0 + (s + s) * m)) (rw place (even_steps (2 * i + 1) (2 * k + 1) s m e))))

odd_turned : (s n : ℕ) (u : ℕ → ℤ) (i k : ℕ) → (2 * i + 1 + (2 * k + 1)) * s ≡ 64 → part_sum s (s + s) n u k ≡ neg_ℤ (part_sum s (s + s) n u i)
unfolding part_sum
odd_turned s n u i k e =
    sum_below-same n (λ m. at_column u k (s + (s + s) * m)) (λ m. neg_ℤ (at_column u i (s + (s + s) * m))) (λ m lt.
    ap (λ z. z *ℤ u (s + (s + s) * m)) (half_more m ((2 * i + 1) * (s + (s + s) * m)) ((2 * k + 1) * (s + (s + s) * m)) (odd_steps (2 * i + 1) (2 * k + 1) s m e))
    ∙ neg_times (cosine64 (pos (2 * i + 1) *ℤ pos (s + (s + s) * m))) (u (s + (s + s) * m)))
    ∙ sum_below-neg n (λ m. at_column u i (s + (s + s) * m))

-- subband k opposite to subband i
pub part_sum-opposite : (s n : ℕ) (u : ℕ → ℤ) (i k : ℕ) → (2 * i + 1 + (2 * k + 1)) * s ≡ 64 → part_sum 0 s (n + n) u k ≡ part_sum 0 (s + s) n u i -ℤ part_sum s (s + s) n u i
part_sum-opposite s n u i k e = omega (arith, ints, part_sum-halves s n u k, even_same s n u i k e, odd_turned s n u i k e)

-- all 32 columns
pub folded_columns_sum-part : (u : ℕ → ℤ) (i : ℕ) → folded_columns_sum u i ≡ part_sum 0 1 32 u i
unfolding folded_columns_sum part_sum
folded_columns_sum-part u i = sum_below-same 32 (λ j. at_column u i j) (λ j. at_column u i (0 + 1 * j)) (λ j lt. ap (at_column u i) (omega arith))

-- the even columns of subbands i and 15 - i, in halves
pub even_low : (u : ℕ → ℤ) (i : ℕ) → part_sum 0 2 16 u i ≡ part_sum 0 4 8 u i +ℤ part_sum 2 4 8 u i
even_low u i = part_sum-halves 2 8 u i

pub even_high : (u : ℕ → ℤ) (i : ℕ) → i < 8 → part_sum 0 2 16 u (15 - i) ≡ part_sum 0 4 8 u i -ℤ part_sum 2 4 8 u i
even_high u i lt = part_sum-opposite 2 8 u i (15 - i) (omega arith)

-- all columns of subbands i and 31 - i, in halves
pub whole_low : (u : ℕ → ℤ) (i : ℕ) → folded_columns_sum u i ≡ part_sum 0 2 16 u i +ℤ part_sum 1 2 16 u i
whole_low u i = folded_columns_sum-part u i ∙ part_sum-halves 1 16 u i

pub whole_high : (u : ℕ → ℤ) (i : ℕ) → i < 16 → folded_columns_sum u (31 - i) ≡ part_sum 0 2 16 u i -ℤ part_sum 1 2 16 u i
whole_high u i lt = folded_columns_sum-part u (31 - i) ∙ part_sum-opposite 1 16 u i (31 - i) (omega arith)

-- the even columns of subband i, and how great they may be
abbrev pub IsEvenSum : (ℕ → ℤ) → ℕ → ℤ → Type 0
IsEvenSum u i z = (z ≡ part_sum 0 2 16 u i) × (unsigned_abs z ≤ 2 ^ 55)

-- every fourth column of subbands i and 7 - i, in halves
pub fourth_low : (u : ℕ → ℤ) (i : ℕ) → part_sum 0 4 8 u i ≡ part_sum 0 8 4 u i +ℤ part_sum 4 8 4 u i
fourth_low u i = part_sum-halves 4 4 u i

pub fourth_high : (u : ℕ → ℤ) (i : ℕ) → i < 4 → part_sum 0 4 8 u (7 - i) ≡ part_sum 0 8 4 u i -ℤ part_sum 4 8 4 u i
fourth_high u i lt = part_sum-opposite 4 4 u i (7 - i) (omega arith)

-- every fourth column of subband i, and how great they may be
abbrev pub IsFourthSum : (ℕ → ℤ) → ℕ → ℤ → Type 0
IsFourthSum u i z = (z ≡ part_sum 0 4 8 u i) × (unsigned_abs z ≤ 2 ^ 54)
