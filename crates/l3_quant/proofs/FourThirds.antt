-- The power 4/3, its table, and what a quantised value stands for.
use Rattle.std.proofs.Common.{◌≡◌, ℕ, zero, suc, ◌+◌, ◌*◌, ◌/◌, ◌%◌, ◌^◌, ◌<◌, ◌≤◌, Bool, true, List, [], ◌∷◌, length, get_or, leb, ltb, ◌&&◌, arith, inl, inr, subst, refl, ap, ◌∙◌, ℤ}
use Rattle.std.proofs.Math.Nat.{div-lt_iff_lt-mul, mod-eq_of_lt, mul-le-mul, pow-le-pow_left, pow-le-pow_right, pow-suc, pow-zero}
use Rattle.std.proofs.lemmas.Bool.{and_parts, cases_lt, leb-true, le-leb, ltb-true}
use Rattle.std.proofs.lemmas.Nat.{pow_pos}
use Rattle.l3_base.proofs.ChoosingLemmas.{greatest_passing-greatest}
use Rattle.l3_quant.specs.declared.four_thirds_table.TheConstants.{POWERS}
use Rattle.l3_base.specs.Steps.{quarter_at}
use Rattle.l3_quant.specs.Quantiser.{steps_of}
use Rattle.l3_quant.specs.Reconstruction.{FourThirdsIsGreatest, four_thirds_of, reconstructed}
use Rattle.l3_quant.proofs.Powers.{cube_is, fourth_is}
use Rattle.l3_quant.proofs.Scales.{factor}

too_great : (s v : ℕ) → s * 4096 + 1 ≤ v → v * v * v ≤ s * s * 2 ^ 36 → ⊥
too_great s v above within =
    elim (cases_lt 0 s) [
      | inl some ↦
          (let base : s * 4096 ≤ v = omega arith in
          let square : s * 4096 * (s * 4096) ≤ v * v = mul-le-mul base base in
          let least : 4097 ≤ v = omega arith in
          let cube : s * 4096 * (s * 4096) * 4097 ≤ v * v * v = mul-le-mul square least in
          let positive : 1 * 1 ≤ s * s = mul-le-mul some some in
          let same : s * 4096 * (s * 4096) ≡ s * s * 2 ^ 24 = omega arith in
          omega (arith, cube, positive, same, within))
      | inr none ↦
          (let zero : s ≡ 0 = omega arith in
          let nothing : v * v * v ≤ 0 * 0 * 2 ^ 36 = rw zero at within in
          let least : 1 ≤ v = omega arith in
          let square : 1 * 1 ≤ v * v = mul-le-mul least least in
          let cube : 1 * 1 * 1 ≤ v * v * v = mul-le-mul square least in
          omega (arith, cube, nothing))
    ]

square_is : (n : ℕ) → n ^ 2 ≡ n * n
square_is n = pow-suc n 1 ∙ ap (λ z. z * n) (pow-suc n 0 ∙ (ap (λ z. z * n) (pow-zero n) ∙ omega arith))

-- what is within the bound is within the numbers that are tested
power-small : (n v : ℕ) → v ^ 3 ≤ n ^ 4 * 2 ^ 36 → v < n ^ 2 * 2 ^ 12 + 1
power-small n v within =
    elim (cases_lt v (n ^ 2 * 2 ^ 12 + 1)) [
      | inl lt ↦ lt
      | inr le ↦
          absurd (too_great (n * n) v (omega (arith, square_is n, le)) (omega (arith, cube_is v, fourth_is n, within)))
    ]

pub four_thirds_of-greatest : FourThirdsIsGreatest
unfolding four_thirds_of
four_thirds_of-greatest n =
    let is = greatest_passing-greatest (n ^ 2 * 2 ^ 12 + 1) (λ v. leb (v ^ 3) (n ^ 4 * 2 ^ 36)) in
    let zero = is.greatest 0 (omega arith) (le-leb (0 ^ 3) (n ^ 4 * 2 ^ 36) (omega arith)) in
    record {
      within = leb-true _ _ zero.2;
      greatest = λ v within. (is.greatest v (power-small n v within) (le-leb (v ^ 3) (n ^ 4 * 2 ^ 36) within)).0;
    }

-- v is within the bound and v + 1 is not
pub four_thirds_of-is : (n v : ℕ) → v ^ 3 ≤ n ^ 4 * 2 ^ 36 → n ^ 4 * 2 ^ 36 < (v + 1) ^ 3 →
    v ≡ four_thirds_of n
four_thirds_of-is n v within above =
    let own = four_thirds_of-greatest n in
    let low : v ≤ four_thirds_of n = own.greatest v within in
    elim (cases_lt v (four_thirds_of n)) [
      | inl lt ↦
          (let next : v + 1 ≤ four_thirds_of n = omega arith in
          let cube : (v + 1) ^ 3 ≤ four_thirds_of n ^ 3 = pow-le-pow_left next 3 in
          absurd (omega (arith, above, cube, own.within)))
      | inr le ↦ omega (arith, low)
    ]

-- the test of each entry, from place n on
abbrev power_test : ℕ → ℕ → Bool
power_test n v =
    leb (v ^ 3) (n ^ 4 * 2 ^ 36) && (ltb (n ^ 4 * 2 ^ 36) ((v + 1) ^ 3) && ltb v (2 ^ 30))

abbrev powers_from : ℕ → List ℕ → Bool
powers_from n [] = true
powers_from n (v ∷ vs) = power_test n v && powers_from (n + 1) vs

tested : (n v : ℕ) → power_test n v ≡ true → (v ≡ four_thirds_of n) × (v < 2 ^ 30)
tested n v h =
    let parts = and_parts (leb (v ^ 3) (n ^ 4 * 2 ^ 36)) (ltb (n ^ 4 * 2 ^ 36) ((v + 1) ^ 3) && ltb v (2 ^ 30)) h in
    let both = and_parts (ltb (n ^ 4 * 2 ^ 36) ((v + 1) ^ 3)) (ltb v (2 ^ 30)) parts.1 in
    (four_thirds_of-is n v (leb-true _ _ parts.0) (ltb-true _ _ both.0), ltb-true _ _ both.1)

powers_at : (n i : ℕ) (vs : List ℕ) → powers_from n vs ≡ true → i < length vs →
    (get_or vs i 0 ≡ four_thirds_of (n + i)) × (get_or vs i 0 < 2 ^ 30)
powers_at n i [] h lt = absurd (omega arith)
powers_at n zero (v ∷ vs) h lt =
    let P : ℕ → Type 0 = λ m. (v ≡ four_thirds_of m) × (v < 2 ^ 30) in
    let same : n ≡ n + 0 = omega arith in
    subst P same (tested n v (and_parts (power_test n v) (powers_from (n + 1) vs) h).0)
powers_at n (suc i) (v ∷ vs) h lt =
    let P : ℕ → Type 0 = λ m. (get_or vs i 0 ≡ four_thirds_of m) × (get_or vs i 0 < 2 ^ 30) in
    let same : n + 1 + i ≡ n + suc i = omega arith in
    subst P same (powers_at (n + 1) i vs (and_parts (power_test n v) (powers_from (n + 1) vs) h).1 (omega arith))

powers_all : (i : ℕ) (vs : List ℕ) → powers_from 0 vs ≡ true → i < length vs →
    (get_or vs i 0 ≡ four_thirds_of i) × (get_or vs i 0 < 2 ^ 30)
powers_all i vs h lt =
    let P : ℕ → Type 0 = λ m. (get_or vs i 0 ≡ four_thirds_of m) × (get_or vs i 0 < 2 ^ 30) in
    let same : 0 + i ≡ i = omega arith in
    subst P same (powers_at 0 i vs h lt)

-- each entry of the table is its place's power
pub power_is : (n : ℕ) → n < 8207 →
    (get_or POWERS n 0 ≡ four_thirds_of n) × (get_or POWERS n 0 < 2 ^ 30)
power_is n lt = powers_all n POWERS refl lt

-- ---- what a value stands for

factors : (r : ℕ) → r < 4 → (2 ^ 30 ≤ factor r) × (factor r < 2 ^ 31)
unfolding quarter_at
factors zero lt = (omega arith, omega arith)
factors (suc zero) lt = (omega arith, omega arith)
factors (suc (suc zero)) lt = (omega arith, omega arith)
factors (suc (suc (suc zero))) lt = (omega arith, omega arith)
factors (suc (suc (suc (suc r)))) lt = absurd (omega arith)

-- the divisor is at least 2^30 and has at most 111 bits
divisor : (f h : ℕ) → f ≡ factor (h % 4) → h ≤ 322 →
    (2 ^ 30 ≤ f * 2 ^ (h / 4)) × (f * 2 ^ (h / 4) < 2 ^ 128)
divisor f h is le =
    let range = factors (h % 4) (omega arith) in
    let low : 2 ^ 30 ≤ f = omega (arith, range.0, is) in
    let high : f ≤ 2 ^ 31 = omega (arith, range.1, is) in
    let some : 1 ≤ 2 ^ (h / 4) = pow_pos (h / 4) in
    let few : 2 ^ (h / 4) ≤ 2 ^ 80 = pow-le-pow_right {n = 2} (omega arith) {i = h / 4} {j = 80} (omega arith) in
    let least : 2 ^ 30 * 1 ≤ f * 2 ^ (h / 4) = mul-le-mul low some in
    let most : f * 2 ^ (h / 4) ≤ 2 ^ 31 * 2 ^ 80 = mul-le-mul high few in
    (omega (arith, least), omega (arith, most))

quotient-small : (p d : ℕ) → p < 2 ^ 30 → 2 ^ 30 ≤ d → p * 2 ^ 54 / d < 2 ^ 54
quotient-small p d small le =
    let below : p * 2 ^ 54 < 2 ^ 54 * d = omega arith in
    (div-lt_iff_lt-mul {k = d} {x = p * 2 ^ 54} {y = 2 ^ 54} (omega arith)).1 below

-- the division of the code
pub record IsReconstructed (n p f h : ℕ) (gain : ℤ) : Type 0 where
  pub divides : 0 < f * 2 ^ (h / 4) % 2 ^ 128
  pub small : p * 2 ^ 54 % 2 ^ 128 / (f * 2 ^ (h / 4) % 2 ^ 128) < 2 ^ 54
  pub value : p * 2 ^ 54 % 2 ^ 128 / (f * 2 ^ (h / 4) % 2 ^ 128) ≡ reconstructed n gain

pub reconstructed_is : (n p f h : ℕ) (gain : ℤ) → p ≡ four_thirds_of n → p < 2 ^ 30 →
    f ≡ factor (h % 4) →
    h ≡ steps_of gain → h ≤ 322 → IsReconstructed n p f h gain
unfolding reconstructed
reconstructed_is n p f h gain power small is steps le =
    let d = f * 2 ^ (h / 4) in
    let range = divisor f h is le in
    let whole : d % 2 ^ 128 ≡ d = mod-eq_of_lt range.1 in
    let product : p * 2 ^ 54 % 2 ^ 128 ≡ p * 2 ^ 54 = mod-eq_of_lt (omega arith) in
    let same : p * 2 ^ 54 % 2 ^ 128 / (d % 2 ^ 128) ≡ p * 2 ^ 54 / d = ap (λ a. a / (d % 2 ^ 128)) product ∙ ap (λ b. p * 2 ^ 54 / b) whole in
    record {
      divides = omega (arith, whole, range.0);
      small = omega (arith, same, quotient-small p d small range.0);
      value = same ∙ (ap (λ a. a * 2 ^ 54 / d) power
          ∙ (ap (λ b. four_thirds_of n * 2 ^ 54 / (b * 2 ^ (h / 4))) is
          ∙ ap (λ k. four_thirds_of n * 2 ^ 54 / (factor (k % 4) * 2 ^ (k / 4))) steps));
    }
