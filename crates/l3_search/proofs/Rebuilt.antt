-- What a value stands for, by a product and a quotient of 64 bits, and the noise of a line.
use Rattle.std.proofs.Common.{◌≡◌, ℕ, ◌+◌, ◌-◌, ◌*◌, ◌/◌, ◌%◌, ◌^◌, ◌<◌, ◌≤◌, arith, refl, sym, ap, ◌∙◌, inl, inr, ℤ, pos}
use Rattle.std.proofs.Math.Nat.{div-eq_of_lt, div-lt_iff_lt-mul, mul-div-mul_right, mul-div_cancel, mul-le-mul, mul_assoc, pow-le-pow_right, pow-succ', pow-zero}
use Rattle.std.proofs.lemmas.Bool.{cases_lt}
use Rattle.std.proofs.lemmas.Int.{ints}
use Rattle.std.proofs.lemmas.Nat.{pow-add, pow_pos}
use Rattle.std.specs.Prelude.{unsigned_abs, ◌-ℤ◌}
use Rattle.l3_base.specs.Steps.{quarter_at}
use Rattle.l3_base.proofs.Entries.{not_above_at}
use Rattle.l3_quant.specs.Quantiser.{quantised, steps_of}
use Rattle.l3_quant.specs.Reconstruction.{four_thirds_of, reconstructed}
use Rattle.l3_quant.proofs.FourThirds.{power_is}
use Rattle.l3_search.specs.Noise.{noise_of_line, noise_of_value}

-- what r quarter steps divide by
abbrev factor : ℕ → ℕ
factor r = unsigned_abs (quarter_at r)

pub factor-least : (r : ℕ) → r < 4 → 2 ^ 30 ≤ unsigned_abs (quarter_at r)
unfolding quarter_at
factor-least r lt = not_above_at (λ _. 2 ^ 30) (λ k. unsigned_abs (quarter_at k)) 4 r refl lt

-- at gain 162 a value stands for its power
pub reconstructed-power : (n : ℕ) → reconstructed n (pos 162) ≡ four_thirds_of n
unfolding reconstructed quarter_at
reconstructed-power n = mul-div_cancel (four_thirds_of n) {n = 2 ^ 54} (omega arith)

pub four_thirds-small : (n : ℕ) → n ≤ 8206 → four_thirds_of n < 2 ^ 30
four_thirds-small n le = let is = power_is n (omega arith) in omega (arith, is.0, is.1)

-- the doublings of the divisor taken from those of the power
few : (p e q : ℕ) → e ≤ 54 → p * 2 ^ (54 - e) / q ≡ p * 2 ^ 54 / (q * 2 ^ e)
few p e q le =
    let whole : 2 ^ 54 ≡ 2 ^ (54 - e) * 2 ^ e = ap (λ k. 2 ^ k) (let s : 54 ≡ 54 - e + e = omega arith in s) ∙ pow-add 2 (54 - e) e in
    let group : p * 2 ^ 54 ≡ p * 2 ^ (54 - e) * 2 ^ e = ap (λ z. p * z) whole ∙ sym (mul_assoc p (2 ^ (54 - e)) (2 ^ e)) in
    sym (ap (λ z. z / (q * 2 ^ e)) group ∙ mul-div-mul_right (p * 2 ^ (54 - e)) q (pow_pos e))

many : (p e q : ℕ) → p < 2 ^ 30 → 2 ^ 30 ≤ q → 54 ≤ e → p * 2 ^ (54 - e) / q ≡ p * 2 ^ 54 / (q * 2 ^ e)
many p e q small le more =
    let none : 54 - e ≡ 0 = omega arith in
    let one : p * 2 ^ (54 - e) ≡ p = ap (λ k. p * 2 ^ k) none ∙ (let s : p * 2 ^ 0 ≡ p = omega arith in s) in
    let left : p / q ≡ 0 = div-eq_of_lt {n = p} {m = q} (omega arith) in
    let grows : 2 ^ 54 ≤ 2 ^ e = pow-le-pow_right {n = 2} (omega arith) {i = 54} {j = e} more in
    let most : 2 ^ 30 * 2 ^ 54 ≤ q * 2 ^ e = mul-le-mul le grows in
    let right : p * 2 ^ 54 / (q * 2 ^ e) ≡ 0 = div-eq_of_lt {n = p * 2 ^ 54} {m = q * 2 ^ e} (omega (arith, most)) in
    ap (λ z. z / q) one ∙ (left ∙ sym right)

pub quotient : (p e q : ℕ) → p < 2 ^ 30 → 2 ^ 30 ≤ q → p * 2 ^ (54 - e) / q ≡ p * 2 ^ 54 / (q * 2 ^ e)
quotient p e q small le =
    elim (cases_lt 54 e) [
      | inl lt ↦ many p e q small le (omega arith)
      | inr low ↦ few p e q low
    ]

quotient-small : (p e q : ℕ) → p < 2 ^ 30 → 2 ^ 30 ≤ q → p * 2 ^ 54 / (q * 2 ^ e) < 2 ^ 54
quotient-small p e q small le =
    let most : 2 ^ 30 * 1 ≤ q * 2 ^ e = mul-le-mul le (pow_pos e) in
    let d = q * 2 ^ e in
    let below : p * 2 ^ 54 < 2 ^ 54 * d = omega (arith, most) in
    (div-lt_iff_lt-mul {k = d} {x = p * 2 ^ 54} {y = 2 ^ 54} (omega (arith, most))).1 below

-- the quotient of the code
pub record IsRebuilt (n product q : ℕ) (gain : ℤ) : Type 0 where
  pub divides : 0 < q
  pub value : product / q ≡ reconstructed n gain
  pub small : product / q < 2 ^ 54

pub rebuilt_is : (n p doubled q product : ℕ) (gain : ℤ) → n ≤ 8206 → p ≡ four_thirds_of n →
    doubled ≡ 2 ^ (54 - steps_of gain / 4) → q ≡ unsigned_abs (quarter_at (steps_of gain % 4)) →
    product ≡ p * doubled → IsRebuilt n product q gain
unfolding reconstructed
rebuilt_is n p doubled q product gain le power twice quarter is =
    let e = steps_of gain / 4 in
    let f = unsigned_abs (quarter_at (steps_of gain % 4)) in
    let small : p < 2 ^ 30 = omega (arith, power, four_thirds-small n le) in
    let least : 2 ^ 30 ≤ f = factor-least (steps_of gain % 4) (omega arith) in
    let same : product / q ≡ p * 2 ^ 54 / (f * 2 ^ e) =
    ap (λ z. z / q) is ∙ (ap (λ z. p * z / q) twice ∙ (ap (λ z. p * 2 ^ (54 - e) / z) quarter ∙ quotient p e f small least)) in
    record {
      divides = omega (arith, quarter, least);
      value = same ∙ ap (λ z. z * 2 ^ 54 / (f * 2 ^ e)) power;
      small = omega (arith, same, quotient-small p e f small least);
    }

-- ---- noise

apart : (a b : ℕ) → a - b + (b - a) ≡ unsigned_abs (pos a -ℤ pos b)
apart a b = omega (arith, ints)

square : (a : ℕ) → a * a ≡ a ^ 2
square a =
    let none : a * a ^ 0 ≡ a * 1 = ap (λ z. a * z) (pow-zero a) in
    let one : a * 1 ≡ a = omega arith in
    sym (pow-succ' a 1 ∙ ap (λ z. a * z) (pow-succ' a 0 ∙ (none ∙ one)))

-- the square that the code makes
pub noise_is : (gain x : ℤ) (n line rebuilt error : ℕ) → line ≡ unsigned_abs x → rebuilt ≡ reconstructed n gain →
    error ≡ line - rebuilt + (rebuilt - line) → error / 256 * (error / 256) ≡ noise_of_value gain x n
unfolding noise_of_value
noise_is gain x n line rebuilt error is stands by =
    let miss : error ≡ unsigned_abs (pos (unsigned_abs x) -ℤ pos (reconstructed n gain)) =
    by ∙ (apart line rebuilt ∙ (ap (λ a. unsigned_abs (pos a -ℤ pos rebuilt)) is ∙ ap (λ b. unsigned_abs (pos (unsigned_abs x) -ℤ pos b)) stands)) in
    square (error / 256) ∙ ap (λ a. (a / 256) ^ 2) miss

pub noise_small : (line rebuilt error : ℕ) → line < 2 ^ 29 → rebuilt < 2 ^ 54 →
    error ≡ line - rebuilt + (rebuilt - line) → error / 256 * (error / 256) < 2 ^ 92
noise_small line rebuilt error small below by =
    let most : error / 256 ≤ 2 ^ 46 - 1 = omega arith in
    let both : error / 256 * (error / 256) ≤ (2 ^ 46 - 1) * (2 ^ 46 - 1) = mul-le-mul most most in
    omega (arith, both)

-- the noise of a line, by its quantised value
pub noise_of_value-same : (g1 g2 x1 x2 q : ℤ) → g1 ≡ g2 → x1 ≡ x2 → q ≡ quantised g2 x2 →
    noise_of_value g1 x1 (unsigned_abs q) ≡ noise_of_line g2 x2
noise_of_value-same g1 g2 x1 x2 q gain line value =
    ap (λ g. noise_of_value g x1 (unsigned_abs q)) gain
    ∙ (ap (λ x. noise_of_value g2 x (unsigned_abs q)) line ∙ ap (λ k. noise_of_value g2 x2 (unsigned_abs k)) value)
