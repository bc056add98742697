-- Quarter steps and shifts.
use Rattle.std.proofs.Common.{◌≡◌, ℕ, zero, suc, ◌+◌, ◌-◌, ◌*◌, ◌/◌, ◌%◌, ◌^◌, ◌<◌, ◌≤◌, min, true, ltb, arith, refl, sym, ap, ◌∙◌, inl, inr, subst, add-one}
use Rattle.std.proofs.Math.Nat.{div-div-eq-div-mul, pow-succ', mul-le-mul_left, mul-le-mul_right, mul-le-mul, pow-le-pow_right, mod-eq_of_lt, mul-div_cancel, min-eq_left, min-eq_right}
use Rattle.std.proofs.Math.Pow.{shr_mono}
use Rattle.std.proofs.lemmas.Nat.{pow-add, shl-shr}
use Rattle.std.proofs.lemmas.Bool.{agree_below_at, ltb-true, cases_lt}
use Rattle.std.specs.Prelude.{unsigned_abs}
use Rattle.l3_base.specs.Steps.{quarter_at}
use Rattle.l3_quant.specs.Quantiser.{scaled}

-- what r quarter steps multiply by
abbrev pub factor : ℕ → ℕ
factor r = unsigned_abs (quarter_at r)

-- a shift right by what is left of 54
pub shift_right : (p e : ℕ) → e ≤ 54 → p / 2 ^ (54 - e) ≡ p * 2 ^ e / 2 ^ 54
shift_right p e le =
    let whole : 2 ^ 54 ≡ 2 ^ e * 2 ^ (54 - e) = ap (λ k. 2 ^ k) (let s : 54 ≡ e + (54 - e) = omega arith in s) ∙ pow-add 2 e (54 - e) in
    ap (λ z. z / 2 ^ (54 - e)) (sym (shl-shr p e)) ∙ (div-div-eq-div-mul (p * 2 ^ e) (2 ^ e) (2 ^ (54 - e)) ∙ ap (λ z. p * 2 ^ e / z) (sym whole))

-- a shift left by what is over 54
pub shift_left : (p e : ℕ) → 54 ≤ e → p * 2 ^ (e - 54) ≡ p * 2 ^ e / 2 ^ 54
shift_left p e le =
    let whole : 2 ^ e ≡ 2 ^ (e - 54) * 2 ^ 54 = ap (λ k. 2 ^ k) (let s : e ≡ (e - 54) + 54 = omega arith in s) ∙ pow-add 2 (e - 54) 54 in
    let group : p * (2 ^ (e - 54) * 2 ^ 54) ≡ p * 2 ^ (e - 54) * 2 ^ 54 = omega arith in
    sym (ap (λ z. p * z / 2 ^ 54) whole ∙ (ap (λ z. z / 2 ^ 54) group ∙ mul-div_cancel (p * 2 ^ (e - 54)) {n = 2 ^ 54} (omega arith)))

-- a product that is cut before a shift left and after it, and stays within 64 bits
pub cut_shift_left : (p s : ℕ) → s ≤ 26 → min (min p (2 ^ 30) * 2 ^ s % 2 ^ 64) (2 ^ 30) ≡ min (p * 2 ^ s) (2 ^ 30)
cut_shift_left p s most =
    let power : 2 ^ s ≤ 2 ^ 26 = pow-le-pow_right {n = 2} (omega arith) {i = s} {j = 26} most in
    let one : 2 ^ 0 ≤ 2 ^ s = pow-le-pow_right {n = 2} (omega arith) {i = 0} {j = s} (omega arith) in
    elim (cases_lt (2 ^ 30) p) [
      | inl lt ↦
          (let le : 2 ^ 30 ≤ p = omega arith in
          let cut : min p (2 ^ 30) ≡ 2 ^ 30 = min-eq_right le in
          let fits : 2 ^ 30 * 2 ^ s < 2 ^ 64 = omega (arith, power) in
          let low : 2 ^ 30 ≤ 2 ^ 30 * 2 ^ s = omega (arith, one) in
          let same : p ≡ p * 1 = omega arith in
          let grown : p * 1 ≤ p * 2 ^ s = mul-le-mul_left p one in
          let high : 2 ^ 30 ≤ p * 2 ^ s = omega (arith, grown) in
          ap (λ z. min (z * 2 ^ s % 2 ^ 64) (2 ^ 30)) cut ∙ (ap (λ z. min z (2 ^ 30)) (mod-eq_of_lt fits) ∙ (min-eq_right low ∙ sym (min-eq_right high))))
      | inr le ↦
          (let bound : p * 2 ^ s ≤ 2 ^ 30 * 2 ^ 26 = mul-le-mul le power in
          let fits : p * 2 ^ s < 2 ^ 64 = omega (arith, bound) in
          ap (λ z. min (z * 2 ^ s % 2 ^ 64) (2 ^ 30)) (min-eq_left le) ∙ ap (λ z. min z (2 ^ 30)) (mod-eq_of_lt fits))
    ]

-- a product of a line and a factor, shifted either way
pub scaled_right : (x h p : ℕ) → h / 4 ≤ 54 → p ≡ x * factor (h % 4) → p / 2 ^ (54 - h / 4) ≡ scaled x h
unfolding scaled
scaled_right x h p le e = shift_right p (h / 4) le ∙ ap (λ z. z * 2 ^ (h / 4) / 2 ^ 54) e

pub scaled_left : (x h p : ℕ) → 54 ≤ h / 4 → h ≤ 322 → p ≡ x * factor (h % 4) →
    min (min p (2 ^ 30) * 2 ^ (h / 4 - 54) % 2 ^ 64) (2 ^ 30) ≡ min (scaled x h) (2 ^ 30)
unfolding scaled
scaled_left x h p le most e =
    cut_shift_left p (h / 4 - 54) (omega arith) ∙ ap (λ z. min z (2 ^ 30)) (shift_left p (h / 4) le ∙ ap (λ z. z * 2 ^ (h / 4) / 2 ^ 54) e)

quarter_step : (r : ℕ) → r < 3 → factor r < factor (r + 1)
unfolding quarter_at
quarter_step r lt = ltb-true _ _ (agree_below_at (λ k. ltb (factor k) (factor (k + 1))) (λ _. true) 3 r refl lt)

quarter_turn : factor 3 ≤ 2 * factor 0
unfolding quarter_at
quarter_turn = omega arith

-- a greater line is scaled to no less
pub scaled-rises : (x z h : ℕ) → x ≤ z → scaled x h ≤ scaled z h
unfolding scaled
scaled-rises x z h le =
    let product : x * factor (h % 4) ≤ z * factor (h % 4) = mul-le-mul_right (factor (h % 4)) le in
    let shifted : x * factor (h % 4) * 2 ^ (h / 4) ≤ z * factor (h % 4) * 2 ^ (h / 4) = mul-le-mul_right (2 ^ (h / 4)) product in
    shr_mono 54 shifted

-- one quarter step more never makes a line smaller
scaled-step : (x h : ℕ) → scaled x h ≤ scaled x (h + 1)
unfolding scaled
scaled-step x h =
    elim (cases_lt (h % 4) 3) [
      | inl lt ↦
          (let r : (h + 1) % 4 ≡ h % 4 + 1 = omega arith in
          let e : (h + 1) / 4 ≡ h / 4 = omega arith in
          let step : factor (h % 4) ≤ factor ((h + 1) % 4) = rw r (omega (arith, quarter_step (h % 4) lt)) in
          let product : x * factor (h % 4) ≤ x * factor ((h + 1) % 4) = mul-le-mul_left x step in
          let shifted : x * factor (h % 4) * 2 ^ (h / 4) ≤ x * factor ((h + 1) % 4) * 2 ^ ((h + 1) / 4) = rw e (mul-le-mul_right (2 ^ (h / 4)) product) in
          shr_mono 54 shifted)
      | inr ge ↦
          (let r : h % 4 ≡ 3 = omega arith in
          let r' : (h + 1) % 4 ≡ 0 = omega arith in
          let e : (h + 1) / 4 ≡ h / 4 + 1 = omega arith in
          let power : 2 ^ ((h + 1) / 4) ≡ 2 * 2 ^ (h / 4) = ap (λ n. 2 ^ n) e ∙ (ap (λ n. 2 ^ n) (add-one (h / 4)) ∙ pow-succ' 2 (h / 4)) in
          let step : factor (h % 4) ≤ 2 * factor ((h + 1) % 4) = rw (r, r') quarter_turn in
          let product : x * factor (h % 4) ≤ x * (2 * factor ((h + 1) % 4)) = mul-le-mul_left x step in
          let shifted : x * factor (h % 4) * 2 ^ (h / 4) ≤ x * (2 * factor ((h + 1) % 4)) * 2 ^ (h / 4) = mul-le-mul_right (2 ^ (h / 4)) product in
          let same : x * (2 * factor ((h + 1) % 4)) * 2 ^ (h / 4) ≡ x * factor ((h + 1) % 4) * 2 ^ ((h + 1) / 4) = rw power (omega arith) in
          shr_mono 54 (let P : ℕ → Type 0 = λ n. x * factor (h % 4) * 2 ^ (h / 4) ≤ n in subst P same shifted))
    ]

-- more quarter steps never make a line smaller
pub scaled-steps : (x h n : ℕ) → scaled x h ≤ scaled x (h + n)
scaled-steps x h zero = let P : ℕ → Type 0 = λ k. scaled x h ≤ scaled x k in subst P (let e : h ≡ h + 0 = omega arith in e) (omega arith)
scaled-steps x h (suc n) =
    let before : scaled x h ≤ scaled x (h + n) = scaled-steps x h n in
    let step : scaled x (h + n) ≤ scaled x (h + n + 1) = scaled-step x (h + n) in
    let P : ℕ → Type 0 = λ k. scaled x h ≤ scaled x k in
    subst P (let e : h + n + 1 ≡ h + suc n = omega arith in e) (let both : scaled x h ≤ scaled x (h + n + 1) = omega arith in both)

-- 0 is scaled to 0
pub scaled-zero : (h : ℕ) → scaled 0 h ≤ 1024
unfolding scaled
scaled-zero h =
    let none : 0 * factor (h % 4) * 2 ^ (h / 4) ≡ 0 = ap (λ z. z * 2 ^ (h / 4)) (let z : 0 * factor (h % 4) ≡ 0 = omega arith in z) ∙ omega arith in
    rw none (omega arith)

-- at the highest gains a line is scaled to hardly anything
scaled-nine : (x : ℕ) → x < 2 ^ 29 → scaled x 9 ≤ 1024
unfolding scaled quarter_at
scaled-nine x lt = omega arith

pub scaled-top : (x h : ℕ) → x < 2 ^ 29 → h ≤ 9 → scaled x h ≤ 1024
scaled-top x h lt le =
    let P : ℕ → Type 0 = λ k. scaled x h ≤ scaled x k in
    let same : h + (9 - h) ≡ 9 = omega arith in
    let most : scaled x h ≤ scaled x 9 = subst P same (scaled-steps x h (9 - h)) in
    omega (arith, most, scaled-nine x lt)
