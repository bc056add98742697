-- Third and fourth powers, and the numbers that they let pass.
use Rattle.std.proofs.Common.{◌≡◌, ℕ, ◌-◌, ◌*◌, ◌^◌, ◌<◌, ◌≤◌, arith, ap, ◌∙◌, inl, inr}
use Rattle.std.proofs.lemmas.Bool.{cases_lt}
use Rattle.std.proofs.Math.Nat.{pow-suc, pow-zero, pow-le-pow_left, pow-le-pow_right}

-- n is small enough for y; 0 always is, since 32 * 0 - 13 is 0
abbrev pub Passes : ℕ → ℕ → Type 0
Passes y n = (32 * n - 13) ^ 4 * 2 ^ 16 ≤ y ^ 3

pub cube_is : (n : ℕ) → n ^ 3 ≡ n * n * n
cube_is n = pow-suc n 2 ∙ (ap (λ z. z * n) (pow-suc n 1 ∙ ap (λ z. z * n) (pow-suc n 0 ∙ (ap (λ z. z * n) (pow-zero n) ∙ omega arith))))

pub fourth_is : (n : ℕ) → n ^ 4 ≡ n * n * (n * n)
fourth_is n = pow-suc n 3 ∙ (ap (λ z. z * n) (cube_is n) ∙ omega arith)

-- a number below one that passes does too
pub passes_below : (y m n : ℕ) → m ≤ n → Passes y n → Passes y m
passes_below y m n le h =
    let base : 32 * m - 13 ≤ 32 * n - 13 = omega arith in
    let power : (32 * m - 13) ^ 4 ≤ (32 * n - 13) ^ 4 = pow-le-pow_left base 4 in
    omega (arith, power, h)

-- what passes for y does for all above it
pub passes_above : (y z n : ℕ) → y ≤ z → Passes y n → Passes z n
passes_above y z n le h =
    let cube : y ^ 3 ≤ z ^ 3 = pow-le-pow_left le 3 in
    omega (arith, cube, h)

-- what passes for y is no greater than y
pub passes_small : (y n : ℕ) → Passes y n → n ≤ y
passes_small y n h =
    elim (cases_lt y n) [
      | inl lt ↦
          (let base : n ≤ 32 * n - 13 = omega arith in
          let power : n ^ 4 ≤ (32 * n - 13) ^ 4 = pow-le-pow_left base 4 in
          let under : y ≤ n = omega arith in
          let cube : y ^ 3 ≤ n ^ 3 = pow-le-pow_left under 3 in
          let some : 0 < n = omega arith in
          let grows : n ^ 3 ≤ n ^ 4 = pow-le-pow_right some (let le : 3 ≤ 4 = omega arith in le) in
          let least : 1 ≤ n = omega arith in
          let positive : 1 ^ 4 ≤ n ^ 4 = pow-le-pow_left least 4 in
          absurd (omega (arith, power, cube, grows, positive, h)))
      | inr le ↦ le
    ]

-- a great y passes for 8192
pub great_passes : (y : ℕ) → 2 ^ 30 ≤ y → Passes y 8192
great_passes y h =
    let cube : (2 ^ 30) ^ 3 ≤ y ^ 3 = pow-le-pow_left h 3 in
    omega (arith, cube)

-- a small y passes for 0 alone
pub small_passes : (y n : ℕ) → y ≤ 1024 → Passes y n → n ≡ 0
small_passes y n le h =
    elim (cases_lt 0 n) [
      | inl lt ↦
          (let base : 19 ≤ 32 * n - 13 = omega arith in
          let power : 19 ^ 4 ≤ (32 * n - 13) ^ 4 = pow-le-pow_left base 4 in
          let cube : y ^ 3 ≤ 1024 ^ 3 = pow-le-pow_left le 3 in
          absurd (omega (arith, power, cube, h)))
      | inr none ↦ omega arith
    ]
