-- Binary digits.
use Rattle.std.proofs.Common.{◌≡◌, ℕ, zero, suc, ◌+◌, ◌-◌, ◌*◌, ◌^◌, ◌<◌, ◌≤◌, ltb, arith, refl, sym, subst, ◌∙◌, inl, inr}
use Rattle.std.proofs.Math.Nat.{pow-succ', pow-le-pow_right}
use Rattle.std.proofs.lemmas.Nat.{pow_pos, leading_length}
use Rattle.std.proofs.lemmas.Bool.{cases_lt, lt-ltb, le-ltb}
use Rattle.std.specs.Int.Count.{count_leading_zeros}
use Rattle.l3_base.proofs.ChoosingLemmas.{least_passing-is}
use Rattle.l3_transform.specs.Demand.{binary_digits, HasDigits}

-- a number is below its own power of 2
pub lt-power : (n : ℕ) → n < 2 ^ n
lt-power zero = pow_pos 0
lt-power (suc n) =
    let twice : 2 ^ suc n ≡ 2 * 2 ^ n = pow-succ' 2 n in
    omega (arith, twice, lt-power n, pow_pos n)

-- below the least power of 2 above n no power is above it
pub half-le : (k d n : ℕ) → k < d → 2 ^ d ≤ 2 * n + 1 → 2 ^ k ≤ n
half-le k d n lt most =
    let grows : 2 ^ suc k ≤ 2 ^ d = pow-le-pow_right {n = 2} (omega arith) {i = suc k} {j = d} (omega arith) in
    let twice : 2 ^ suc k ≡ 2 * 2 ^ k = pow-succ' 2 k in
    omega (arith, grows, twice)

digits-within : (d n : ℕ) → 2 ^ d ≤ 2 * n + 1 → d ≤ n + 1
digits-within zero n most = omega arith
digits-within (suc d) n most = omega (arith, lt-power d, half-le d (suc d) n (omega arith) most)

-- the least power of 2 above n tells its digits
pub binary_digits-is : (n d : ℕ) → n < 2 ^ d → 2 ^ d ≤ 2 * n + 1 → binary_digits n ≡ d
unfolding binary_digits
binary_digits-is n d below most =
    least_passing-is (n + 1) (λ k. ltb n (2 ^ k)) d (record {
      within = digits-within d n most;
      passing = λ _. lt-ltb n (2 ^ d) below;
      least = λ k lt. le-ltb n (2 ^ k) (half-le k d n lt most);
    })

-- a number below a power of 2 has no more digits
pub digits-le : (k d n : ℕ) → n < 2 ^ k → 2 ^ d ≤ 2 * n + 1 → d ≤ k
digits-le k d n lt most =
    elim (cases_lt k d) [
      | inl more ↦ absurd (omega (arith, half-le k d n more most))
      | inr le ↦ le
    ]

highest : (d n : ℕ) → 0 < n → n < 2 ^ d → 2 ^ d ≤ 2 * n + 1 → 2 ^ (d - 1) ≤ n
highest zero n some below most = absurd (omega arith)
highest (suc d) n some below most =
    let before : suc d - 1 ≡ d = omega arith in
    rw before (half-le d (suc d) n (omega arith) most)

nothing : (d n : ℕ) → n ≡ 0 → 2 ^ d ≤ 2 * n + 1 → d ≡ 0
nothing zero n none most = refl
nothing (suc d) n none most = absurd (omega (arith, half-le d (suc d) n (omega arith) most, pow_pos d))

pub binary_digits-has : (n : ℕ) → HasDigits n (binary_digits n)
binary_digits-has n =
    let t = leading_length n n (lt-power n) in
    let P : ℕ → Type 0 = λ d. HasDigits n d in
    subst P (sym (binary_digits-is n t.0 t.2 t.3))
    (record { below = t.2; highest = λ some. highest t.0 n some t.2 t.3; none = λ none. nothing t.0 n none t.3 })

-- what 64 bits have but for the zeros in front
pub digits_by_zeros : (n : ℕ) → n < 2 ^ 64 → 64 - count_leading_zeros 64 n ≡ binary_digits n
digits_by_zeros n fits =
    let t = leading_length 64 n fits in
    let rest : 64 - count_leading_zeros 64 n ≡ t.0 = omega (arith, t.1) in
    rest ∙ sym (binary_digits-is n t.0 t.2 t.3)

pub digits_by_zeros-le : (k n : ℕ) → n < 2 ^ 64 → n < 2 ^ k → 64 - count_leading_zeros 64 n ≤ k
digits_by_zeros-le k n fits lt =
    let t = leading_length 64 n fits in
    omega (arith, t.1, digits-le k t.0 n lt t.3)
