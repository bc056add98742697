-- A line's planes from its octave and its rank.
use Rattle.std.proofs.Common.{◌≡◌, ◌↔◌, ℕ, zero, suc, ◌+◌, ◌-◌, ◌*◌, ◌%◌, ◌^◌, ◌<◌, ◌≤◌, ◌⊎◌, arith, refl, subst, inl, inr}
use Rattle.std.proofs.lemmas.Bool.{cases_lt}
use Rattle.std.specs.Int.Count.{count_leading_zeros}
use Rattle.std.proofs.lemmas.Nat.{leading_top, pow_pos}
use Rattle.std.proofs.Math.Nat.{pow-le-pow_right, mul-le-mul_right, mod-eq_of_lt}
use Rattle.l3_count.specs.Planes.{IsPlane, IsMantissa, IsRank, IsRanked, ranked_at, place_at, less_at}
use Rattle.l3_count.proofs.PlaneCuts.{split_power, plane_is, plane_zero}
use Rattle.l3_count.proofs.Constants.{cuts_are, places_are, steps_are}

-- a step counted, or not
abbrev Counted : (ℕ → ℕ) → ℕ → ℕ → ℕ → Type 0
Counted p rank s j = ((p j ≤ rank) × (j < s)) ⊎ ((rank < p j) × (s ≤ j))

one_of : (p : ℕ → ℕ) (rank s j : ℕ) → Counted p rank s j → (j < s) ↔ (p j ≤ rank)
one_of p rank s j known =
    elim known [
      | inl both ↦ (λ _. both.0, λ _. both.1)
      | inr both ↦ (λ below. absurd (omega (arith, both.1)), λ le. absurd (omega (arith, both.0)))
    ]

each_of : (p : ℕ → ℕ) (rank s : ℕ) → Counted p rank s 0 → Counted p rank s 1 → Counted p rank s 2 → Counted p rank s 3 → (j : ℕ) → j < 4 → (j < s) ↔ (p j ≤ rank)
each_of p rank s k0 k1 k2 k3 zero lt = one_of p rank s 0 k0
each_of p rank s k0 k1 k2 k3 (suc zero) lt = one_of p rank s 1 k1
each_of p rank s k0 k1 k2 k3 (suc (suc zero)) lt = one_of p rank s 2 k2
each_of p rank s k0 k1 k2 k3 (suc (suc (suc zero))) lt = one_of p rank s 3 k3
each_of p rank s k0 k1 k2 k3 (suc (suc (suc (suc j)))) lt = absurd (omega arith)

-- the number of ordered steps that the rank is at
pub steps_count : (p : ℕ → ℕ) (rank a b c s : ℕ) → p 0 < p 1 → p 1 < p 2 → p 2 < p 3 →
    (p 0 ≤ rank → a ≡ 0 + 1) → (rank < p 0 → a ≡ 0) → (p 1 ≤ rank → b ≡ a + 1) → (rank < p 1 → b ≡ a) →
    (p 2 ≤ rank → c ≡ b + 1) → (rank < p 2 → c ≡ b) → (p 3 ≤ rank → s ≡ c + 1) → (rank < p 3 → s ≡ c) →
    (j : ℕ) → j < 4 → (j < s) ↔ (p j ≤ rank)
steps_count p rank a b c s o1 o2 o3 a1 a0 b1 b0 c1 c0 s1 s0 =
    elim (cases_lt rank (p 0)) [
      | inl under ↦ (let x1 : a ≡ 0 = a0 under in let x2 : b ≡ a = b0 (omega arith) in let x3 : c ≡ b = c0 (omega arith) in let x4 : s ≡ c = s0 (omega arith) in
          each_of p rank s (inr (under, omega arith)) (inr (omega arith, omega arith)) (inr (omega arith, omega arith)) (inr (omega arith, omega arith)))
      | inr at0 ↦ elim (cases_lt rank (p 1)) [
        | inl under ↦ (let x1 : a ≡ 0 + 1 = a1 at0 in let x2 : b ≡ a = b0 under in let x3 : c ≡ b = c0 (omega arith) in let x4 : s ≡ c = s0 (omega arith) in
            each_of p rank s (inl (at0, omega arith)) (inr (under, omega arith)) (inr (omega arith, omega arith)) (inr (omega arith, omega arith)))
        | inr at1 ↦ elim (cases_lt rank (p 2)) [
          | inl under ↦ (let x1 : a ≡ 0 + 1 = a1 at0 in let x2 : b ≡ a + 1 = b1 at1 in let x3 : c ≡ b = c0 under in let x4 : s ≡ c = s0 (omega arith) in
              each_of p rank s (inl (at0, omega arith)) (inl (at1, omega arith)) (inr (under, omega arith)) (inr (omega arith, omega arith)))
          | inr at2 ↦ elim (cases_lt rank (p 3)) [
            | inl under ↦ (let x1 : a ≡ 0 + 1 = a1 at0 in let x2 : b ≡ a + 1 = b1 at1 in let x3 : c ≡ b + 1 = c1 at2 in let x4 : s ≡ c = s0 under in
                each_of p rank s (inl (at0, omega arith)) (inl (at1, omega arith)) (inl (at2, omega arith)) (inr (under, omega arith)))
            | inr at3 ↦ (let x1 : a ≡ 0 + 1 = a1 at0 in let x2 : b ≡ a + 1 = b1 at1 in let x3 : c ≡ b + 1 = c1 at2 in let x4 : s ≡ c + 1 = s1 at3 in
                each_of p rank s (inl (at0, omega arith)) (inl (at1, omega arith)) (inl (at2, omega arith)) (inl (at3, omega arith)))
          ]
        ]
      ]
    ]

-- a step that the rank is at is an entry of the table that is at most the mantissa
pub step_at : (k m rank s j : ℕ) → k < 15 → j < 4 → IsRank m rank → ((j < s) ↔ (place_at k j ≤ rank)) → (j < s) ↔ (ranked_at (place_at k j - 1) ≤ m)
step_at k m rank s j value lt is at =
    let places = places_are k j value lt in
    let counts = is.counts (place_at k j - 1) (omega (arith, places.0, places.1)) in (
      λ below. counts.0 (let le : place_at k j ≤ rank = at.0 below in omega (arith, places.0)),
      λ le. at.1 (let below : place_at k j - 1 < rank = counts.1 le in omega (arith, places.0)),
    )

-- the octave less the value's part, and the steps that the mantissa is at
pub plane_from : (k x octave rank s p : ℕ) → k < 15 → IsRanked x octave rank →
    ((m : ℕ) → IsRank m rank → (j : ℕ) → j < 4 → (j < s) ↔ (ranked_at (place_at k j - 1) ≤ m)) → (rank ≡ 0 → s ≡ 0) → s ≤ 4 →
    p ≡ (octave - less_at k) + s → IsPlane (k + 1) x p
plane_from k x octave rank s p value is counts none few e =
    elim (cases_lt 0 x) [
      | inl some ↦
          (let t = is.some some in
          let small = steps_are k value in
          let same : 4 * t.0 + (130 - less_at k) + s ≡ p = omega (arith, e, t.4, small.least, small.most) in
          subst (λ (z : ℕ). IsPlane (k + 1) x z) same
          (plane_is (k + 1) (130 - less_at k) s x t.0 t.1 (λ j. ranked_at (place_at k j - 1)) (omega arith) (omega (arith, small.least, small.most)) (omega (arith, small.least, small.most)) few t.2
          (λ j lt. cuts_are k j value lt) (counts t.1 t.3)))
      | inr le ↦
          (let zero : x ≡ 0 = omega arith in
          let both = is.zero zero in
          let p0 : 0 ≡ p = omega (arith, e, both.0, none both.1) in
          let x0 : 0 ≡ x = omega arith in
          subst (λ (z : ℕ). IsPlane (k + 1) x z) p0 (subst (λ (z : ℕ). IsPlane (k + 1) z 0) x0 (plane_zero (k + 1) (omega arith))))
    ]

-- the place of the highest digit
pub exponent_is : (x : ℕ) → 0 < x → x < 2 ^ 29 → (2 ^ (31 - count_leading_zeros 32 x) ≤ x) × (x < 2 ^ (31 - count_leading_zeros 32 x + 1)) × (31 - count_leading_zeros 32 x ≤ 28)
exponent_is x some line =
    let t = leading_top 32 x some (omega arith) in
    let j = t.0 in
    let same : 31 - count_leading_zeros 32 x ≡ j = omega (arith, t.1) in
    let next : j + 1 ≡ suc j = omega arith in
    let low : 2 ^ j ≤ x = t.2 in
    let high : x < 2 ^ (j + 1) = rw next t.3 in
    let few : j ≤ 28 = elim (cases_lt 28 j) [
      | inl far ↦ (let power : 2 ^ 29 ≤ 2 ^ j = pow-le-pow_right {n = 2} (omega arith) {i = 29} {j = j} (omega arith) in absurd (omega arith))
      | inr le ↦ le
    ] in
    rw same (low, high, few)

-- the shifted value
pub mantissa_is : (x e : ℕ) → 2 ^ e ≤ x → x < 2 ^ (e + 1) → e ≤ 28 →
    IsMantissa x e (x * 2 ^ (28 - e) % 4294967296) × (2 ^ 28 ≤ x * 2 ^ (28 - e) % 4294967296) × (x * 2 ^ (28 - e) % 4294967296 < 2 ^ 29)
mantissa_is x e low high small =
    let least : 2 ^ e * 2 ^ (28 - e) ≤ x * 2 ^ (28 - e) = mul-le-mul_right (2 ^ (28 - e)) low in
    let next : x + 1 ≤ 2 ^ (e + 1) = omega arith in
    let most : (x + 1) * 2 ^ (28 - e) ≤ 2 ^ (e + 1) * 2 ^ (28 - e) = mul-le-mul_right (2 ^ (28 - e)) next in
    let one : 2 ^ e * 2 ^ (28 - e) ≡ 2 ^ 28 = split_power e (28 - e) 28 (omega arith) in
    let two : 2 ^ (e + 1) * 2 ^ (28 - e) ≡ 2 ^ 29 = split_power (e + 1) (28 - e) 29 (omega arith) in
    let some : 0 < 2 ^ (28 - e) = pow_pos (28 - e) in
    let bound : x * 2 ^ (28 - e) < 2 ^ 29 = omega (arith, most, two, some) in
    let fits : x * 2 ^ (28 - e) % 4294967296 ≡ x * 2 ^ (28 - e) = mod-eq_of_lt (omega (arith, bound)) in
    rw fits (record { low = low; high = high; small = small; value = refl }, omega (arith, least, one), bound)

-- the rank 0 is at no step
pub steps_none : (k rank s : ℕ) → k < 15 → rank ≡ 0 → ((0 < s) ↔ (place_at k 0 ≤ rank)) → s ≡ 0
steps_none k rank s value none at =
    elim (cases_lt 0 s) [
      | inl some ↦ (let places = places_are k 0 value (omega arith) in let le : place_at k 0 ≤ rank = at.0 some in absurd (omega (arith, places.0)))
      | inr few ↦ omega arith
    ]
