-- The mantissas from which on a line is quantised to at least n.
use Rattle.std.proofs.Common.{◌≡◌, ◌↔◌, ℕ, ◌+◌, ◌-◌, ◌*◌, ◌/◌, ◌%◌, ◌^◌, ◌<◌, ◌≤◌, arith, refl, sym, ap, ◌∙◌, inl, inr}
use Rattle.std.proofs.lemmas.Bool.{cases_lt}
use Rattle.std.proofs.lemmas.Nat.{pow-add}
use Rattle.std.proofs.Math.Nat.{div-lt_iff_lt-mul, le-div_iff_mul-le, mul-le-mul_right, pow-le-pow_right}
use Rattle.l3_quant.specs.Quantiser.{magnitude_at, scaled}
use Rattle.l3_quant.specs.Thresholds.{threshold_at}
use Rattle.l3_quant.proofs.Entries.{above_is, below_is}
use Rattle.l3_quant.proofs.ReachedLemmas.{greatest_reached-least}
use Rattle.l3_quant.proofs.Codable.{magnitude_at-zero}
use Rattle.l3_quant.proofs.Scales.{factor}
use Rattle.l3_count.specs.Planes.{key_at, IsPlane, IsMantissa}

-- x, shifted, is at or above a product that is at the threshold of n
reached_from : (n x h c p : ℕ) → n < 8193 → threshold_at n * 2 ^ 54 ≤ c * p * factor (h % 4) → c * p ≤ x * 2 ^ (h / 4) → n ≤ magnitude_at x h
unfolding scaled
reached_from n x h c p room entry above =
    let product : c * p * factor (h % 4) ≤ x * 2 ^ (h / 4) * factor (h % 4) = mul-le-mul_right (factor (h % 4)) above in
    let same : x * 2 ^ (h / 4) * factor (h % 4) ≡ x * factor (h % 4) * 2 ^ (h / 4) = omega arith in
    let enough : threshold_at n * 2 ^ 54 ≤ x * factor (h % 4) * 2 ^ (h / 4) = omega (arith, entry, product, same) in
    let at : threshold_at n ≤ scaled x h = (le-div_iff_mul-le {k = 2 ^ 54} {x = threshold_at n} {y = x * factor (h % 4) * 2 ^ (h / 4)} (omega arith)).1 enough in
    greatest_reached-least (scaled x h) n (above_is n (scaled x h) room at)

-- x, shifted, is at or below a product that is below the threshold of n
unreached_from : (n x h b p : ℕ) → n < 8193 → b * p * factor (h % 4) < threshold_at n * 2 ^ 54 → x * 2 ^ (h / 4) ≤ b * p → magnitude_at x h < n
unfolding scaled
unreached_from n x h b p room entry under =
    let product : x * 2 ^ (h / 4) * factor (h % 4) ≤ b * p * factor (h % 4) = mul-le-mul_right (factor (h % 4)) under in
    let same : x * 2 ^ (h / 4) * factor (h % 4) ≡ x * factor (h % 4) * 2 ^ (h / 4) = omega arith in
    let few : x * factor (h % 4) * 2 ^ (h / 4) < threshold_at n * 2 ^ 54 = omega (arith, entry, product, same) in
    let at : scaled x h < threshold_at n = (div-lt_iff_lt-mul {k = 2 ^ 54} {x = x * factor (h % 4) * 2 ^ (h / 4)} {y = threshold_at n} (omega arith)).1 few in
    below_is n (scaled x h) room at

-- at u quarter steps, r of them and a doublings, c * 2^(a - 28) is the least multiple of 2^(a - 28)
-- whose product is at the threshold of n
pub record IsCut (n u c : ℕ) : Type 0 where
  pub low : 2 ^ 28 < c
  pub high : c ≤ 2 ^ 29
  pub far : 112 ≤ u
  pub above : threshold_at n * 2 ^ 54 ≤ c * 2 ^ (u / 4 - 28) * factor (u % 4)
  pub below : (c - 1) * 2 ^ (u / 4 - 28) * factor (u % 4) < threshold_at n * 2 ^ 54

-- the powers of 2 of x's place and of the steps
pub split_power : (a b c : ℕ) → a + b ≡ c → 2 ^ a * 2 ^ b ≡ 2 ^ c
split_power a b c e = sym (pow-add 2 a b) ∙ ap (λ k. 2 ^ k) e

far_above : (u c x e h : ℕ) → c ≤ 2 ^ 29 → 112 ≤ u → 2 ^ e ≤ x → h % 4 ≡ u % 4 → u < 4 * e + h → c * 2 ^ (u / 4 - 28) ≤ x * 2 ^ (h / 4)
far_above u c x e h high far low same over =
    let one : 2 ^ e * 2 ^ (h / 4) ≤ x * 2 ^ (h / 4) = mul-le-mul_right (2 ^ (h / 4)) low in
    let two : c * 2 ^ (u / 4 - 28) ≤ 2 ^ 29 * 2 ^ (u / 4 - 28) = mul-le-mul_right (2 ^ (u / 4 - 28)) high in
    let three : 2 ^ 29 * 2 ^ (u / 4 - 28) ≡ 2 ^ (u / 4 + 1) = split_power 29 (u / 4 - 28) (u / 4 + 1) (omega arith) in
    let four : 2 ^ e * 2 ^ (h / 4) ≡ 2 ^ (e + h / 4) = split_power e (h / 4) (e + h / 4) refl in
    let five : 2 ^ (u / 4 + 1) ≤ 2 ^ (e + h / 4) = pow-le-pow_right {n = 2} (omega arith) {i = u / 4 + 1} {j = e + h / 4} (omega arith) in
    omega (arith, one, two, three, four, five)

far_below : (u c x e h : ℕ) → 2 ^ 28 < c → 112 ≤ u → x < 2 ^ (e + 1) → h % 4 ≡ u % 4 → 4 * e + h < u → x * 2 ^ (h / 4) ≤ (c - 1) * 2 ^ (u / 4 - 28)
far_below u c x e h low far high same under =
    let le : x ≤ 2 ^ (e + 1) = omega arith in
    let least : 2 ^ 28 ≤ c - 1 = omega arith in
    let one : x * 2 ^ (h / 4) ≤ 2 ^ (e + 1) * 2 ^ (h / 4) = mul-le-mul_right (2 ^ (h / 4)) le in
    let two : 2 ^ 28 * 2 ^ (u / 4 - 28) ≤ (c - 1) * 2 ^ (u / 4 - 28) = mul-le-mul_right (2 ^ (u / 4 - 28)) least in
    let three : 2 ^ 28 * 2 ^ (u / 4 - 28) ≡ 2 ^ (u / 4) = split_power 28 (u / 4 - 28) (u / 4) (omega arith) in
    let four : 2 ^ (e + 1) * 2 ^ (h / 4) ≡ 2 ^ (e + 1 + h / 4) = split_power (e + 1) (h / 4) (e + 1 + h / 4) refl in
    let five : 2 ^ (e + 1 + h / 4) ≤ 2 ^ (u / 4) = pow-le-pow_right {n = 2} (omega arith) {i = e + 1 + h / 4} {j = u / 4} (omega arith) in
    omega (arith, one, two, three, four, five)

-- in the octave of the cut x, shifted, is the mantissa, shifted
in_octave : (u x e m h : ℕ) → 112 ≤ u → IsMantissa x e m → h % 4 ≡ u % 4 → 4 * e + h ≡ u → x * 2 ^ (h / 4) ≡ m * 2 ^ (u / 4 - 28)
in_octave u x e m h far is same at =
    let le : e ≤ 28 = is.small in
    let power : 2 ^ (28 - e) * 2 ^ (u / 4 - 28) ≡ 2 ^ (h / 4) = split_power (28 - e) (u / 4 - 28) (h / 4) (omega arith) in
    let whole : m * 2 ^ (u / 4 - 28) ≡ x * 2 ^ (28 - e) * 2 ^ (u / 4 - 28) = ap (λ z. z * 2 ^ (u / 4 - 28)) is.value in
    let moved : x * 2 ^ (28 - e) * 2 ^ (u / 4 - 28) ≡ x * (2 ^ (28 - e) * 2 ^ (u / 4 - 28)) = omega arith in
    sym (whole ∙ (moved ∙ ap (λ z. x * z) power))

-- where the mantissa is at the cut, n is reached from u quarter steps on, less four for each place
-- of x
pub reached_at : (n u c x e m h : ℕ) → n < 8193 → IsCut n u c → IsMantissa x e m → h % 4 ≡ u % 4 → c ≤ m → (u ≤ 4 * e + h) ↔ (n ≤ magnitude_at x h)
reached_at n u c x e m h room cut is same at = (reach, within)
  where
    above : threshold_at n * 2 ^ 54 ≤ c * 2 ^ (u / 4 - 28) * factor (h % 4)
    above = rw same cut.above

    below : (c - 1) * 2 ^ (u / 4 - 28) * factor (h % 4) < threshold_at n * 2 ^ 54
    below = rw same cut.below

    reach : u ≤ 4 * e + h → n ≤ magnitude_at x h
    reach le = elim (cases_lt u (4 * e + h)) [
      | inl lt ↦ reached_from n x h c (2 ^ (u / 4 - 28)) room above (far_above u c x e h cut.high cut.far is.low same lt)
      | inr ge ↦
          (let shifted : x * 2 ^ (h / 4) ≡ m * 2 ^ (u / 4 - 28) = in_octave u x e m h cut.far is same (omega arith) in
          let more : c * 2 ^ (u / 4 - 28) ≤ m * 2 ^ (u / 4 - 28) = mul-le-mul_right (2 ^ (u / 4 - 28)) at in
          reached_from n x h c (2 ^ (u / 4 - 28)) room above (omega (arith, shifted, more)))
    ]

    within : n ≤ magnitude_at x h → u ≤ 4 * e + h
    within reached = elim (cases_lt (4 * e + h) u) [
      | inl lt ↦ (let no : magnitude_at x h < n = unreached_from n x h (c - 1) (2 ^ (u / 4 - 28)) room below (far_below u c x e h cut.low cut.far is.high same lt) in absurd (omega arith))
      | inr ge ↦ ge
    ]

-- and where it is below, four quarter steps later
pub reached_after : (n u c x e m h : ℕ) → n < 8193 → IsCut n u c → IsMantissa x e m → h % 4 ≡ u % 4 → m < c → (u + 4 ≤ 4 * e + h) ↔ (n ≤ magnitude_at x h)
reached_after n u c x e m h room cut is same under = (reach, within)
  where
    above : threshold_at n * 2 ^ 54 ≤ c * 2 ^ (u / 4 - 28) * factor (h % 4)
    above = rw same cut.above

    below : (c - 1) * 2 ^ (u / 4 - 28) * factor (h % 4) < threshold_at n * 2 ^ 54
    below = rw same cut.below

    reach : u + 4 ≤ 4 * e + h → n ≤ magnitude_at x h
    reach le = reached_from n x h c (2 ^ (u / 4 - 28)) room above (far_above u c x e h cut.high cut.far is.low same (omega arith))

    within : n ≤ magnitude_at x h → u + 4 ≤ 4 * e + h
    within reached = elim (cases_lt (4 * e + h) u) [
      | inl lt ↦ (let no : magnitude_at x h < n = unreached_from n x h (c - 1) (2 ^ (u / 4 - 28)) room below (far_below u c x e h cut.low cut.far is.high same lt) in absurd (omega arith))
      | inr ge ↦ elim (cases_lt u (4 * e + h)) [
        | inl lt ↦ omega arith
        | inr le ↦
            (let shifted : x * 2 ^ (h / 4) ≡ m * 2 ^ (u / 4 - 28) = in_octave u x e m h cut.far is same (omega arith) in
            let less : m ≤ c - 1 = omega arith in
            let fewer : m * 2 ^ (u / 4 - 28) ≤ (c - 1) * 2 ^ (u / 4 - 28) = mul-le-mul_right (2 ^ (u / 4 - 28)) less in
            let no : magnitude_at x h < n = unreached_from n x h (c - 1) (2 ^ (u / 4 - 28)) room below (omega (arith, shifted, fewer)) in
            absurd (omega arith))
      ]
    ]

-- four cuts at quarter steps that fall by one, of which s are at most the mantissa, give the plane
pub plane_is : (n b s x e m : ℕ) (c : ℕ → ℕ) → n < 8193 → 1 ≤ b → b ≤ 126 → s ≤ 4 → IsMantissa x e m →
    ((j : ℕ) → j < 4 → IsCut n (265 - b - j) (c j)) → ((j : ℕ) → j < 4 → (j < s) ↔ (c j ≤ m)) → IsPlane n x (4 * e + b + s)
plane_is n b s x e m c room some most few is cuts counts = record {
  small = omega (arith, is.small);
  reaches = λ h. both h;
}
  where
    turn : (h j : ℕ) → j ≡ (265 + 3 * (b + h)) % 4 → h % 4 ≡ (265 - b - j) % 4
    turn h j e = omega arith

    whole : (h : ℕ) → (266 ≤ 4 * e + b + s + h) ↔ (n ≤ magnitude_at x h)
    whole h =
        let j = (265 + 3 * (b + h)) % 4 in
        let lt : j < 4 = omega arith in
        let same : h % 4 ≡ (265 - b - j) % 4 = turn h j refl in
        elim (cases_lt j s) [
          | inl early ↦ (let r = reached_at n (265 - b - j) (c j) x e m h room (cuts j lt) is same ((counts j lt).0 early) in
              (λ le. r.0 (omega arith), λ reached. let ge : 265 - b - j ≤ 4 * e + h = r.1 reached in omega arith))
          | inr late ↦ (let under : m < c j = elim (cases_lt m (c j)) [ inl lt' ↦ lt' | inr ge ↦ (let no : j < s = (counts j lt).1 ge in absurd (omega arith)) ] in
              let r = reached_after n (265 - b - j) (c j) x e m h room (cuts j lt) is same under in
              (λ le. r.0 (omega arith), λ reached. let ge : 265 - b - j + 4 ≤ 4 * e + h = r.1 reached in omega arith))
        ]

    both : (h : ℕ) → (key_at h ≤ 4 * e + b + s) ↔ (n ≤ magnitude_at x h)
    both h = (λ le. (whole h).0 (omega (arith, is.small)), λ reached. let ge : 266 ≤ 4 * e + b + s + h = (whole h).1 reached in omega (arith, is.small))

-- the plane of 0
pub plane_zero : (n : ℕ) → 1 ≤ n → IsPlane n 0 0
plane_zero n some = record {
  small = omega arith;
  reaches = λ h. (λ le. absurd (omega arith), λ reached. let none : magnitude_at 0 h ≡ 0 = magnitude_at-zero h in absurd (omega (arith, none, reached)));
}
