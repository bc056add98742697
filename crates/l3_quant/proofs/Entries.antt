-- From the test of the table of thresholds to each of its entries.
use Rattle.std.proofs.Common.{◌≡◌, ℕ, zero, suc, ◌+◌, ◌-◌, ◌*◌, ◌^◌, ◌<◌, ◌≤◌, Bool, true, List, [], ◌∷◌, length, get_or, leb, ltb, ◌&&◌, ◌||◌, arith, inl, inr, subst, refl}
use Rattle.std.proofs.Math.Nat.{pow-le-pow_left}
use Rattle.std.proofs.lemmas.Bool.{and_parts, or_cases, cases_lt, leb-true, ltb-true}
use Rattle.l3_quant.specs.declared.thresholds.TheConstants.{THRESHOLDS}
use Rattle.l3_quant.specs.Quantiser.{greatest_reached}
use Rattle.l3_quant.specs.Thresholds.{IsThreshold, threshold_at}
use Rattle.l3_quant.proofs.Powers.{Passes, passes_below}
use Rattle.l3_quant.proofs.ReachedLemmas.{reaches-passes, greatest_reached-greatest, greatest_reached-is}

-- y passes, and y - 1 does not or y is 0
abbrev threshold_test : ℕ → ℕ → Bool
threshold_test n y = leb ((32 * n - 13) ^ 4 * 2 ^ 16) (y ^ 3) && (leb y 0 || ltb ((y - 1) ^ 3) ((32 * n - 13) ^ 4 * 2 ^ 16))

-- the test of each entry, from place n on
abbrev thresholds_from : ℕ → List ℕ → Bool
thresholds_from n [] = true
thresholds_from n (y ∷ ys) = threshold_test n y && thresholds_from (n + 1) ys

tested : (n y : ℕ) → threshold_test n y ≡ true → IsThreshold n y
tested n y h =
    let parts = and_parts (leb ((32 * n - 13) ^ 4 * 2 ^ 16) (y ^ 3)) (leb y 0 || ltb ((y - 1) ^ 3) ((32 * n - 13) ^ 4 * 2 ^ 16)) h in
    record {
      reaches = inr (leb-true _ _ parts.0);
      least = λ z r. elim (or_cases (leb y 0) (ltb ((y - 1) ^ 3) ((32 * n - 13) ^ 4 * 2 ^ 16)) parts.1) [
        | inl none ↦ omega (arith, leb-true y 0 none)
        | inr above ↦ elim (cases_lt z y) [
          | inl below ↦
              (let le : z ≤ y - 1 = omega arith in
              let cube : z ^ 3 ≤ (y - 1) ^ 3 = pow-le-pow_left le 3 in
              let p : Passes z n = reaches-passes z n r in
              absurd (omega (arith, cube, p, ltb-true _ _ above)))
          | inr le ↦ le
        ]
      ];
    }

thresholds_at : (n i : ℕ) (ys : List ℕ) → thresholds_from n ys ≡ true → i < length ys → IsThreshold (n + i) (get_or ys i 0)
thresholds_at n i [] h lt = absurd (omega arith)
thresholds_at n zero (y ∷ ys) h lt =
    let P : ℕ → Type 0 = λ m. IsThreshold m y in
    let same : n ≡ n + 0 = omega arith in
    subst P same (tested n y (and_parts (threshold_test n y) (thresholds_from (n + 1) ys) h).0)
thresholds_at n (suc i) (y ∷ ys) h lt =
    let P : ℕ → Type 0 = λ m. IsThreshold m (get_or ys i 0) in
    let same : n + 1 + i ≡ n + suc i = omega arith in
    subst P same (thresholds_at (n + 1) i ys (and_parts (threshold_test n y) (thresholds_from (n + 1) ys) h).1 (omega arith))

-- the same from place 0 on
thresholds_all : (i : ℕ) (ys : List ℕ) → thresholds_from 0 ys ≡ true → i < length ys → IsThreshold i (get_or ys i 0)
thresholds_all i ys h lt =
    let P : ℕ → Type 0 = λ m. IsThreshold m (get_or ys i 0) in
    let same : 0 + i ≡ i = omega arith in
    subst P same (thresholds_at 0 i ys h lt)

pub threshold_is : (n : ℕ) → n < 8193 → IsThreshold n (threshold_at n)
unfolding threshold_at
threshold_is n lt = thresholds_all n THRESHOLDS refl lt

-- between two thresholds lies the greatest value that is reached
pub between_is : (n y : ℕ) → n < 8192 → threshold_at n ≤ y → y < threshold_at (n + 1) → greatest_reached y ≡ n
between_is n y room le lt =
    let here : IsThreshold n (threshold_at n) = threshold_is n (omega arith) in
    let next : IsThreshold (n + 1) (threshold_at (n + 1)) = threshold_is (n + 1) (omega arith) in
    let cube : threshold_at n ^ 3 ≤ y ^ 3 = pow-le-pow_left le 3 in
    let p : Passes (threshold_at n) n = reaches-passes (threshold_at n) n here.reaches in
    greatest_reached-is y n (omega (arith, cube, p))
    (elim (cases_lt (y ^ 3) ((32 * (n + 1) - 13) ^ 4 * 2 ^ 16)) [ inl below ↦ below | inr q ↦ absurd (omega (arith, next.least y (inr q))) ])

-- what is at a threshold reaches its place
pub above_is : (n y : ℕ) → n < 8193 → threshold_at n ≤ y → Passes y n
above_is n y room le =
    let here : IsThreshold n (threshold_at n) = threshold_is n room in
    let cube : threshold_at n ^ 3 ≤ y ^ 3 = pow-le-pow_left le 3 in
    let p : Passes (threshold_at n) n = reaches-passes (threshold_at n) n here.reaches in
    omega (arith, cube, p)

-- what is below a threshold reaches less than its place
pub below_is : (n y : ℕ) → n < 8193 → y < threshold_at n → greatest_reached y < n
below_is n y room lt =
    elim (cases_lt (greatest_reached y) n) [
      | inl less ↦ less
      | inr le ↦
          (let p : Passes y (greatest_reached y) = reaches-passes y (greatest_reached y) (greatest_reached-greatest y).reached in
          let q : Passes y n = passes_below y n (greatest_reached y) le p in
          absurd (omega (arith, (threshold_is n room).least y (inr q))))
    ]
