-- The four mantissas of each value are its cuts.
use Rattle.std.proofs.Common.{◌≡◌, ℕ, ◌+◌, ◌-◌, ◌*◌, ◌/◌, ◌%◌, ◌^◌, ◌<◌, ◌≤◌, Bool, true, ◌&&◌, leb, ltb, refl}
use Rattle.std.proofs.lemmas.Bool.{agree_below, agree_below_at, and_parts, leb-true, ltb-true}
use Rattle.l3_base.specs.Steps.{quarter_at}
use Rattle.l3_quant.specs.Thresholds.{threshold_at}
use Rattle.l3_quant.proofs.Scales.{factor}
use Rattle.l3_count.specs.Planes.{ranked_at, place_at, less_at}
use Rattle.l3_count.proofs.PlaneCuts.{IsCut}

-- the mantissa of a value's step
abbrev pub cut_of : ℕ → ℕ → ℕ
cut_of k j = ranked_at (place_at k j - 1)

unfoldable pub cut_test : ℕ → ℕ → ℕ → Bool
cut_test n u c =
    ltb (2 ^ 28) c && (leb c (2 ^ 29) && (leb 112 u && (leb (threshold_at n * 2 ^ 54) (c * 2 ^ (u / 4 - 28) * factor (u % 4)) && ltb ((c - 1) * 2 ^ (u / 4 - 28) * factor (u % 4)) (threshold_at n * 2 ^ 54))))

pub cut_tested : (n u c : ℕ) → cut_test n u c ≡ true → IsCut n u c
unfolding cut_test
cut_tested n u c t =
    let one = and_parts _ _ t in
    let two = and_parts _ _ one.1 in
    let three = and_parts _ _ two.1 in
    let four = and_parts _ _ three.1 in
    record { low = ltb-true _ _ one.0; high = leb-true _ _ two.0; far = leb-true _ _ three.0; above = leb-true _ _ four.0; below = ltb-true _ _ four.1 }

step_test : ℕ → ℕ → Bool
step_test k j = cut_test (k + 1) (265 - (130 - less_at k) - j) (cut_of k j) && (leb 1 (place_at k j) && leb (place_at k j) 60)

row_test : ℕ → Bool
row_test k = agree_below (step_test k) (λ _. true) 4 && (leb 4 (less_at k) && (leb (less_at k) 29 && (ltb (place_at k 0) (place_at k 1) && (ltb (place_at k 1) (place_at k 2) && ltb (place_at k 2) (place_at k 3)))))

rows_tested : (k : ℕ) → k < 15 → row_test k ≡ true
unfolding row_test step_test cut_test threshold_at quarter_at ranked_at place_at less_at
rows_tested k lt = agree_below_at row_test (λ _. true) 15 k refl lt

step_tested : (k j : ℕ) → k < 15 → j < 4 → step_test k j ≡ true
unfolding row_test
step_tested k j value lt = agree_below_at (step_test k) (λ _. true) 4 j (and_parts _ _ (rows_tested k value)).0 lt

pub cuts_are : (k j : ℕ) → k < 15 → j < 4 → IsCut (k + 1) (265 - (130 - less_at k) - j) (cut_of k j)
unfolding step_test
cuts_are k j value lt = cut_tested (k + 1) (265 - (130 - less_at k) - j) (cut_of k j) (and_parts _ _ (step_tested k j value lt)).0

pub places_are : (k j : ℕ) → k < 15 → j < 4 → (1 ≤ place_at k j) × (place_at k j ≤ 60)
unfolding step_test
places_are k j value lt =
    let both = and_parts _ _ (and_parts _ _ (step_tested k j value lt)).1 in
    (leb-true _ _ both.0, leb-true _ _ both.1)

pub record AreSteps (k : ℕ) : Type 0 where
  pub least : 4 ≤ less_at k
  pub most : less_at k ≤ 29
  pub first : place_at k 0 < place_at k 1
  pub second : place_at k 1 < place_at k 2
  pub third : place_at k 2 < place_at k 3

pub steps_are : (k : ℕ) → k < 15 → AreSteps k
unfolding row_test
steps_are k value =
    let one = and_parts _ _ (and_parts _ _ (rows_tested k value)).1 in
    let two = and_parts _ _ one.1 in
    let three = and_parts _ _ two.1 in
    let four = and_parts _ _ three.1 in
    record { least = leb-true _ _ one.0; most = leb-true _ _ two.0; first = ltb-true _ _ three.0; second = ltb-true _ _ four.0; third = ltb-true _ _ four.1 }
