-- What rows of pairs come to: the folded columns of the samples.
use Rattle.std.proofs.Common.{◌≡◌, ℕ, zero, suc, add-one, ◌+◌, ◌-◌, ◌*◌, ◌/◌, ◌%◌, ◌<◌, ◌≤◌, inl, inr, List, ℤ, pos, ◌+ℤ◌, ◌-ℤ◌, ◌*ℤ◌, neg_ℤ, arith, refl, sym, ap, ◌∙◌}
use Rattle.std.proofs.lemmas.Int.{ints, unsigned_abs-mul}
use Rattle.std.proofs.lemmas.Bool.{cases_lt}
use Rattle.std.proofs.lemmas.Bool.Decides.{nat_tests}
use Rattle.std.proofs.Math.Nat.{mul-le-mul}
use Rattle.std.proofs.Math.IntN.{zero-*ℤ, *ℤ-zero, *ℤ_comm, suc_ℤ-*ℤ}
use Rattle.std.specs.Prelude.{unsigned_abs}
use Rattle.l3_base.specs.Lists.{entry}
use Rattle.l3_base.specs.Sums.{sum_below}
use Rattle.l3_base.specs.Window.{window_at}
use Rattle.l3_base.specs.Filterbank.{column_sum}
use Rattle.l3_base.proofs.Entries.{within_same, not_above_at}
use Rattle.l3_base.proofs.SumLemmas.{abs_add, times_add, sum_below-same, sum_below-add}
use Rattle.l3_transform.specs.Fold.{folded_column}
use Rattle.l3_transform.specs.Pairs.{IsTap, other_column, other_entry, pair_entry, high_part, low_entry, pair_sum, reach, reach_below}
use Rattle.l3_transform.proofs.FoldLaw.{times_sub, neg_times, at_first, at_low, at_high}
use Rattle.l3_transform.proofs.HalvingLaw.{sum_below-neg}

-- sizes
pub product_small : (a x : ℤ) (r s : ℕ) → unsigned_abs a ≤ r → unsigned_abs x ≤ s → unsigned_abs (a *ℤ x) ≤ r * s
product_small a x r s left right = rw (unsigned_abs-mul a x) (mul-le-mul left right)

pub pair_sum-small : (w x : ℕ → ℤ) (j r : ℕ) → j < 32 → ((n : ℕ) → n < 64 → unsigned_abs (w n) ≤ r) → ((n : ℕ) → n < 64 → unsigned_abs (x n) ≤ 32768) → unsigned_abs (pair_sum w x j) ≤ r * 65536
unfolding pair_sum
pair_sum-small w x j r lt entries samples =
    let first : unsigned_abs (w (2 * j) *ℤ x (2 * j)) ≤ r * 32768 = product_small (w (2 * j)) (x (2 * j)) r 32768 (entries (2 * j) (omega arith)) (samples (2 * j) (omega arith)) in
    let second : unsigned_abs (w (2 * j + 1) *ℤ x (2 * j + 1)) ≤ r * 32768 = product_small (w (2 * j + 1)) (x (2 * j + 1)) r 32768 (entries (2 * j + 1) (omega arith)) (samples (2 * j + 1) (omega arith)) in
    omega (arith, abs_add (w (2 * j) *ℤ x (2 * j)) (w (2 * j + 1) *ℤ x (2 * j + 1)))

pub pair_sum-same : (w v x : ℕ → ℤ) (j : ℕ) → j < 32 → ((n : ℕ) → n < 64 → w n ≡ v n) → pair_sum w x j ≡ pair_sum v x j
unfolding pair_sum
pair_sum-same w v x j lt same =
    ap (λ z. z *ℤ x (2 * j) +ℤ w (2 * j + 1) *ℤ x (2 * j + 1)) (same (2 * j) (omega arith))
    ∙ ap (λ z. v (2 * j) *ℤ x (2 * j) +ℤ z *ℤ x (2 * j + 1)) (same (2 * j + 1) (omega arith))

pub reach-small : (m : ℕ) → m < 8 → reach_below m + reach m ≤ 32544
reach-small m lt = not_above_at (λ n. reach_below n + reach n) (λ _. 32544) 8 m refl lt

pub reach_below-more : (m : ℕ) → reach_below (m + 1) ≡ reach_below m + reach m
reach_below-more m = rw add-one refl

-- a whole number of times a product
times_nat : (n : ℕ) (a h : ℤ) → a *ℤ (pos n *ℤ h) ≡ pos n *ℤ (a *ℤ h)
times_nat zero a h = ap (λ z. a *ℤ z) (zero-*ℤ h) ∙ (*ℤ-zero a ∙ sym (zero-*ℤ (a *ℤ h)))
times_nat (suc n) a h =
    ap (λ z. a *ℤ z) (suc_ℤ-*ℤ (pos n) h)
    ∙ (times_add a (pos n *ℤ h) h
    ∙ (ap (λ z. z +ℤ a *ℤ h) (times_nat n a h) ∙ sym (suc_ℤ-*ℤ (pos n) (a *ℤ h))))

-- an entry less 512 times its high part
split_times : (p h a : ℤ) → (p -ℤ pos 512 *ℤ h) *ℤ a ≡ p *ℤ a -ℤ pos 512 *ℤ (h *ℤ a)
split_times p h a =
    let turned : (p -ℤ pos 512 *ℤ h) *ℤ a ≡ a *ℤ (p -ℤ pos 512 *ℤ h) = *ℤ_comm (p -ℤ pos 512 *ℤ h) a in
    let apart : a *ℤ (p -ℤ pos 512 *ℤ h) ≡ a *ℤ p -ℤ a *ℤ (pos 512 *ℤ h) = times_sub a p (pos 512 *ℤ h) in
    let first : a *ℤ p ≡ p *ℤ a = *ℤ_comm a p in
    let second : a *ℤ (pos 512 *ℤ h) ≡ pos 512 *ℤ (h *ℤ a) = times_nat 512 a h ∙ ap (λ z. pos 512 *ℤ z) (*ℤ_comm a h) in
    omega (arith, ints)

split_tap : (p h x : ℕ → ℤ) (j : ℕ) → pair_sum (λ n. p n -ℤ pos 512 *ℤ h n) x j ≡ pair_sum p x j -ℤ pos 512 *ℤ pair_sum h x j
unfolding pair_sum
split_tap p h x j = omega (arith, ints, split_times (p (2 * j)) (h (2 * j)) (x (2 * j)), split_times (p (2 * j + 1)) (h (2 * j + 1)) (x (2 * j + 1)))

-- low parts and high parts together
abbrev whole : (ℕ → List ℤ) → ℕ → ℕ → ℤ
whole rows j m = pair_sum (pair_entry m) (entry (rows m)) j

abbrev low : (ℕ → List ℤ) → ℕ → ℕ → ℤ
low rows j m = pair_sum (low_entry m) (entry (rows m)) j

abbrev high : (ℕ → List ℤ) → ℕ → ℕ → ℤ
high rows j m = pair_sum (λ n. high_part (pair_entry m n)) (entry (rows m)) j

low-plain : (rows : ℕ → List ℤ) (j : ℕ) → (low rows j 0 ≡ whole rows j 0) × (low rows j 1 ≡ whole rows j 1) × (low rows j 2 ≡ whole rows j 2) × (low rows j 5 ≡ whole rows j 5) × (low rows j 6 ≡ whole rows j 6) × (low rows j 7 ≡ whole rows j 7)
unfolding low_entry
low-plain rows j = (refl, refl, refl, refl, refl, refl)

low-split : (rows : ℕ → List ℤ) (j : ℕ) → (low rows j 3 ≡ whole rows j 3 -ℤ pos 512 *ℤ high rows j 3) × (low rows j 4 ≡ whole rows j 4 -ℤ pos 512 *ℤ high rows j 4)
unfolding low_entry
low-split rows j =
    (split_tap (pair_entry 3) (λ n. high_part (pair_entry 3 n)) (entry (rows 3)) j, split_tap (pair_entry 4) (λ n. high_part (pair_entry 4 n)) (entry (rows 4)) j)

eight : (f : ℕ → ℤ) → sum_below 8 f ≡ f 0 +ℤ f 1 +ℤ f 2 +ℤ f 3 +ℤ f 4 +ℤ f 5 +ℤ f 6 +ℤ f 7
unfolding sum_below
eight f = omega (arith, ints)

pub parts_join : (rows : ℕ → List ℤ) (j : ℕ) → pos 512 *ℤ (high rows j 3 +ℤ high rows j 4) +ℤ sum_below 8 (low rows j) ≡ sum_below 8 (whole rows j)
parts_join rows j =
    let plain = low-plain rows j in
    let p0 : low rows j 0 ≡ whole rows j 0 = plain.0 in
    let p1 : low rows j 1 ≡ whole rows j 1 = plain.1 in
    let p2 : low rows j 2 ≡ whole rows j 2 = plain.2 in
    let p5 : low rows j 5 ≡ whole rows j 5 = plain.3 in
    let p6 : low rows j 6 ≡ whole rows j 6 = plain.4 in
    let p7 : low rows j 7 ≡ whole rows j 7 = plain.5 in
    let p3 : low rows j 3 ≡ whole rows j 3 -ℤ pos 512 *ℤ high rows j 3 = (low-split rows j).0 in
    let p4 : low rows j 4 ≡ whole rows j 4 -ℤ pos 512 *ℤ high rows j 4 = (low-split rows j).1 in
    omega (arith, ints, eight (low rows j), eight (whole rows j))

-- entries by pairs
entry-first : (m j : ℕ) → pair_entry m (2 * j) ≡ window_at (16 + j + 64 * m)
unfolding pair_entry
entry-first m j =
    let even : 2 * j % 2 ≡ 0 = omega arith in
    let half : 2 * j / 2 ≡ j = omega arith in
    rw (even, half) refl

entry-second : (m j : ℕ) → pair_entry m (2 * j + 1) ≡ other_entry m j
unfolding pair_entry
entry-second m j =
    let odd : (2 * j + 1) % 2 ≡ 1 = omega arith in
    let half : (2 * j + 1) / 2 ≡ j = omega arith in
    rw (odd, half) refl

first_term : (ℕ → ℤ) → ℕ → ℕ → ℤ
first_term newest j m = window_at (16 + j + 64 * m) *ℤ newest (16 + j + 64 * m)

second_term : (ℕ → ℤ) → ℕ → ℕ → ℤ
second_term newest j m = other_entry m j *ℤ newest (other_column j + 64 * m)

tap_terms : (newest : ℕ → ℤ) (rows : ℕ → List ℤ) (j m : ℕ) → j < 32 → IsTap newest m (rows m) → whole rows j m ≡ first_term newest j m +ℤ second_term newest j m
unfolding pair_sum first_term second_term
tap_terms newest rows j m lt tap =
    ap (λ z. z *ℤ entry (rows m) (2 * j) +ℤ pair_entry m (2 * j + 1) *ℤ entry (rows m) (2 * j + 1)) (entry-first m j)
    ∙ (ap (λ z. window_at (16 + j + 64 * m) *ℤ z +ℤ pair_entry m (2 * j + 1) *ℤ entry (rows m) (2 * j + 1)) (tap.first j lt)
    ∙ (ap (λ z. window_at (16 + j + 64 * m) *ℤ newest (16 + j + 64 * m) +ℤ z *ℤ entry (rows m) (2 * j + 1)) (entry-second m j)
    ∙ ap (λ z. window_at (16 + j + 64 * m) *ℤ newest (16 + j + 64 * m) +ℤ other_entry m j *ℤ z) (tap.second j lt)))

first_sum : (newest : ℕ → ℤ) (j : ℕ) → sum_below 8 (first_term newest j) ≡ column_sum newest (16 + j)
unfolding first_term column_sum
first_sum newest j = refl

none_sum : (newest : ℕ → ℤ) → sum_below 8 (second_term newest 0) ≡ pos 0
unfolding second_term sum_below
none_sum newest = omega (arith, ints, zero-*ℤ (newest (48 + 64 * 0)), zero-*ℤ (newest (48 + 64 * 1)), zero-*ℤ (newest (48 + 64 * 2)), zero-*ℤ (newest (48 + 64 * 3)), zero-*ℤ (newest (48 + 64 * 4)), zero-*ℤ (newest (48 + 64 * 5)), zero-*ℤ (newest (48 + 64 * 6)), zero-*ℤ (newest (48 + 64 * 7)))

column-low : (j : ℕ) → 1 ≤ j → j ≤ 16 → other_column j ≡ 16 - j
column-low j from to = grind (arith, nat_tests)

column-high : (j : ℕ) → 17 ≤ j → other_column j ≡ 80 - j
column-high j from = grind (arith, nat_tests)

entry-low : (m j : ℕ) → 1 ≤ j → j ≤ 16 → other_entry m j ≡ window_at (16 - j + 64 * m)
entry-low m j from to = grind (arith, nat_tests)

entry-high : (m j : ℕ) → 17 ≤ j → other_entry m j ≡ neg_ℤ (window_at (80 - j + 64 * m))
entry-high m j from = grind (arith, nat_tests)

low_sum : (newest : ℕ → ℤ) (j : ℕ) → 1 ≤ j → j ≤ 16 → sum_below 8 (second_term newest j) ≡ column_sum newest (16 - j)
unfolding second_term column_sum
low_sum newest j from to = sum_below-same 8 _ _ (λ m lt.
    ap (λ z. z *ℤ newest (other_column j + 64 * m)) (entry-low m j from to) ∙ ap (λ c. window_at (16 - j + 64 * m) *ℤ newest (c + 64 * m)) (column-low j from to))

high_sum : (newest : ℕ → ℤ) (j : ℕ) → 17 ≤ j → sum_below 8 (second_term newest j) ≡ neg_ℤ (column_sum newest (80 - j))
unfolding second_term column_sum
high_sum newest j from =
    sum_below-same 8 _ (λ m. neg_ℤ (window_at (80 - j + 64 * m) *ℤ newest (80 - j + 64 * m))) (λ m lt.
    ap (λ z. z *ℤ newest (other_column j + 64 * m)) (entry-high m j from)
    ∙ (ap (λ c. neg_ℤ (window_at (80 - j + 64 * m)) *ℤ newest (c + 64 * m)) (column-high j from)
    ∙ neg_times (window_at (80 - j + 64 * m)) (newest (80 - j + 64 * m))))
    ∙ sum_below-neg 8 (λ m. window_at (80 - j + 64 * m) *ℤ newest (80 - j + 64 * m))

folded : (newest : ℕ → ℤ) (j : ℕ) → column_sum newest (16 + j) +ℤ sum_below 8 (second_term newest j) ≡ folded_column (column_sum newest) j
folded newest zero =
    let none : sum_below 8 (second_term newest 0) ≡ pos 0 = none_sum newest in
    let first : folded_column (column_sum newest) 0 ≡ column_sum newest 16 = at_first (column_sum newest) in
    omega (arith, ints)
folded newest (suc j) =
    elim (cases_lt j 16) [
      | inl under ↦
          let other : sum_below 8 (second_term newest (suc j)) ≡ column_sum newest (16 - suc j) = low_sum newest (suc j) (omega arith) (omega arith) in
          ap (λ z. column_sum newest (16 + suc j) +ℤ z) other ∙ sym (at_low (column_sum newest) (suc j) (omega arith) (omega arith))
      | inr above ↦
          let other : sum_below 8 (second_term newest (suc j)) ≡ neg_ℤ (column_sum newest (80 - suc j)) = high_sum newest (suc j) (omega arith) in
          let is : folded_column (column_sum newest) (suc j) ≡ column_sum newest (16 + suc j) -ℤ column_sum newest (80 - suc j) = at_high (column_sum newest) (suc j) (omega arith) in
          omega (arith, ints)
    ]

-- all eight taps of a folded column
pub taps_are : (newest : ℕ → ℤ) (rows : ℕ → List ℤ) (j : ℕ) → j < 32 → ((m : ℕ) → m < 8 → IsTap newest m (rows m)) →
    pos 512 *ℤ (high rows j 3 +ℤ high rows j 4) +ℤ sum_below 8 (low rows j) ≡ folded_column (column_sum newest) j
taps_are newest rows j lt taps =
    parts_join rows j
    ∙ (sum_below-same 8 (whole rows j) (λ m. first_term newest j m +ℤ second_term newest j m) (λ m low. tap_terms newest rows j m lt (taps m low))
    ∙ (sum_below-add 8 (first_term newest j) (second_term newest j)
    ∙ (ap (λ z. z +ℤ sum_below 8 (second_term newest j)) (first_sum newest j)
    ∙ folded newest j)))

-- every sample stands in some row
pub sample_small : (newest : ℕ → ℤ) (row : List ℤ) (m c : ℕ) → c < 64 → IsTap newest m row → ((n : ℕ) → n < 64 → unsigned_abs (entry row n) ≤ 32768) → unsigned_abs (newest (c + 64 * m)) ≤ 32768
sample_small newest row m c lt tap small =
    elim (cases_lt c 16) [
      | inl low ↦
          let place : other_column (16 - c) ≡ c = column-low (16 - c) (omega arith) (omega arith) ∙ omega arith in
          within_same 32768 _ _ (ap (λ k. newest (k + 64 * m)) (sym place) ∙ sym (tap.second (16 - c) (omega arith))) (small (2 * (16 - c) + 1) (omega arith))
      | inr above ↦ elim (cases_lt c 48) [
        | inl middle ↦
            let place : 16 + (c - 16) ≡ c = omega arith in
            within_same 32768 _ _ (ap (λ k. newest (k + 64 * m)) (sym place) ∙ sym (tap.first (c - 16) (omega arith))) (small (2 * (c - 16)) (omega arith))
        | inr high ↦ elim (cases_lt c 49) [
          | inl only ↦
              let place : other_column 0 ≡ c = omega arith in
              within_same 32768 _ _ (ap (λ k. newest (k + 64 * m)) (sym place) ∙ sym (tap.second 0 (omega arith))) (small (2 * 0 + 1) (omega arith))
          | inr rest ↦
              let place : other_column (80 - c) ≡ c = column-high (80 - c) (omega arith) ∙ omega arith in
              within_same 32768 _ _ (ap (λ k. newest (k + 64 * m)) (sym place) ∙ sym (tap.second (80 - c) (omega arith))) (small (2 * (80 - c) + 1) (omega arith))
        ]
      ]
    ]
