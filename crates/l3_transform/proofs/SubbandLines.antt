-- Lines set one after the other.
use Rattle.std.proofs.Common.{◌≡◌, inl, inr, ℕ, ◌+◌, ◌-◌, ◌*◌, ◌/◌, ◌%◌, ◌<◌, List, ℤ, pos, ◌+ℤ◌, ◌*ℤ◌, arith, sym, ap, ◌∙◌}
use Rattle.std.proofs.lemmas.Bool.{cases_lt}
use Rattle.l3_base.specs.Slots.{slot_in}
use Rattle.l3_base.specs.Lists.{entry}
use Rattle.l3_base.specs.Sums.{floor_div}
use Rattle.l3_base.proofs.SumLemmas.{sum_below-same}
use Rattle.l3_transform.specs.Spectrum.{windowed, line_cosine, line_from, line_before}

pub line_from-same : (f g : ℕ → ℤ) (m : ℕ) → ((k : ℕ) → k < 36 → f k ≡ g k) → line_from f m ≡ line_from g m
unfolding line_from
line_from-same f g m h = ap (λ s. floor_div (pos 2 *ℤ s +ℤ pos 294912) 589824) (sum_below-same 36 _ _ (λ k lt. ap (λ y. y *ℤ line_cosine m k) (h k lt)))

-- line m of a subband is line 18 band + m
pub line_of_band : (slots : List (List ℤ)) (band m : ℕ) → m < 18 → line_from (windowed (slot_in slots band)) m ≡ line_before slots (18 * band + m)
unfolding line_before
line_of_band slots band m lt =
    let subband : (18 * band + m) / 18 ≡ band = omega arith in
    let place : (18 * band + m) % 18 ≡ m = omega arith in
    sym (ap (λ i. line_from (windowed (slot_in slots i)) ((18 * band + m) % 18)) subband ∙ ap (line_from (windowed (slot_in slots band))) place)

-- one more subband
pub bands_more : (old new : List ℤ) (band : ℕ) (f g : ℕ → ℤ) → ((n : ℕ) → n < 18 * band → entry old n ≡ g n) → ((n : ℕ) → n < 18 * band → entry new n ≡ entry old n) → ((m : ℕ) → m < 18 → entry new (18 * band + m) ≡ f m) → ((m : ℕ) → m < 18 → f m ≡ g (18 * band + m)) → (n : ℕ) → n < 18 * (band + 1) → entry new n ≡ g n
bands_more old new band f g before kept lines same n lt =
    elim (cases_lt n (18 * band)) [
      | inl low ↦ kept n low ∙ before n low
      | inr high ↦ let place : n ≡ 18 * band + (n - 18 * band) = omega arith in
          ap (entry new) place ∙ (lines (n - 18 * band) (omega arith) ∙ (same (n - 18 * band) (omega arith) ∙ sym (ap g place)))
    ]
