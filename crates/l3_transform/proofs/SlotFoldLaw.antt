-- The sum of a line's 36 terms is that of the 18 folded ones.
use Rattle.std.proofs.Common.{◌≡◌, ℕ, zero, suc, ◌+◌, ◌-◌, ◌*◌, ◌<◌, ◌≤◌, ℤ, pos, ◌+ℤ◌, ◌-ℤ◌, ◌*ℤ◌, neg_ℤ, arith, sym, ap, ◌∙◌, add-zero, inl, inr}
use Rattle.std.proofs.lemmas.Bool.{cases_lt}
use Rattle.std.proofs.lemmas.Bool.Decides.{nat_tests}
use Rattle.std.proofs.lemmas.Int.{ints}
use Rattle.std.proofs.Math.IntN.{+ℤ_idr, *ℤ-zero}
use Rattle.std.specs.Prelude.{unsigned_abs}
use Rattle.l3_base.specs.Sums.{sum_below, floor_div}
use Rattle.l3_base.proofs.Entries.{within_same}
use Rattle.l3_base.proofs.SumLemmas.{sum_below-same, sum_below-split, sum_below-add, add_times, times_add, abs_add}
use Rattle.l3_transform.specs.Spectrum.{line_cosine, line_from}
use Rattle.l3_transform.specs.SlotFold.{folded_slot, folded_cosine, folded_slots_sum}
use Rattle.l3_transform.proofs.Bounds.{abs_sub}
use Rattle.l3_transform.proofs.CosineLemmas.{first_half, second_half}

pub folded-low : (z : ℕ → ℤ) (k : ℕ) → k < 9 → folded_slot z k ≡ z k -ℤ z (17 - k)
unfolding folded_slot
folded-low z k lt = grind (arith, nat_tests)

pub folded-high : (z : ℕ → ℤ) (k : ℕ) → 9 ≤ k → folded_slot z k ≡ z (9 + k) +ℤ z (44 - k)
unfolding folded_slot
folded-high z k le = grind (arith, nat_tests)

folded_cosine-low : (m k : ℕ) → k < 9 → folded_cosine m k ≡ line_cosine m k
unfolding folded_cosine
folded_cosine-low m k lt = grind (arith, nat_tests)

folded_cosine-high : (m k : ℕ) → folded_cosine m (9 + k) ≡ line_cosine m (18 + k)
unfolding folded_cosine
folded_cosine-high m k = grind (arith, nat_tests)

-- the first m terms, then n more from the last one down
backwards : (m n : ℕ) (f : ℕ → ℤ) → sum_below (m + n) f ≡ sum_below m f +ℤ sum_below n (λ j. f (m + n - 1 - j))
unfolding sum_below
backwards m zero f = rw add-zero (sym (+ℤ_idr (sum_below m f)))
backwards m (suc n) f =
    let place : m + suc n ≡ suc m + n = omega arith in
    let before : sum_below (suc m + n) f ≡ sum_below m f +ℤ f m +ℤ sum_below n (λ j. f (suc m + n - 1 - j)) = backwards (suc m) n f in
    let same : sum_below n (λ j. f (suc m + n - 1 - j)) ≡ sum_below n (λ j. f (m + suc n - 1 - j)) = sum_below-same n _ _ (λ j lt. ap f (omega arith)) in
    let last : f (m + suc n - 1 - n) ≡ f m = ap f (omega arith) in
    ap (λ x. sum_below x f) place ∙ omega (arith, ints)

-- the 36 terms by the places of the fold
four_parts : (f : ℕ → ℤ) → sum_below 36 f ≡ sum_below 9 f +ℤ sum_below 9 (λ j. f (17 - j)) +ℤ (sum_below 9 (λ j. f (18 + j)) +ℤ sum_below 9 (λ j. f (35 - j)))
four_parts f =
    let last : sum_below 36 f ≡ sum_below 27 f +ℤ sum_below 9 (λ j. f (35 - j)) = backwards 27 9 f in
    let third : sum_below 27 f ≡ sum_below 18 f +ℤ sum_below 9 (λ j. f (18 + j)) = sum_below-split 18 9 f in
    let second : sum_below 18 f ≡ sum_below 9 f +ℤ sum_below 9 (λ j. f (17 - j)) = backwards 9 9 f in
    omega (arith, ints)

difference_times : (a b c d : ℤ) → d ≡ neg_ℤ c → (a -ℤ b) *ℤ c ≡ a *ℤ c +ℤ b *ℤ d
difference_times a b c d e =
    let whole : (a -ℤ b +ℤ b) *ℤ c ≡ a *ℤ c = ap (λ x. x *ℤ c) (omega (arith, ints)) in
    let none : b *ℤ (c +ℤ d) ≡ pos 0 = ap (λ x. b *ℤ x) (omega (arith, ints)) ∙ *ℤ-zero b in
    omega (arith, ints, whole, none, add_times (a -ℤ b) b c, times_add b c d)

abbrev term : (ℕ → ℤ) → ℕ → ℕ → ℤ
term z m k = z k *ℤ line_cosine m k

abbrev folded_term : (ℕ → ℤ) → ℕ → ℕ → ℤ
folded_term f m k = f k *ℤ folded_cosine m k

low_term : (z : ℕ → ℤ) (m k : ℕ) → m < 18 → k < 9 → folded_term (folded_slot z) m k ≡ term z m k +ℤ term z m (17 - k)
low_term z m k line lt =
    ap (λ x. x *ℤ folded_cosine m k) (folded-low z k lt)
    ∙ (ap (λ x. (z k -ℤ z (17 - k)) *ℤ x) (folded_cosine-low m k lt)
    ∙ difference_times (z k) (z (17 - k)) (line_cosine m k) (line_cosine m (17 - k)) (first_half m k line (omega arith)))

high_term : (z : ℕ → ℤ) (m k : ℕ) → m < 18 → k < 9 → folded_term (folded_slot z) m (9 + k) ≡ term z m (18 + k) +ℤ term z m (35 - k)
high_term z m k line lt =
    let first : 9 + (9 + k) ≡ 18 + k = omega arith in
    let second : 44 - (9 + k) ≡ 35 - k = omega arith in
    let value : folded_slot z (9 + k) ≡ z (18 + k) +ℤ z (35 - k) = rw (first, second) at (folded-high z (9 + k) (omega arith)) in
    ap (λ x. x *ℤ folded_cosine m (9 + k)) value
    ∙ (ap (λ x. (z (18 + k) +ℤ z (35 - k)) *ℤ x) (folded_cosine-high m k)
    ∙ (add_times (z (18 + k)) (z (35 - k)) (line_cosine m (18 + k))
    ∙ ap (λ x. term z m (18 + k) +ℤ z (35 - k) *ℤ x) (sym (second_half m k line (omega arith)))))

pub fold_is : (z : ℕ → ℤ) (m : ℕ) → m < 18 → folded_slots_sum (folded_slot z) m ≡ sum_below 36 (λ k. z k *ℤ line_cosine m k)
unfolding folded_slots_sum
fold_is z m line =
    let halves : sum_below 18 (folded_term (folded_slot z) m) ≡ sum_below 9 (folded_term (folded_slot z) m) +ℤ sum_below 9 (λ j. folded_term (folded_slot z) m (9 + j)) = sum_below-split 9 9 (folded_term (folded_slot z) m) in
    let low : sum_below 9 (folded_term (folded_slot z) m) ≡ sum_below 9 (term z m) +ℤ sum_below 9 (λ j. term z m (17 - j)) =
    sum_below-same 9 _ _ (λ j lt. low_term z m j line lt) ∙ sum_below-add 9 (term z m) (λ j. term z m (17 - j)) in
    let high : sum_below 9 (λ j. folded_term (folded_slot z) m (9 + j)) ≡ sum_below 9 (λ j. term z m (18 + j)) +ℤ sum_below 9 (λ j. term z m (35 - j)) =
    sum_below-same 9 _ _ (λ j lt. high_term z m j line lt) ∙ sum_below-add 9 (λ j. term z m (18 + j)) (λ j. term z m (35 - j)) in
    halves ∙ (ap (λ x. x +ℤ sum_below 9 (λ j. folded_term (folded_slot z) m (9 + j))) low
    ∙ (ap (λ x. sum_below 9 (term z m) +ℤ sum_below 9 (λ j. term z m (17 - j)) +ℤ x) high ∙ sym (four_parts (term z m))))

-- the sum of slots that are folded
pub sum_of_fold : (f z : ℕ → ℤ) (m : ℕ) → m < 18 → ((k : ℕ) → k < 18 → f k ≡ folded_slot z k) → folded_slots_sum f m ≡ sum_below 36 (λ k. z k *ℤ line_cosine m k)
unfolding folded_slots_sum
sum_of_fold f z m line h = sum_below-same 18 _ _ (λ k lt. ap (λ x. x *ℤ folded_cosine m k) (h k lt)) ∙ fold_is z m line

-- a line out of slots that are folded
pub line_of_fold : (f z : ℕ → ℤ) (m : ℕ) → m < 18 → ((k : ℕ) → k < 18 → f k ≡ folded_slot z k) → floor_div (pos 2 *ℤ folded_slots_sum f m +ℤ pos 294912) 589824 ≡ line_from z m
unfolding line_from
line_of_fold f z m line h = ap (λ s. floor_div (pos 2 *ℤ s +ℤ pos 294912) 589824) (sum_of_fold f z m line h)

pub folded_small : (z : ℕ → ℤ) (k bound : ℕ) → k < 18 → ((k : ℕ) → k < 36 → unsigned_abs (z k) ≤ bound) → unsigned_abs (folded_slot z k) ≤ 2 * bound
folded_small z k bound lt small =
    elim (cases_lt k 9) [
      | inl low ↦ within_same (2 * bound) _ _ (folded-low z k low) (omega (arith, abs_sub (z k) (z (17 - k)), small k (omega arith), small (17 - k) (omega arith)))
      | inr high ↦ within_same (2 * bound) _ _ (folded-high z k (omega arith)) (omega (arith, abs_add (z (9 + k)) (z (44 - k)), small (9 + k) (omega arith), small (44 - k) (omega arith)))
    ]
