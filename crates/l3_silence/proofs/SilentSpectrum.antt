-- The spectra of zeros are 0.
use Rattle.std.proofs.Common.{◌≡◌, refl, ap, ◌∙◌, ℕ, zero, suc, ◌+◌, ◌-◌, ◌*◌, ◌/◌, ◌%◌, ◌^◌, Bool, true, false, List, [], ◌∷◌, replicate, arith, if◌then◌else◌}
use Rattle.std.specs.Prelude.{ℤ, pos, negsuc, ◌+ℤ◌, ◌-ℤ◌, ◌*ℤ◌, neg_ℤ, All, ◌&&◌, ◌==◌}
use Rattle.std.proofs.lemmas.Int.{ints}
use Rattle.std.proofs.lemmas.List.Elements.{All-nil, All-cons, All-head, All-tail}
use lib.IntN.{*ℤ-zero, zero-*ℤ}
use Rattle.l3_base.specs.Slots.{subband_in, slot_in}
use Rattle.l3_base.specs.Lists.{entry, tabulate}
use Rattle.l3_base.specs.Sums.{sum_below, floor_div}
use Rattle.l3_base.specs.Window.{window_at}
use Rattle.l3_base.specs.Cosines.{cosine64, cosine72}
use Rattle.l3_base.specs.Steps.{cs_at, ca_at}
use Rattle.l3_base.specs.Filterbank.{sample_at, window_of, column_sum, subband_sum, slot_sum, window_slot, turned_slot, slots_of}
use Rattle.l3_transform.specs.Spectrum.{windowed, line_cosine, line_from, line_before, lower_end, upper_end, is_lower, is_upper, line_after, lines_of, spectrum_of_granule}
use Rattle.l3_stream.specs.Units.{zero_lines}
use Rattle.l3_silence.specs.Silent.{AreZero}

-- ---- lists and sums

entry-zero : (p : List ℤ) (n : ℕ) → AreZero p → entry p n ≡ pos 0
entry-zero [] n all = refl
entry-zero (x ∷ xs) zero all = All-head (λ x. x ≡ pos 0) x xs all
entry-zero (x ∷ xs) (suc n) all = entry-zero xs n (All-tail (λ x. x ≡ pos 0) x xs all)

all-tabulated : {A : Type 0} (P : A → Type 0) (n : ℕ) (f : ℕ → A) → ((i : ℕ) → P (f i)) → All P (tabulate n f)
unfolding tabulate
all-tabulated P zero f h = All-nil P
all-tabulated P (suc n) f h = All-cons P (f 0) (tabulate n (λ i. f (suc i))) (h 0) (all-tabulated P n (λ i. f (suc i)) (λ i. h (suc i)))

tabulated-zero : (n : ℕ) (f : ℕ → ℤ) → ((i : ℕ) → f i ≡ pos 0) → tabulate n f ≡ replicate n (pos 0)
unfolding tabulate
tabulated-zero zero f h = refl
tabulated-zero (suc n) f h =
    let rest : tabulate n (λ i. f (suc i)) ≡ replicate n (pos 0) = tabulated-zero n (λ i. f (suc i)) (λ i. h (suc i)) in
    let here : f 0 ≡ pos 0 = h 0 in
    cc

sum-zero : (n : ℕ) (f : ℕ → ℤ) → ((i : ℕ) → f i ≡ pos 0) → sum_below n f ≡ pos 0
unfolding sum_below
sum-zero zero f h = refl
sum-zero (suc n) f h = let before = sum-zero n f h in let here = h n in omega (arith, ints, before, here)

-- a product with 0
left-zero : (a c : ℤ) → a ≡ pos 0 → a *ℤ c ≡ pos 0
left-zero a c e = ap (λ z. z *ℤ c) e ∙ zero-*ℤ c

right-zero : (c a : ℤ) → a ≡ pos 0 → c *ℤ a ≡ pos 0
right-zero c a e = ap (λ z. c *ℤ z) e ∙ *ℤ-zero c

-- ---- the slots

sample-zero : (p : List ℤ) (z : ℤ) → AreZero p → sample_at p z ≡ pos 0
sample-zero p (pos n) all = entry-zero p n all
sample-zero p (negsuc n) all = refl

window-zero : (p : List ℤ) (g : ℕ) → AreZero p → AreZero (window_of p g)
unfolding window_of
window-zero p g all = all-tabulated (λ x. x ≡ pos 0) 1632 _ (λ n. sample-zero p (pos (576 * g + n) -ℤ pos 1056) all)

column-zero : (newest : ℕ → ℤ) (k : ℕ) → ((n : ℕ) → newest n ≡ pos 0) → column_sum newest k ≡ pos 0
unfolding column_sum
column-zero newest k h = sum-zero 8 _ (λ j. right-zero (window_at (k + 64 * j)) (newest (k + 64 * j)) (h (k + 64 * j)))

subband-zero : (column : ℕ → ℤ) (i : ℕ) → ((k : ℕ) → column k ≡ pos 0) → subband_sum column i ≡ pos 0
unfolding subband_sum
subband-zero column i h = sum-zero 64 _ (λ k. right-zero (cosine64 (pos (2 * i + 1) *ℤ (pos k -ℤ pos 16))) (column k) (h k))

slot-zero : (newest : ℕ → ℤ) (i : ℕ) → ((n : ℕ) → newest n ≡ pos 0) → slot_sum newest i ≡ pos 0
unfolding slot_sum
slot-zero newest i h = ap (λ z. floor_div (z +ℤ pos (2 ^ 26)) (2 ^ 27)) (subband-zero (column_sum newest) i (λ k. column-zero newest k h))

either-zero : (b : Bool) (x : ℤ) → x ≡ pos 0 → (if b then neg_ℤ x else x) ≡ pos 0
either-zero true x e = ap neg_ℤ e
either-zero false x e = e

turned-zero : (window : List ℤ) (i k : ℕ) → AreZero window → turned_slot window i k ≡ pos 0
unfolding turned_slot window_slot
turned-zero window i k all = either-zero (((i % 2) == 1) && ((k % 2) == 1)) (window_slot window i k) (slot-zero _ i (λ n. entry-zero window (32 * k + 511 - n) all))

slots-zero : (window : List ℤ) → AreZero window → All AreZero (slots_of window)
unfolding slots_of
slots-zero window all = all-tabulated AreZero 32 _ (λ i. all-tabulated (λ x. x ≡ pos 0) 36 _ (λ k. turned-zero window i k all))

subband_in-zero : (bands : List (List ℤ)) (i : ℕ) → All AreZero bands → AreZero (subband_in bands i)
subband_in-zero [] i all = All-nil (λ x. x ≡ pos 0)
subband_in-zero (b ∷ bands) zero all = All-head AreZero b bands all
subband_in-zero (b ∷ bands) (suc i) all = subband_in-zero bands i (All-tail AreZero b bands all)

slot_in-zero : (bands : List (List ℤ)) (i k : ℕ) → All AreZero bands → slot_in bands i k ≡ pos 0
slot_in-zero bands i k all = entry-zero (subband_in bands i) k (subband_in-zero bands i all)

-- ---- the lines

windowed-zero : (slot : ℕ → ℤ) (k : ℕ) → ((i : ℕ) → slot i ≡ pos 0) → windowed slot k ≡ pos 0
unfolding windowed
windowed-zero slot k h = ap (λ z. floor_div (z +ℤ pos (2 ^ 14)) (2 ^ 15)) (left-zero (slot k) (cosine72 (pos 35 -ℤ pos (2 * k))) (h k))

line_from-zero : (z : ℕ → ℤ) (m : ℕ) → ((k : ℕ) → z k ≡ pos 0) → line_from z m ≡ pos 0
unfolding line_from
line_from-zero z m h = ap (λ s. floor_div (pos 2 *ℤ s +ℤ pos (9 * 2 ^ 15)) (18 * 2 ^ 15)) (sum-zero 36 _ (λ k. left-zero (z k) (line_cosine m k) (h k)))

line_before-zero : (bands : List (List ℤ)) (n : ℕ) → All AreZero bands → line_before bands n ≡ pos 0
unfolding line_before
line_before-zero bands n all = line_from-zero (windowed (slot_in bands (n / 18))) (n % 18) (λ k. windowed-zero (slot_in bands (n / 18)) k (λ i. slot_in-zero bands (n / 18) i all))

lower-zero : (k : ℕ) (a b : ℤ) → a ≡ pos 0 → b ≡ pos 0 → lower_end k a b ≡ pos 0
unfolding lower_end
lower-zero k a b e f =
    ap (λ z. floor_div (z +ℤ b *ℤ ca_at k +ℤ pos (2 ^ 14)) (2 ^ 15)) (left-zero a (cs_at k) e)
    ∙ ap (λ z. floor_div (pos 0 +ℤ z +ℤ pos (2 ^ 14)) (2 ^ 15)) (left-zero b (ca_at k) f)

upper-zero : (k : ℕ) (a b : ℤ) → a ≡ pos 0 → b ≡ pos 0 → upper_end k a b ≡ pos 0
unfolding upper_end
upper-zero k a b e f =
    ap (λ z. floor_div (z -ℤ a *ℤ ca_at k +ℤ pos (2 ^ 14)) (2 ^ 15)) (left-zero b (cs_at k) f)
    ∙ ap (λ z. floor_div (pos 0 -ℤ z +ℤ pos (2 ^ 14)) (2 ^ 15)) (left-zero a (ca_at k) e)

one_of-zero : (a b : Bool) (x y z : ℤ) → x ≡ pos 0 → y ≡ pos 0 → z ≡ pos 0 → (if a then x else (if b then y else z)) ≡ pos 0
one_of-zero true b x y z e f g = e
one_of-zero false true x y z e f g = f
one_of-zero false false x y z e f g = g

line_after-zero : (line : ℕ → ℤ) (n : ℕ) → ((m : ℕ) → line m ≡ pos 0) → line_after line n ≡ pos 0
unfolding line_after
line_after-zero line n h =
    let k = n % 18 in
    one_of-zero (is_lower n) (is_upper n) (lower_end (17 - k) (line n) (line (n + 1 + 2 * (17 - k)))) (upper_end k (line (n - 1 - 2 * k)) (line n)) (line n)
    (lower-zero (17 - k) (line n) (line (n + 1 + 2 * (17 - k))) (h n) (h (n + 1 + 2 * (17 - k))))
    (upper-zero k (line (n - 1 - 2 * k)) (line n) (h (n - 1 - 2 * k)) (h n))
    (h n)

lines-zero : (bands : List (List ℤ)) → All AreZero bands → lines_of bands ≡ zero_lines 576
unfolding lines_of zero_lines
lines-zero bands all = tabulated-zero 576 (line_after (line_before bands)) (λ n. line_after-zero (line_before bands) n (λ m. line_before-zero bands m all))

-- the spectrum of zeros
pub spectrum-zero : (p : List ℤ) (g : ℕ) → AreZero p → spectrum_of_granule p g ≡ zero_lines 576
spectrum-zero p g all = lines-zero _ (slots-zero (window_of p g) (window-zero p g all))
