-- The size of a slot, and the slots of a granule's window.
use Rattle.std.proofs.Common.{◌≡◌, ℕ, zero, suc, ◌+◌, ◌-◌, ◌*◌, ◌^◌, ◌<◌, ◌≤◌, List, [], ◌∷◌, ℤ, pos, negsuc, ◌+ℤ◌, ◌-ℤ◌, ◌*ℤ◌, arith, refl, ap, ◌∙◌}
use Rattle.std.proofs.lemmas.Int.{ints, unsigned_abs-mul}
use Rattle.std.proofs.lemmas.List.Elements.{All-head, All-tail}
use Rattle.std.proofs.Math.Nat.{mul-le-mul}
use Rattle.std.specs.Prelude.{unsigned_abs, All}
use Rattle.l3_base.specs.Lists.{entry}
use Rattle.l3_base.specs.Sums.{size_below, floor_div, IsWithin}
use Rattle.l3_base.specs.Window.{window_at}
use Rattle.l3_base.specs.Cosines.{cosine64}
use Rattle.l3_base.specs.Filterbank.{sample_at, window_of, column_sum, subband_sum, slot_sum, slot_of, window_slot, SlotsOfWindow, SlotIsBounded}
use Rattle.l3_base.proofs.ListLemmas.{get_or-tabulate}
use Rattle.l3_base.proofs.SumLemmas.{sum_below-same, abs-sum_below, size_below-scale}
use Rattle.l3_base.proofs.FloorLemmas.{floor_div_small}
use Rattle.l3_base.proofs.Circles.{cosine64_small}

-- the sizes of the window's entries in column k
unfoldable pub column_size : ℕ → ℕ
column_size k = size_below 8 (λ j. window_at (k + 64 * j))

columns_size : size_below 64 (λ k. pos (column_size k)) ≡ 5574752
unfolding size_below column_size window_at
columns_size = refl

-- samples within 2^15, as far as a slot reaches
pub record AreSamples (newest : ℕ → ℤ) : Type 0 where
  pub small : (n : ℕ) → n < 512 → unsigned_abs (newest n) ≤ 32768

product_small : (a b : ℤ) (m n : ℕ) → unsigned_abs a ≤ m → unsigned_abs b ≤ n → unsigned_abs (a *ℤ b) ≤ m * n
product_small a b m n left right = rw (unsigned_abs-mul a b) (mul-le-mul left right)

pub column_sum_small : (newest : ℕ → ℤ) (k : ℕ) → AreSamples newest → k < 64 → unsigned_abs (column_sum newest k) ≤ 32768 * column_size k
unfolding column_sum column_size
column_sum_small newest k samples lt =
    let terms = size_below-scale 8 32768 (λ j. window_at (k + 64 * j) *ℤ newest (k + 64 * j)) (λ j. window_at (k + 64 * j)) (λ j below.
    let size : unsigned_abs (window_at (k + 64 * j) *ℤ newest (k + 64 * j)) ≤ unsigned_abs (window_at (k + 64 * j)) * 32768 =
    product_small (window_at (k + 64 * j)) (newest (k + 64 * j)) (unsigned_abs (window_at (k + 64 * j))) 32768 (omega arith) (samples.small (k + 64 * j) (omega arith)) in
    omega arith) in
    omega (arith, terms, abs-sum_below 8 (λ j. window_at (k + 64 * j) *ℤ newest (k + 64 * j)))

pub subband_sum_small : (newest : ℕ → ℤ) (i : ℕ) → AreSamples newest → unsigned_abs (subband_sum (column_sum newest) i) ≤ 2 ^ 30 * 5574752
unfolding subband_sum
subband_sum_small newest i samples =
    let terms = size_below-scale 64 (2 ^ 30) (λ k. cosine64 (pos (2 * i + 1) *ℤ (pos k -ℤ pos 16)) *ℤ column_sum newest k) (λ k. pos (column_size k)) (λ k below.
    let size : unsigned_abs (cosine64 (pos (2 * i + 1) *ℤ (pos k -ℤ pos 16)) *ℤ column_sum newest k) ≤ 32768 * (32768 * column_size k) =
    product_small _ (column_sum newest k) 32768 (32768 * column_size k) (cosine64_small (pos (2 * i + 1) *ℤ (pos k -ℤ pos 16))) (column_sum_small newest k samples below) in
    omega arith) in
    omega (arith, columns_size, terms, abs-sum_below 64 (λ k. cosine64 (pos (2 * i + 1) *ℤ (pos k -ℤ pos 16)) *ℤ column_sum newest k))

pub slot_sum_small : (newest : ℕ → ℤ) (i : ℕ) → AreSamples newest → unsigned_abs (slot_sum newest i) ≤ 44598016
unfolding slot_sum
slot_sum_small newest i samples = floor_div_small _ (subband_sum (column_sum newest) i) 67108864 134217728 44598016 refl (omega arith) (subband_sum_small newest i samples)

pub subband_sum-same : (f g : ℕ → ℤ) (i : ℕ) → ((k : ℕ) → k < 64 → f k ≡ g k) → subband_sum f i ≡ subband_sum g i
unfolding subband_sum
subband_sum-same f g i h = sum_below-same 64 _ _ (λ k below. ap (λ z. cosine64 (pos (2 * i + 1) *ℤ (pos k -ℤ pos 16)) *ℤ z) (h k below))

pub column_sum-same : (f g : ℕ → ℤ) (k : ℕ) → k < 64 → ((n : ℕ) → n < 512 → f n ≡ g n) → column_sum f k ≡ column_sum g k
unfolding column_sum
column_sum-same f g k below h = sum_below-same 8 _ _ (λ j lt. ap (λ z. window_at (k + 64 * j) *ℤ z) (h (k + 64 * j) (omega arith)))

-- a slot depends on its 512 samples alone
pub slot_sum-same : (f g : ℕ → ℤ) (i : ℕ) → ((n : ℕ) → n < 512 → f n ≡ g n) → slot_sum f i ≡ slot_sum g i
unfolding slot_sum
slot_sum-same f g i h =
    ap (λ z. floor_div (z +ℤ pos 67108864) 134217728) (subband_sum-same (column_sum f) (column_sum g) i (λ k below. column_sum-same f g k below h))

-- the same place of a sample, seen from the window and from the slot
place_is : (g k n : ℕ) → k < 36 → n < 512 → pos (576 * g + (32 * k + 511 - n)) -ℤ pos 1056 ≡ pos 32 *ℤ (pos (18 * g + k) -ℤ pos 18) +ℤ pos 31 -ℤ pos n
place_is g k n in_window in_slot = omega (arith, ints)

pub slots_of_window : SlotsOfWindow
unfolding window_slot slot_of window_of
slots_of_window p g i k lt = slot_sum-same _ _ i (λ n below.
    get_or-tabulate 1632 (32 * k + 511 - n) (λ m. sample_at p (pos (576 * g + m) -ℤ pos 1056)) (pos 0) (omega arith)
    ∙ ap (sample_at p) (place_is g k n lt below))

entry_small : (p : List ℤ) (n : ℕ) → All (IsWithin 32768) p → unsigned_abs (entry p n) ≤ 32768
entry_small [] n all = omega arith
entry_small (x ∷ xs) zero all = All-head (IsWithin 32768) x xs all
entry_small (x ∷ xs) (suc n) all = entry_small xs n (All-tail (IsWithin 32768) x xs all)

sample_small : (p : List ℤ) (z : ℤ) → All (IsWithin 32768) p → unsigned_abs (sample_at p z) ≤ 32768
sample_small p (pos n) all = entry_small p n all
sample_small p (negsuc n) all = omega arith

pub slot_is_bounded : SlotIsBounded
unfolding slot_of
slot_is_bounded p s i all = slot_sum_small _ i (record { small = λ n _. sample_small p (pos 32 *ℤ s +ℤ pos 31 -ℤ pos n) all })
