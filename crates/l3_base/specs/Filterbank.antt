-- The analysis filterbank as direct sums over a list of samples, 0 outside it.
use Rattle.std.specs.Prelude.{◌≡◌, ℕ, ◌+◌, ◌-◌, ◌*◌, ◌%◌, ◌^◌, ◌<◌, ◌&&◌, ◌==◌, List, All, ℤ, pos, negsuc, ◌+ℤ◌, ◌-ℤ◌, ◌*ℤ◌, neg_ℤ, if◌then◌else◌}
use Rattle.l3_base.specs.Lists.{entry, tabulate}
use Rattle.l3_base.specs.Sums.{sum_below, floor_div, IsWithin}
use Rattle.l3_base.specs.Window.{window_at}
use Rattle.l3_base.specs.Cosines.{cosine64}

-- sample n of a list that is 0 before its start and past its end
abbrev pub sample_at : List ℤ → ℤ → ℤ
sample_at p (pos n) = entry p n
sample_at p (negsuc n) = pos 0

-- the window of granule g: 1632 samples, the first is sample 576 g - 1056
-- |-- 480 before --|------ 576: granule g - 1 ------|------ 576: granule g ------|
unfoldable pub window_of : List ℤ → ℕ → List ℤ
window_of p g = tabulate 1632 (λ n. sample_at p (pos (576 * g + n) -ℤ pos 1056))

-- column k of 64: eight windowed samples, 64 apart; `newest n` is the sample n before the newest
unfoldable pub column_sum : (ℕ → ℤ) → ℕ → ℤ
column_sum newest k = sum_below 8 (λ j. window_at (k + 64 * j) *ℤ newest (k + 64 * j))

-- the 64 columns, each times its cosine for subband i
unfoldable pub subband_sum : (ℕ → ℤ) → ℕ → ℤ
subband_sum column i = sum_below 64 (λ k. cosine64 (pos (2 * i + 1) *ℤ (pos k -ℤ pos 16)) *ℤ column k)

-- the slot of subband i: that sum over 2^27, to the nearest
unfoldable pub slot_sum : (ℕ → ℤ) → ℕ → ℤ
slot_sum newest i = floor_div (subband_sum (column_sum newest) i +ℤ pos (2 ^ 26)) (2 ^ 27)

-- slot s of subband i of the samples p: its newest sample is 32 s + 31
unfoldable pub slot_of : List ℤ → ℤ → ℕ → ℤ
slot_of p s i = slot_sum (λ n. sample_at p (pos 32 *ℤ s +ℤ pos 31 -ℤ pos n)) i

-- slot k of subband i of a window, in order of time: its newest sample is 32 k + 511
unfoldable pub window_slot : List ℤ → ℕ → ℕ → ℤ
window_slot window i k = slot_sum (λ n. entry window (32 * k + 511 - n)) i

-- slot k of subband i, with the other sign where both are odd
abbrev pub turned : ℕ → ℕ → ℤ → ℤ
turned i k slot = if ((i % 2) == 1) && ((k % 2) == 1) then neg_ℤ slot else slot

unfoldable pub turned_slot : List ℤ → ℕ → ℕ → ℤ
turned_slot window i k = turned i k (window_slot window i k)

-- the 32 subbands of 36 slots of a window
unfoldable pub slots_of : List ℤ → List (List ℤ)
slots_of window = tabulate 32 (λ i. tabulate 36 (λ k. turned_slot window i k))

-- the slots of granule g's window are those of the samples, from slot 18 (g - 1)
abbrev pub SlotsOfWindow : Type 0
SlotsOfWindow = (p : List ℤ) (g i k : ℕ) → k < 36 → window_slot (window_of p g) i k ≡ slot_of p (pos (18 * g + k) -ℤ pos 18) i

-- a slot of 16-bit samples is at most 44598016 in absolute value
abbrev pub SlotIsBounded : Type 0
SlotIsBounded = (p : List ℤ) (s : ℤ) (i : ℕ) → All (IsWithin (2 ^ 15)) p → IsWithin 44598016 (slot_of p s i)
