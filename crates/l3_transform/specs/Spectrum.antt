-- The 576 lines of a granule: the hybrid synthesis of Layer III turned round, in whole numbers.
use Rattle.std.specs.Prelude.{◌≡◌, ℕ, ◌+◌, ◌-◌, ◌*◌, ◌/◌, ◌%◌, ◌^◌, ◌<◌, Bool, ◌&&◌, nat_le, nat_lt, List, All, ℤ, pos, ◌+ℤ◌, ◌-ℤ◌, ◌*ℤ◌, if◌then◌else◌}
use Rattle.l3_base.specs.Slots.{slot_in}
use Rattle.l3_base.specs.Lists.{tabulate}
use Rattle.l3_base.specs.Sums.{sum_below, floor_div, IsWithin}
use Rattle.l3_base.specs.Cosines.{cosine72}
use Rattle.l3_base.specs.Steps.{cs_at, ca_at}
use Rattle.l3_base.specs.Filterbank.{window_of, slot_of, turned, slots_of}

-- slot k of 36 under the window of a long block, to the nearest
unfoldable pub windowed : (ℕ → ℤ) → ℕ → ℤ
windowed slot k = floor_div (slot k *ℤ cosine72 (pos 35 -ℤ pos (2 * k)) +ℤ pos (2 ^ 14)) (2 ^ 15)

-- what slot k counts for in line m of its subband
abbrev pub line_cosine : ℕ → ℕ → ℤ
line_cosine m k = cosine72 (pos ((2 * k + 19) * (2 * m + 1)))

-- line m of a subband out of its 36 windowed slots: a ninth of their sum, to the nearest
unfoldable pub line_from : (ℕ → ℤ) → ℕ → ℤ
line_from z m = floor_div (pos 2 *ℤ sum_below 36 (λ k. z k *ℤ line_cosine m k) +ℤ pos (9 * 2 ^ 15)) (18 * 2 ^ 15)

-- line n before the alias reduction: line n % 18 of subband n / 18
unfoldable pub line_before : List (List ℤ) → ℕ → ℤ
line_before slots n = line_from (windowed (slot_in slots (n / 18))) (n % 18)

-- butterfly k of 8 about a border between subbands: its lower and its upper end become these, to
-- the nearest
unfoldable pub lower_end : ℕ → ℤ → ℤ → ℤ
lower_end k a b = floor_div (a *ℤ cs_at k +ℤ b *ℤ ca_at k +ℤ pos (2 ^ 14)) (2 ^ 15)

unfoldable pub upper_end : ℕ → ℤ → ℤ → ℤ
upper_end k a b = floor_div (b *ℤ cs_at k -ℤ a *ℤ ca_at k +ℤ pos (2 ^ 14)) (2 ^ 15)

-- line n is the lower end of butterfly 17 - n % 18, or the upper end of butterfly n % 18
abbrev pub is_lower : ℕ → Bool
is_lower n = nat_le 10 (n % 18) && nat_lt n 558

abbrev pub is_upper : ℕ → Bool
is_upper n = nat_lt (n % 18) 8 && nat_le 18 n

-- line n after the alias reduction, out of the lines before it
unfoldable pub line_after : (ℕ → ℤ) → ℕ → ℤ
line_after line n =
    let k = n % 18 in
    if is_lower n then lower_end (17 - k) (line n) (line (n + 1 + 2 * (17 - k)))
    else (if is_upper n then upper_end k (line (n - 1 - 2 * k)) (line n) else line n)

-- the 576 lines of 32 subbands of 36 slots
unfoldable pub lines_of : List (List ℤ) → List ℤ
lines_of slots = tabulate 576 (line_after (line_before slots))

-- the spectrum of a window of 1632 samples
abbrev pub spectrum_of : List ℤ → List ℤ
spectrum_of window = lines_of (slots_of window)

-- the spectrum of granule g of a list of samples
abbrev pub spectrum_of_granule : List ℤ → ℕ → List ℤ
spectrum_of_granule p g = spectrum_of (window_of p g)

-- the slots of granule g are those of the samples from slot 18 (g - 1) on, with the other sign
-- where slot and subband are odd
abbrev pub SlotsOfGranule : Type 0
SlotsOfGranule = (p : List ℤ) (g i k : ℕ) → i < 32 → k < 36 → slot_in (slots_of (window_of p g)) i k ≡ turned i k (slot_of p (pos (18 * g + k) -ℤ pos 18) i)

-- a line of 16-bit samples is at most 2^28 in absolute value
abbrev pub SpectrumIsBounded : Type 0
SpectrumIsBounded = (p : List ℤ) (g : ℕ) → All (IsWithin (2 ^ 15)) p → All (IsWithin (2 ^ 28)) (spectrum_of_granule p g)

-- the lines of a window's slots are its spectrum
abbrev pub SpectrumIsComposed : Type 0
SpectrumIsComposed = (window : List ℤ) → lines_of (slots_of window) ≡ spectrum_of window
