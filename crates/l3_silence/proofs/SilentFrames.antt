-- The frames that are chosen for spectra of 0: blank units, and main_data_begin as far back as it
-- can be.
use Rattle.std.proofs.Common.{◌≡◌, refl, sym, ap, ◌∙◌, ℕ, zero, suc, ◌+◌, ◌-◌, ◌*◌, ◌/◌, List, [], ◌∷◌, ◌++◌, min, arith}
use Rattle.std.specs.Prelude.{ℤ}
use Rattle.l3_base.specs.declared.settings.Settings.{Settings}
use Rattle.l3_base.specs.declared.rate.Channels.{Channels}
use Rattle.l3_base.specs.declared.rate.Channels.TheVariants.{Mono, Stereo}
use Rattle.l3_base.specs.Rates.{channels_of}
use Rattle.l3_base.specs.Lengths.{mean_bits_of, mmax_of, slot_bytes_of}
use Rattle.l3_search.specs.Budget.{begin_after}
use Rattle.l3_stream.specs.declared.unit.Unit.{Unit}
use Rattle.l3_stream.specs.declared.unit.ChosenFrame.{ChosenFrame}
use Rattle.l3_stream.specs.Units.{zero_lines}
use Rattle.l3_stream.specs.Frames.{blank}
use Rattle.l3_silence.specs.Silence.{begin_of}
use Rattle.l3_commit.specs.Choice.{Spectra, budget_at, unit_chosen, after_unit, granule_by, reserve_by, granule_chosen, after_granule, reserve_at_start, reserve_between, reserve_at_end, first_granule, second_granule, frame_chosen, begin_before, frames_before}
use Rattle.l3_commit.proofs.Keeping.{shares-slot}
use Rattle.l3_silence.proofs.SilentUnits.{unit-blank}

-- the lines of the channels that are there are all 0
abbrev pub NoLines : Channels → (ℕ → List ℤ) → Type 0
NoLines Mono lines = lines 0 ≡ zero_lines 576
NoLines Stereo lines = (lines 0 ≡ zero_lines 576) × (lines 1 ≡ zero_lines 576)

-- ---- a granule

unfoldable pub blank_granule : List Unit
blank_granule = blank ∷ blank ∷ []

unit-chosen : (st : Settings) (n reserve : ℕ) (lines : List ℤ) → lines ≡ zero_lines 576 → unit_chosen st n reserve lines ≡ blank
unit-chosen st n reserve lines e = ap (unit_chosen st n reserve) e ∙ unit-blank st (budget_at st n reserve (zero_lines 576))

blank-empty : blank.length ≡ 0
unfolding blank
blank-empty = refl

unit-after : (st : Settings) (n reserve : ℕ) (lines : List ℤ) → lines ≡ zero_lines 576 → after_unit st n reserve lines ≡ reserve + mean_bits_of st n
unfolding after_unit
unit-after st n reserve lines e =
    let none : (unit_chosen st n reserve lines).length ≡ 0 = ap (λ (u : Unit). u.length) (unit-chosen st n reserve lines e) ∙ blank-empty in
    ap (λ k. reserve + mean_bits_of st n - k) none ∙ all-left (reserve + mean_bits_of st n)
  where
    all-left : (k : ℕ) → k - 0 ≡ k
    all-left k = omega arith

granule-by : (ch : Channels) (st : Settings) (n reserve : ℕ) (lines : ℕ → List ℤ) → NoLines ch lines → granule_by ch st n reserve lines ≡ blank_granule
unfolding blank_granule
granule-by Mono st n reserve lines e = ap (λ (u : Unit). u ∷ blank ∷ []) (unit-chosen st n reserve (lines 0) e)
granule-by Stereo st n reserve lines e =
    let mid = after_unit st n reserve (lines 0) in
    ap (λ (u : Unit). u ∷ unit_chosen st n mid (lines 1) ∷ []) (unit-chosen st n reserve (lines 0) e.0)
    ∙ ap (λ (u : Unit). blank ∷ u ∷ []) (unit-chosen st n mid (lines 1) e.1)

granule-chosen : (st : Settings) (n reserve : ℕ) (lines : ℕ → List ℤ) → NoLines st.channels lines → granule_chosen st n reserve lines ≡ blank_granule
unfolding granule_chosen
granule-chosen st n reserve lines e = granule-by st.channels st n reserve lines e

after-by : (ch : Channels) (st : Settings) (n reserve : ℕ) (lines : ℕ → List ℤ) → NoLines ch lines → reserve_by ch st n reserve lines ≡ reserve + mean_bits_of st n * channels_of ch
after-by Mono st n reserve lines e = unit-after st n reserve (lines 0) e ∙ once reserve (mean_bits_of st n)
  where
    once : (r m : ℕ) → r + m ≡ r + m * 1
    once r m = omega arith
after-by Stereo st n reserve lines e =
    let mid = after_unit st n reserve (lines 0) in
    unit-after st n mid (lines 1) e.1 ∙ (ap (λ k. k + mean_bits_of st n) (unit-after st n reserve (lines 0) e.0) ∙ twice reserve (mean_bits_of st n))
  where
    twice : (r m : ℕ) → r + m + m ≡ r + m * 2
    twice r m = omega arith

granule-after : (st : Settings) (n reserve : ℕ) (lines : ℕ → List ℤ) → NoLines st.channels lines → after_granule st n reserve lines ≡ reserve + mean_bits_of st n * channels_of st.channels
unfolding after_granule
granule-after st n reserve lines e = after-by st.channels st n reserve lines e

-- ---- a frame

-- all granules are without lines
abbrev pub NoSpectra : Channels → Spectra → Type 0
NoSpectra ch spectra = (g : ℕ) → NoLines ch (spectra g)

frame-share : (ch : Channels) (m slot begin : ℕ) → m * (channels_of ch * 2) ≡ 8 * slot → 8 * begin + m * channels_of ch + m * channels_of ch ≡ 8 * begin + 8 * slot
frame-share Mono m slot begin e = omega arith
frame-share Stereo m slot begin e = omega arith

-- the whole slot is left
frame-after : (st : Settings) (spectra : Spectra) (n begin : ℕ) → NoSpectra st.channels spectra → reserve_at_end st spectra n begin ≡ 8 * begin + 8 * slot_bytes_of st n
unfolding reserve_between reserve_at_end
frame-after st spectra n begin e =
    let mid = reserve_between st spectra n begin in
    granule-after st n mid (spectra (2 * n + 1)) (e (2 * n + 1))
    ∙ (ap (λ k. k + mean_bits_of st n * channels_of st.channels) (granule-after st n (reserve_at_start begin) (spectra (2 * n)) (e (2 * n)))
    ∙ frame-share st.channels (mean_bits_of st n) (slot_bytes_of st n) begin (shares-slot st n))

next-begin : (begin slot limit : ℕ) → begin_after (8 * begin + 8 * slot) limit ≡ min (begin + slot) limit
next-begin begin slot limit =
    let e : (8 * begin + 8 * slot) / 8 ≡ begin + slot = omega arith in
    ap (λ k. min k limit) e

begins : (st : Settings) (spectra : Spectra) (n : ℕ) → NoSpectra st.channels spectra → begin_before st spectra n ≡ begin_of st n
unfolding begin_before begin_of
begins st spectra zero e = refl
begins st spectra (suc n) e =
    let before = begins st spectra n e in
    ap (λ r. begin_after r (mmax_of st)) (frame-after st spectra n (begin_before st spectra n) e)
    ∙ (next-begin (begin_before st spectra n) (slot_bytes_of st n) (mmax_of st) ∙ ap (λ b. min (b + slot_bytes_of st n) (mmax_of st)) before)

-- frame n of silence
unfoldable pub silent_chosen : Settings → ℕ → ChosenFrame
silent_chosen st n = record { begin = begin_of st n; units = blank_granule ∷ blank_granule ∷ [] }

frame-silent : (st : Settings) (spectra : Spectra) (n : ℕ) → NoSpectra st.channels spectra → frame_chosen st spectra n ≡ silent_chosen st n
unfolding silent_chosen first_granule second_granule
frame-silent st spectra n e =
    let begin = begin_before st spectra n in
    let first : first_granule st spectra n begin ≡ blank_granule = granule-chosen st n (reserve_at_start begin) (spectra (2 * n)) (e (2 * n)) in
    let second : second_granule st spectra n begin ≡ blank_granule = granule-chosen st n (reserve_between st spectra n begin) (spectra (2 * n + 1)) (e (2 * n + 1)) in
    let F : ℕ → List Unit → List Unit → ChosenFrame = λ b g h. record { begin = b; units = g ∷ h ∷ [] } in
    ap (λ (g : List Unit). F begin g (second_granule st spectra n begin)) first
    ∙ (ap (λ (h : List Unit). F begin blank_granule h) second ∙ ap (λ (b : ℕ). F b blank_granule blank_granule) (begins st spectra n e))

-- ---- all frames

-- so many frames of silence from frame n on
unfoldable pub silent_from : Settings → ℕ → ℕ → List ChosenFrame
silent_from st n zero = []
silent_from st n (suc k) = silent_chosen st n ∷ silent_from st (suc n) k

silent_from-more : (st : Settings) (n k : ℕ) → silent_from st n (suc k) ≡ silent_from st n k ++ (silent_chosen st (n + k) ∷ [])
unfolding silent_from
silent_from-more st n zero =
    let e : n ≡ n + 0 = omega arith in
    ap (λ (m : ℕ). silent_chosen st m ∷ []) e
silent_from-more st n (suc k) =
    let e : suc n + k ≡ n + suc k = omega arith in
    ap (λ (l : List ChosenFrame). silent_chosen st n ∷ l) (silent_from-more st (suc n) k)
    ∙ ap (λ (m : ℕ). silent_chosen st n ∷ (silent_from st (suc n) k ++ (silent_chosen st m ∷ []))) e

-- the frames that are chosen for spectra of 0
pub frames-silent : (st : Settings) (spectra : Spectra) (n : ℕ) → NoSpectra st.channels spectra → frames_before st spectra n ≡ silent_from st 0 n
unfolding frames_before silent_from
frames-silent st spectra zero e = refl
frames-silent st spectra (suc n) e =
    let number : 0 + n ≡ n = omega arith in
    ap (λ (l : List ChosenFrame). l ++ (frame_chosen st spectra n ∷ [])) (frames-silent st spectra n e)
    ∙ (ap (λ (f : ChosenFrame). silent_from st 0 n ++ (f ∷ [])) (frame-silent st spectra n e)
    ∙ sym (silent_from-more st 0 n ∙ ap (λ (m : ℕ). silent_from st 0 n ++ (silent_chosen st m ∷ [])) number))
