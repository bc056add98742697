-- The chosen frames: in each frame, granule after granule and in it channel after channel, a unit
-- takes the least gain within its budget under the reserve that the units before it left (ISO/IEC
-- 11172-3, 2.4, the main data; Annex C).
use Rattle.std.specs.Prelude.{ℕ, zero, suc, ◌+◌, ◌*◌, List, [], ◌∷◌, ◌++◌, ℤ}
use Rattle.l3_base.specs.declared.settings.Settings.{Settings}
use Rattle.l3_base.specs.declared.rate.Channels.{Channels}
use Rattle.l3_base.specs.declared.rate.Channels.TheVariants.{Mono, Stereo}
use Rattle.l3_base.specs.Lengths.{mean_bits_of, mmax_of}
use Rattle.l3_base.specs.Rates.{hertz_index_of}
use Rattle.l3_base.specs.Spectrum.{IsSpectrum}
use Rattle.l3_transform.specs.Demand.{demand_of}
use Rattle.l3_search.specs.Budget.{budget_of, left_by, begin_after}
use Rattle.l3_stream.specs.declared.unit.Unit.{Unit}
use Rattle.l3_stream.specs.declared.unit.ChosenFrame.{ChosenFrame}
use Rattle.l3_stream.specs.Frames.{blank}
use Rattle.l3_commit.specs.Units.{unit_within}

-- the spectra of some samples, by granule and channel
abbrev pub Spectra : Type 0
Spectra = ℕ → ℕ → List ℤ

-- the bits that a unit of frame n may take, by the reserve before it and its demand
unfoldable pub budget_at : Settings → (n reserve : ℕ) → List ℤ → ℕ
budget_at st n reserve lines = budget_of reserve (mean_bits_of st n) (mmax_of st) (demand_of (hertz_index_of st.sample_rate) lines)

-- the unit
abbrev pub unit_chosen : Settings → (n reserve : ℕ) → List ℤ → Unit
unit_chosen st n reserve lines = unit_within st (budget_at st n reserve lines) lines

-- the reserve after it
unfoldable pub after_unit : Settings → (n reserve : ℕ) → List ℤ → ℕ
after_unit st n reserve lines = left_by reserve (mean_bits_of st n) (unit_chosen st n reserve lines).length

-- the units of a granule of frame n, from the reserve before it; `lines` is its spectra by channel
abbrev pub granule_by : Channels → Settings → (n reserve : ℕ) → (ℕ → List ℤ) → List Unit
granule_by Mono st n reserve lines = unit_chosen st n reserve (lines 0) ∷ blank ∷ []
granule_by Stereo st n reserve lines =
    unit_chosen st n reserve (lines 0) ∷ unit_chosen st n (after_unit st n reserve (lines 0)) (lines 1) ∷ []

-- the reserve after it
abbrev pub reserve_by : Channels → Settings → (n reserve : ℕ) → (ℕ → List ℤ) → ℕ
reserve_by Mono st n reserve lines = after_unit st n reserve (lines 0)
reserve_by Stereo st n reserve lines = after_unit st n (after_unit st n reserve (lines 0)) (lines 1)

-- both under the channels of the settings
unfoldable pub granule_chosen : Settings → (n reserve : ℕ) → (ℕ → List ℤ) → List Unit
granule_chosen st n reserve lines = granule_by st.channels st n reserve lines

unfoldable pub after_granule : Settings → (n reserve : ℕ) → (ℕ → List ℤ) → ℕ
after_granule st n reserve lines = reserve_by st.channels st n reserve lines

-- the reserve of frame n before its first granule, in bits:
-- the bytes that its main data begins before its slot
abbrev pub reserve_at_start : ℕ → ℕ
reserve_at_start begin = 8 * begin

-- between its granules
unfoldable pub reserve_between : Settings → Spectra → (n begin : ℕ) → ℕ
reserve_between st spectra n begin = after_granule st n (reserve_at_start begin) (spectra (2 * n))

-- and after its second granule
unfoldable pub reserve_at_end : Settings → Spectra → (n begin : ℕ) → ℕ
reserve_at_end st spectra n begin = after_granule st n (reserve_between st spectra n begin) (spectra (2 * n + 1))

-- its first and its second granule
unfoldable pub first_granule : Settings → Spectra → (n begin : ℕ) → List Unit
first_granule st spectra n begin = granule_chosen st n (reserve_at_start begin) (spectra (2 * n))

unfoldable pub second_granule : Settings → Spectra → (n begin : ℕ) → List Unit
second_granule st spectra n begin = granule_chosen st n (reserve_between st spectra n begin) (spectra (2 * n + 1))

-- the frame, by its main_data_begin
abbrev pub frame_from : Settings → Spectra → (n begin : ℕ) → ChosenFrame
frame_from st spectra n begin = record { begin = begin; units = first_granule st spectra n begin ∷ second_granule st spectra n begin ∷ [] }

-- main_data_begin of frame n: 0 at the first frame, and else the whole bytes that the frame before
-- left, as far as the field and decoders reach
unfoldable pub begin_before : Settings → Spectra → ℕ → ℕ
begin_before st spectra zero = 0
begin_before st spectra (suc n) = begin_after (reserve_at_end st spectra n (begin_before st spectra n)) (mmax_of st)

-- frame n
abbrev pub frame_chosen : Settings → Spectra → ℕ → ChosenFrame
frame_chosen st spectra n = frame_from st spectra n (begin_before st spectra n)

-- the frames before frame n
unfoldable pub frames_before : Settings → Spectra → ℕ → List ChosenFrame
frames_before st spectra zero = []
frames_before st spectra (suc n) = frames_before st spectra n ++ (frame_chosen st spectra n ∷ [])

-- so many frames from frame n on (only the inside of this crate)
unfoldable pub frames_chosen_from : Settings → Spectra → (n many : ℕ) → List ChosenFrame
frames_chosen_from st spectra n zero = []
frames_chosen_from st spectra n (suc many) = frame_chosen st spectra n ∷ frames_chosen_from st spectra (suc n) many

-- the spectra of the channels that are there are 576 lines, each below 2^29 in absolute value
-- (only the inside of this crate)
abbrev pub AreOfChannels : Channels → (ℕ → List ℤ) → Type 0
AreOfChannels Mono lines = IsSpectrum (lines 0)
AreOfChannels Stereo lines = IsSpectrum (lines 0) × IsSpectrum (lines 1)
