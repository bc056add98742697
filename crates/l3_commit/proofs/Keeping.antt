-- The chosen frames are coded, and what they take is what the reserve loses.
use Rattle.std.proofs.Common.{◌≡◌, ◌∙◌, sym, ap, subst, refl, ℕ, zero, suc, ◌+◌, ◌-◌, ◌*◌, ◌/◌, ◌≤◌, List, [], ◌∷◌, length, arith, min, max}
use Rattle.std.specs.Prelude.{ℤ, All}
use Rattle.std.specs.List.{AllByRecursion}
use Rattle.l3_base.specs.declared.settings.Settings.{Settings}
use Rattle.l3_base.specs.declared.rate.Channels.{Channels}
use Rattle.l3_base.specs.declared.rate.Channels.TheVariants.{Mono, Stereo}
use Rattle.l3_base.specs.Rates.{channels_of, hertz_index_of}
use Rattle.l3_base.specs.Lengths.{mean_bits_of, mmax_of, slot_bytes_of}
use Rattle.l3_base.specs.Spectrum.{IsSpectrum}
use Rattle.l3_transform.specs.Demand.{demand_of}
use Rattle.l3_search.specs.Budget.{excess_of, begin_after}
use Rattle.l3_stream.specs.declared.unit.Unit.{Unit}
use Rattle.l3_stream.specs.declared.unit.ChosenFrame.{ChosenFrame}
use Rattle.l3_stream.specs.Units.{lengths, IsCodedUnit}
use Rattle.l3_stream.specs.Frames.{blank, units_number, units_of, placed, code_bits, IsCoded}
use Rattle.l3_stream.specs.Coded.{IsCodedGranule}
use Rattle.l3_stream.proofs.WholeFrame.{code_bits-length}
use Rattle.l3_commit.specs.Choice.{Spectra, budget_at, unit_chosen, after_unit, granule_by, reserve_by, granule_chosen, after_granule, AreOfChannels, reserve_at_start, reserve_between, reserve_at_end, first_granule, second_granule, frame_from, frame_chosen, begin_before, frames_before}
use Rattle.l3_commit.specs.Laws.{AreSpectra, ChosenWell, ChosenFollow}
use Rattle.l3_commit.specs.Tracks.{granules_length}
use Rattle.l3_commit.proofs.CodedPicks.{coded_within, bits_within}
use Rattle.l3_stream.proofs.Following.{CanFollow-more, nothing-follows}

budget-by : (mean excess reserve limit : ℕ) → min (mean + max (min excess (6 * reserve / 10)) (reserve - 64 * limit / 10)) 4095 ≤ reserve + mean
budget-by mean excess reserve limit = omega arith

budget-limit_by : (bits : ℕ) → min bits 4095 ≤ 4095
budget-limit_by bits = omega arith

-- a budget is covered by the share and the reserve, and the field of part2_3_length has room for it
pub budget-covered : (st : Settings) (n reserve : ℕ) (lines : List ℤ) → budget_at st n reserve lines ≤ reserve + mean_bits_of st n
unfolding budget_at
budget-covered st n reserve lines = budget-by (mean_bits_of st n) (excess_of (mean_bits_of st n) (demand_of (hertz_index_of st.sample_rate) lines)) reserve (mmax_of st)

pub budget-limit : (st : Settings) (n reserve : ℕ) (lines : List ℤ) → budget_at st n reserve lines ≤ 4095
unfolding budget_at
budget-limit st n reserve lines = budget-limit_by _

taken-by : (reserve mean used budget : ℕ) → used ≤ budget → budget ≤ reserve + mean → used + (reserve + mean - used) ≡ reserve + mean
taken-by reserve mean used budget within covered = omega arith

-- what a unit takes is what the reserve loses beside its share
pub unit-kept : (st : Settings) (n reserve : ℕ) (lines : List ℤ) → IsSpectrum lines → (unit_chosen st n reserve lines).length + after_unit st n reserve lines ≡ reserve + mean_bits_of st n
unfolding after_unit
unit-kept st n reserve lines is =
    taken-by reserve (mean_bits_of st n) (unit_chosen st n reserve lines).length (budget_at st n reserve lines) (bits_within st (budget_at st n reserve lines) lines is.small) (budget-covered st n reserve lines)

pub unit-coded : (st : Settings) (n reserve : ℕ) (lines : List ℤ) → IsSpectrum lines → IsCodedUnit st (unit_chosen st n reserve lines)
unit-coded st n reserve lines is = coded_within st (budget_at st n reserve lines) lines is.small is.long (budget-limit st n reserve lines)

blank-empty : blank.length ≡ 0
unfolding blank
blank-empty = refl

one-kept : (u after reserve mean none : ℕ) → none ≡ 0 → u + after ≡ reserve + mean → u + (none + 0) + after ≡ reserve + mean * 1
one-kept u after reserve mean none e first = omega arith

two-kept : (u v mid after reserve mean : ℕ) → u + mid ≡ reserve + mean → v + after ≡ mid + mean → u + (v + 0) + after ≡ reserve + mean * 2
two-kept u v mid after reserve mean first second = omega arith

granule_by-kept : (ch : Channels) (st : Settings) (n reserve : ℕ) (lines : ℕ → List ℤ) → AreOfChannels ch lines
    → lengths (granule_by ch st n reserve lines) + reserve_by ch st n reserve lines ≡ reserve + mean_bits_of st n * channels_of ch
granule_by-kept Mono st n reserve lines is =
    one-kept (unit_chosen st n reserve (lines 0)).length (after_unit st n reserve (lines 0)) reserve (mean_bits_of st n) blank.length blank-empty (unit-kept st n reserve (lines 0) is)
granule_by-kept Stereo st n reserve lines is =
    let mid = after_unit st n reserve (lines 0) in
    two-kept (unit_chosen st n reserve (lines 0)).length (unit_chosen st n mid (lines 1)).length mid (after_unit st n mid (lines 1)) reserve (mean_bits_of st n) (unit-kept st n reserve (lines 0) is.0)
    (unit-kept st n mid (lines 1) is.1)

-- what a granule takes is what the reserve loses beside its share
pub granule-kept : (st : Settings) (n reserve : ℕ) (lines : ℕ → List ℤ) → AreOfChannels st.channels lines
    → lengths (granule_chosen st n reserve lines) + after_granule st n reserve lines ≡ reserve + mean_bits_of st n * channels_of st.channels
unfolding granule_chosen after_granule
granule-kept st n reserve lines is = granule_by-kept st.channels st n reserve lines is

granule_by-coded : (ch : Channels) (st : Settings) (n reserve : ℕ) (lines : ℕ → List ℤ) → AreOfChannels ch lines → IsCodedGranule st ch (granule_by ch st n reserve lines)
granule_by-coded Mono st n reserve lines is = (unit-coded st n reserve (lines 0) is, refl)
granule_by-coded Stereo st n reserve lines is = (unit-coded st n reserve (lines 0) is.0, unit-coded st n (after_unit st n reserve (lines 0)) (lines 1) is.1)

pub granule-coded : (st : Settings) (n reserve : ℕ) (lines : ℕ → List ℤ) → AreOfChannels st.channels lines → IsCodedGranule st st.channels (granule_chosen st n reserve lines)
unfolding granule_chosen
granule-coded st n reserve lines is = granule_by-coded st.channels st n reserve lines is

-- ---- a frame of two coded granules

-- the second unit of a granule
abbrev IsSecond : Settings → Channels → Unit → Type 0
IsSecond st Mono u = u ≡ blank
IsSecond st Stereo u = IsCodedUnit st u

record AreTwo (st : Settings) (ch : Channels) (g : List Unit) : Type 0 where
  first : Unit
  second : Unit
  both : g ≡ first ∷ second ∷ []
  coded : IsCodedUnit st first
  other : IsSecond st ch second

two-units : (st : Settings) (ch : Channels) (g : List Unit) → IsCodedGranule st ch g → AreTwo st ch g
two-units st Mono [] is = absurd is
two-units st Mono (a ∷ []) is = absurd is
two-units st Mono (a ∷ b ∷ []) is = record { first = a; second = b; both = refl; coded = is.0; other = is.1 }
two-units st Mono (a ∷ b ∷ c ∷ us) is = absurd is
two-units st Stereo [] is = absurd is
two-units st Stereo (a ∷ []) is = absurd is
two-units st Stereo (a ∷ b ∷ []) is = record { first = a; second = b; both = refl; coded = is.0; other = is.1 }
two-units st Stereo (a ∷ b ∷ c ∷ us) is = absurd is

-- two granules are those of a coded frame
pub record AreWhole (st : Settings) (ch : Channels) (gs : List (List Unit)) : Type 0 where
  pub shape : gs ≡ placed ch (units_of ch gs)
  pub number : length (units_of ch gs) ≡ units_number ch
  pub units : AllByRecursion (IsCodedUnit st) (units_of ch gs)
  pub sizes : granules_length gs ≡ lengths (units_of ch gs)

granules-two : (g h : List Unit) → granules_length (g ∷ h ∷ []) ≡ lengths g + lengths h
granules-two g h = omega arith

four-units : (st : Settings) (ch : Channels) (a b c d : Unit) → IsCodedUnit st a → IsSecond st ch b → IsCodedUnit st c → IsSecond st ch d → AreWhole st ch ((a ∷ b ∷ []) ∷ (c ∷ d ∷ []) ∷ [])
unfolding units_of placed
four-units st Mono a b c d first none third nothing = record {
  shape = rw (none, nothing) refl;
  number = refl;
  units = (first, (third, tt));
  sizes =
      let e : b.length ≡ 0 = ap (λ (u : Unit). u.length) none ∙ blank-empty in
      let f : d.length ≡ 0 = ap (λ (u : Unit). u.length) nothing ∙ blank-empty in
      granules-two (a ∷ b ∷ []) (c ∷ d ∷ []) ∙ sizes-mono a.length b.length c.length d.length e f;
}
  where
    sizes-mono : (a b c d : ℕ) → b ≡ 0 → d ≡ 0 → a + (b + 0) + (c + (d + 0)) ≡ a + (c + 0)
    sizes-mono a b c d e f = omega arith
four-units st Stereo a b c d first second third fourth = record {
  shape = refl;
  number = refl;
  units = (first, (second, (third, (fourth, tt))));
  sizes = granules-two (a ∷ b ∷ []) (c ∷ d ∷ []) ∙ sizes-stereo a.length b.length c.length d.length;
}
  where
    sizes-stereo : (a b c d : ℕ) → a + (b + 0) + (c + (d + 0)) ≡ a + (b + (c + (d + 0)))
    sizes-stereo a b c d = omega arith

pub two-granules : (st : Settings) (ch : Channels) (g h : List Unit) → IsCodedGranule st ch g → IsCodedGranule st ch h → AreWhole st ch (g ∷ h ∷ [])
two-granules st ch g h one two =
    let u = two-units st ch g one in
    let v = two-units st ch h two in
    let both : g ∷ h ∷ [] ≡ (u.first ∷ u.second ∷ []) ∷ (v.first ∷ v.second ∷ []) ∷ [] = ap (λ (x : List Unit). x ∷ h ∷ []) u.both ∙ ap (λ (x : List Unit). (u.first ∷ u.second ∷ []) ∷ x ∷ []) v.both in
    subst (λ (gs : List (List Unit)). AreWhole st ch gs) (sym both) (four-units st ch u.first u.second v.first v.second u.coded u.other v.coded v.other)

pub all-granules : (st : Settings) (ch : Channels) (gs : List (List Unit)) → length gs ≡ 2 → All (IsCodedGranule st ch) gs → AreWhole st ch gs
all-granules st ch [] two each = absurd (omega arith)
all-granules st ch (g ∷ []) two each = absurd (omega arith)
all-granules st ch (g ∷ h ∷ []) two each = two-granules st ch g h (each 0 g (omega arith)) (each 1 g (omega arith))
all-granules st ch (g ∷ h ∷ k ∷ gs) two each = absurd (omega arith)

-- the frame of whole granules is coded, and its code bits are as many as its granules' lengths
pub whole-coded : (st : Settings) (begin : ℕ) (gs : List (List Unit)) → AreWhole st st.channels gs → (let f : ChosenFrame = record { begin = begin; units = gs } in IsCoded st f)
whole-coded st begin gs w = record { shape = w.shape; number = w.number; units = w.units }

pub whole-bits : (st : Settings) (begin : ℕ) (gs : List (List Unit)) → AreWhole st st.channels gs → (let f : ChosenFrame = record { begin = begin; units = gs } in length (code_bits st f) ≡ granules_length gs)
whole-bits st begin gs w = code_bits-length st (record { begin = begin; units = gs }) (whole-coded st begin gs w) ∙ sym w.sizes

-- ---- the chosen frames

share_by : (ch : Channels) (slot : ℕ) → 8 * slot / (2 * channels_of ch) * (channels_of ch * 2) ≡ 8 * slot
share_by Mono slot = omega arith
share_by Stereo slot = omega arith

-- the shares of a frame's units are its slot
pub shares-slot : (st : Settings) (n : ℕ) → mean_bits_of st n * (channels_of st.channels * 2) ≡ 8 * slot_bytes_of st n
shares-slot st n = share_by st.channels (slot_bytes_of st n)

pub mmax-near : (st : Settings) → mmax_of st ≤ 511
mmax-near st = omega arith

of-channels : (ch : Channels) (lines : ℕ → List ℤ) → ((c : ℕ) → IsSpectrum (lines c)) → AreOfChannels ch lines
of-channels Mono lines is = is 0
of-channels Stereo lines is = (is 0, is 1)

frame-whole : (st : Settings) (spectra : Spectra) (n begin : ℕ) → AreSpectra spectra → AreWhole st st.channels (frame_from st spectra n begin).units
unfolding first_granule second_granule
frame-whole st spectra n begin is =
    two-granules st st.channels (first_granule st spectra n begin) (second_granule st spectra n begin)
    (granule-coded st n (reserve_at_start begin) (spectra (2 * n)) (of-channels st.channels (spectra (2 * n)) (is (2 * n))))
    (granule-coded st n (reserve_between st spectra n begin) (spectra (2 * n + 1)) (of-channels st.channels (spectra (2 * n + 1)) (is (2 * n + 1))))

kept-by : (g h start mid after share whole : ℕ) → g + mid ≡ start + share → h + after ≡ mid + share → share * 2 ≡ whole → g + h + after ≡ start + whole
kept-by g h start mid after share whole first second shares = omega arith

two-shares : (ch : Channels) (mean slot : ℕ) → mean * (channels_of ch * 2) ≡ 8 * slot → mean * channels_of ch * 2 ≡ 8 * slot
two-shares Mono mean slot e = omega arith
two-shares Stereo mean slot e = omega arith

-- what a frame takes is what the reserve loses beside its slot
pub frame-kept : (st : Settings) (spectra : Spectra) (n begin : ℕ) → AreSpectra spectra
    → granules_length (frame_from st spectra n begin).units + reserve_at_end st spectra n begin ≡ 8 * begin + 8 * slot_bytes_of st n
unfolding first_granule second_granule reserve_between reserve_at_end
frame-kept st spectra n begin is =
    let first = granule-kept st n (reserve_at_start begin) (spectra (2 * n)) (of-channels st.channels (spectra (2 * n)) (is (2 * n))) in
    let second = granule-kept st n (reserve_between st spectra n begin) (spectra (2 * n + 1)) (of-channels st.channels (spectra (2 * n + 1)) (is (2 * n + 1))) in
    ap (λ k. k + reserve_at_end st spectra n begin) (granules-two (first_granule st spectra n begin) (second_granule st spectra n begin)) ∙
    kept-by (lengths (first_granule st spectra n begin)) (lengths (second_granule st spectra n begin)) (8 * begin) (reserve_between st spectra n begin) (reserve_at_end st spectra n begin)
    (mean_bits_of st n * channels_of st.channels) (8 * slot_bytes_of st n) first second (two-shares st.channels (mean_bits_of st n) (slot_bytes_of st n) (shares-slot st n))

begin_after-small : (reserve limit : ℕ) → 8 * begin_after reserve limit ≤ reserve
begin_after-small reserve limit = omega arith

begin_after-near : (reserve limit : ℕ) → begin_after reserve limit ≤ limit
begin_after-near reserve limit = omega arith

pub begins-near : (st : Settings) (spectra : Spectra) (n : ℕ) → begin_before st spectra n ≤ mmax_of st
unfolding begin_before
begins-near st spectra zero = omega arith
begins-near st spectra (suc n) = begin_after-near (reserve_at_end st spectra n (begin_before st spectra n)) (mmax_of st)

pub begins-limit : (st : Settings) (spectra : Spectra) (n : ℕ) → begin_before st spectra n ≤ 511
begins-limit st spectra n =
    let near = begins-near st spectra n in
    let most = mmax-near st in
    at_most (begin_before st spectra n) (mmax_of st) near most
  where
    at_most : (a b : ℕ) → a ≤ b → b ≤ 511 → a ≤ 511
    at_most a b e f = omega arith

pub chosen-follow : ChosenFollow
unfolding begin_before frames_before
chosen-follow st spectra zero is = nothing-follows st
chosen-follow st spectra (suc n) is =
    let begin = begin_before st spectra n in
    let left = reserve_at_end st spectra n begin in
    let f = frame_chosen st spectra n in
    let whole = frame-whole st spectra n begin is in
    let kept : length (code_bits st f) + left ≡ 8 * begin + 8 * slot_bytes_of st n = ap (λ k. k + left) (whole-bits st begin f.units whole) ∙ frame-kept st spectra n begin is in
    CanFollow-more st n begin left (begin_after left (mmax_of st)) f (frames_before st spectra n) refl (begins-limit st spectra n) (whole-coded st begin f.units whole) kept
    (begin_after-small left (mmax_of st)) (chosen-follow st spectra n is)

pub chosen-well : ChosenWell
chosen-well st spectra n is =
    let begin = begin_before st spectra n in
    let whole = frame-whole st spectra n begin is in
    let coded = whole-coded st begin (frame_chosen st spectra n).units whole in
    record {
      coded = coded;
      bits = code_bits-length st (frame_chosen st spectra n) coded;
      limit = begins-limit st spectra n;
      decoder = begins-near st spectra n;
      reached = (chosen-follow st spectra n is).there;
    }
