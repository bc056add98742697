-- The counts that pieces bring along are exact, and spare what the choice tries.
use Rattle.std.proofs.Common.{◌≡◌, ◌∙◌, ap, subst, refl, ℕ, zero, suc, ◌+◌, ◌<◌, ◌≤◌, List, arith, Some, Option, lit<}
use Rattle.std.specs.Prelude.{ℤ, All}
use Rattle.l3_base.specs.Amp.{no_amp}
use Rattle.l3_base.specs.Rates.{channels_of}
use Rattle.l3_base.specs.Lengths.{mean_bits_of}
use Rattle.l3_base.specs.Spectrum.{IsLine, IsSpectrum}
use Rattle.l3_base.specs.declared.settings.Settings.{Settings}
use Rattle.l3_base.specs.declared.rate.Channels.{Channels}
use Rattle.l3_base.specs.declared.rate.Channels.TheVariants.{Mono, Stereo}
use Rattle.l3_base.specs.declared.rate.SampleRate.{SampleRate}
use Rattle.l3_analysis.specs.Budget.{left_by}
use Rattle.l3_base.specs.Bands.{band_edges}
use Rattle.l3_quant.specs.Gains.{first_gain_of}
use Rattle.l3_count.specs.Count.{Counted, count_of}
use Rattle.l3_count.specs.Memo.{LaneView, empty_lane, lane_of, no_counts}
use Rattle.l3_count.proofs.Memos.{lane_of-empty, no_amp-is}
use Rattle.l3_search.specs.Gain.{HasCountsTo, picked, picked_gain}
use Rattle.l3_search.proofs.Fits.{pick_there}
use Rattle.l3_search.proofs.Lacking.{counted_lacks_none}
use Rattle.l3_analysis.specs.Piece.{IsChannel, PieceView, counts_in, demand_in, edges_in, memo_in, spectrum_in}
use Rattle.l3_analysis.specs.Presumed.{IsPresumed, bits_in, budget_under, frame_in, presumed_gain, reserve_before}
use Rattle.l3_stream.specs.declared.unit.Unit.{Unit}
use Rattle.l3_commit.specs.Choice.{after_unit, budget_at}
use Rattle.l3_commit.specs.Encoding.{spectra_of}
use Rattle.l3_commit.specs.Lacking.{unit_gain, unit_lacking}
use Rattle.l3_commit.specs.Standing.{AreSameSpectra}
use Rattle.l3_commit.specs.Units.{unit_within}
use Rattle.l3_commit.proofs.CodedPicks.{unit_of_picked}
use Rattle.l3_speculation.specs.Pieces.{BringsExact, BringsSound, BringsSpared}
use Rattle.l3_speculation.proofs.Counts.{granule-both, granule-lacks_none}
use Rattle.l3_speculation.proofs.Going.{memo-none}

-- ---- sound

spectrum-at : (ch : Channels) (left right : List ℤ) (number channel : ℕ) (x : PieceView) → AreSameSpectra ch (spectrum_in x) (spectra_of left right number) → channel < channels_of ch
    → spectrum_in x channel ≡ spectra_of left right number channel
spectrum-at Mono left right number zero x same lt = same
spectrum-at Mono left right number (suc k) x same lt = absurd (omega arith)
spectrum-at Stereo left right number zero x same lt = same.0
spectrum-at Stereo left right number (suc zero) x same lt = same.1
spectrum-at Stereo left right number (suc (suc k)) x same lt = absurd (omega arith)

pub brings_sound : BringsSound
brings_sound st left right number x is channel gain c lt there =
    let ch : channels_of x.settings.channels ≡ channels_of st.channels = ap channels_of is.settings_are.channels_is in
    let here : IsChannel x channel = omega (arith, ch, lt) in
    let lane = is.sound.counts is.made channel here 0 gain c there in
    let plain = is.sound.plain channel in
    let lines = spectrum-at st.channels left right number channel x is.spectra_are lt in
    let one : count_of (edges_in x) no_amp (spectrum_in x channel) gain ≡ Some c = subst (λ (a : List ℕ). count_of (edges_in x) a (spectrum_in x channel) gain ≡ Some c) plain lane in
    let two : count_of (band_edges st.sample_rate) no_amp (spectrum_in x channel) gain ≡ Some c =
    subst (λ (r : SampleRate). count_of (band_edges r) no_amp (spectrum_in x channel) gain ≡ Some c) is.settings_are.sample_rate_is one in
    subst (λ (ls : List ℤ). count_of (band_edges st.sample_rate) no_amp ls gain ≡ Some c) lines two

-- ---- exact

pub brings_exact : BringsExact
brings_exact before after channel none is there =
    let lane : lane_of (memo_in before channel) 0 ≡ empty_lane no_amp = ap (λ (m : List LaneView). lane_of m 0) (memo-none before channel none) ∙ lane_of-empty 0 in
    let lines = spectrum_in before channel in
    let counts : counts_in before channel ≡ no_counts = ap (λ (l : LaneView). l.counts) lane in
    subst (λ (cs : List (Option Counted)). HasCountsTo (edges_in before) no_amp lines (first_gain_of (edges_in before) no_amp lines) (presumed_gain before channel) cs (counts_in after channel))
    counts (is.counts channel there).counts

-- ---- spared

-- each line of a spectrum is small
lines-small : (lines : List ℤ) → IsSpectrum lines → All IsLine lines
lines-small lines is = is.small

-- the gain that is picked under a guess is that of the unit, where the guess is the reserve before
-- it
presumed-gain : (v : PieceView) (channel reserve : ℕ) → reserve_before v channel ≡ reserve → presumed_gain v channel ≡ unit_gain v.settings (frame_in v) reserve (spectrum_in v channel)
unfolding presumed_gain unit_gain budget_at
presumed-gain v channel reserve e =
    ap (λ (r : ℕ). picked_gain (edges_in v) no_amp (spectrum_in v channel) (budget_under v.settings (frame_in v) r (demand_in v channel))) e

first-reserve : (v : PieceView) → reserve_before v 0 ≡ v.guess
unfolding reserve_before
first-reserve v = refl

-- a unit takes the bits of the picked count
unit-bits : (st : Settings) (budget : ℕ) (lines : List ℤ) → IsSpectrum lines → bits_in (picked (band_edges st.sample_rate) no_amp lines budget) ≡ (unit_within st budget lines).length
unit-bits st budget lines is =
    let there = pick_there (band_edges st.sample_rate) no_amp lines budget no_amp-is (lines-small lines is) in
    let c = there.0 in
    ap bits_in there.1.count ∙ ap (λ (u : Unit). u.length) (unit_of_picked st budget lines c there.1.count)

second-reserve : (v : PieceView) → IsSpectrum (spectrum_in v 0) → reserve_before v 1 ≡ after_unit v.settings (frame_in v) v.guess (spectrum_in v 0)
unfolding reserve_before after_unit budget_at
second-reserve v is =
    let budget = budget_under v.settings (frame_in v) v.guess (demand_in v 0) in
    ap (left_by v.guess (mean_bits_of v.settings (frame_in v))) (unit-bits v.settings budget (spectrum_in v 0) is)

gain-small : (v : PieceView) (channel : ℕ) → IsSpectrum (spectrum_in v channel) → presumed_gain v channel ≤ 255
unfolding presumed_gain
gain-small v channel is =
    (pick_there (edges_in v) no_amp (spectrum_in v channel) (budget_under v.settings (frame_in v) (reserve_before v channel) (demand_in v channel)) no_amp-is (lines-small (spectrum_in v channel) is)).1.limit

-- a channel lacks none of the gains that its unit tries
unit-spared : (v w : PieceView) (channel reserve : ℕ) → IsPresumed v w → IsChannel v channel → IsSpectrum (spectrum_in v channel) → reserve_before v channel ≡ reserve
    → unit_lacking v.settings (frame_in v) reserve w channel ≡ 0
unfolding unit_lacking
unit-spared v w channel reserve is there spectrum e =
    let lines = spectrum_in v channel in
    let gain = presumed-gain v channel reserve e in
    let counted : HasCountsTo (edges_in v) no_amp lines (first_gain_of (edges_in v) no_amp lines) (presumed_gain v channel) (counts_in v channel) (counts_in w channel) = (is.counts channel there).counts in
    let none = counted_lacks_none (edges_in v) no_amp lines (presumed_gain v channel) (presumed_gain v channel) (counts_in v channel) (counts_in w channel) (omega arith) (gain-small v channel spectrum) counted in
    let edges : edges_in w ≡ edges_in v = ap (λ (p : PieceView). edges_in p) is.same in
    let own : spectrum_in w channel ≡ lines = ap (λ (p : PieceView). spectrum_in p channel) is.same ∙ kept channel in
    rw (edges, own, ← gain) none
  where
    kept : (channel : ℕ) → spectrum_in (record v { stage = w.stage; memos = w.memos }) channel ≡ spectrum_in v channel
    kept zero = refl
    kept (suc k) = refl

pub brings_spared : BringsSpared
brings_spared v w is spectra =
    let st = v.settings in
    let n = frame_in v in
    let one = channel-first st.channels in
    let first = unit-spared v w 0 v.guess is one (spectra 0 one) (first-reserve v) in
    let lines : spectrum_in w 0 ≡ spectrum_in v 0 = ap (λ (p : PieceView). spectrum_in p 0) is.same in
    let rate : w.settings.sample_rate ≡ st.sample_rate = ap (λ (p : PieceView). p.settings.sample_rate) is.same in
    let second : st.channels ≡ Stereo → unit_lacking st n (after_unit st n v.guess (spectrum_in w 0)) w 1 ≡ 0 =
    λ e. (let two = channel-second st.channels e in
    ap (λ (ls : List ℤ). unit_lacking st n (after_unit st n v.guess ls) w 1) lines
    ∙ unit-spared v w 1 (after_unit st n v.guess (spectrum_in v 0)) is two (spectra 1 two) (second-reserve v (spectra 0 one))) in
    let none = granule-lacks_none st n v.guess w first second in
    let both = granule-both st n v.guess w rate in
    record {
      lacking = none;
      reused = rest _ _ _ none both;
    }
  where
    channel-first : (ch : Channels) → 0 < channels_of ch
    channel-first Mono = lit< tt
    channel-first Stereo = lit< tt

    channel-second : (ch : Channels) → ch ≡ Stereo → 1 < channels_of ch
    channel-second ch e = rw e (lit< tt)

    rest : (lacks has tries : ℕ) → lacks ≡ 0 → lacks + has ≡ tries → has ≡ tries
    rest lacks has tries none both = omega (arith, none, both)
