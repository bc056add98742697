-- What the units of a granule take of its piece, and what the piece has then.
use Rattle.std.proofs.Common.{◌≡◌, ◌∙◌, sym, ap, subst, refl, ℕ, zero, suc, ◌+◌, ◌-◌, ◌^◌, ◌<◌, ◌≤◌, List, [], ◌∷◌, slice_set, slice_index_or, arith}
use Rattle.std.specs.Prelude.{ℤ, pos, Some}
use Rattle.l3_base.specs.Amp.{no_amp}
use Rattle.l3_base.specs.declared.settings.Settings.{Settings}
use Rattle.l3_base.specs.declared.rate.Channels.{Channels}
use Rattle.l3_base.specs.declared.rate.Channels.TheVariants.{Mono, Stereo}
use Rattle.l3_base.specs.declared.rate.SampleRate.{SampleRate}
use Rattle.l3_base.specs.Rates.{channels_of, hertz_index_of}
use Rattle.l3_base.specs.Lengths.{mean_bits_of, mmax_of}
use Rattle.l3_transform.specs.Demand.{demand_of}
use Rattle.l3_search.specs.Budget.{budget_of, left_by}
use Rattle.l3_base.specs.Bands.{band_edges}
use Rattle.l3_quant.specs.Quantiser.{quantised_lines}
use Rattle.l3_quant.specs.Gains.{first_gain_of}
use Rattle.l3_count.specs.Count.{Counted, count_of}
use Rattle.l3_count.specs.Memo.{LaneView, empty_memo, empty_lane, lane_of, no_counts}
use Rattle.l3_count.proofs.Memos.{lane_of-empty}
use Rattle.l3_search.specs.Gain.{HasLaneTo, lacking, picked, picked_gain, tried_of}
use Rattle.l3_search.proofs.Lacking.{empty_lacks_tried, lacks_at_most_tried}
use Rattle.l3_stream.specs.declared.unit.Unit.{Unit}
use Rattle.l3_analysis.specs.Piece.{PieceView, HasSpectra, IsChannel, counts_in, edges_in, memo_in, no_memos, spectrum_in, with_memo}
use Rattle.l3_commit.specs.Units.{IsCountIn, unit_of, unit_within}
use Rattle.l3_commit.specs.Choice.{budget_at, after_unit}
use Rattle.l3_commit.specs.Tried.{unit_tried, granule_tried_by, granule_tried}
use Rattle.l3_commit.specs.Lacking.{HasUnitCounted, IsCommitted, granule_lacking, reserve_before, unit_gain, unit_lacking}
use Rattle.l3_commit.proofs.CodedPicks.{unit_of_picked}
use Rattle.l3_commit.proofs.Taking.{IsTaken, unit-taken}

-- ---- one unit

pub budget-is : (st : Settings) (n reserve demand budget : ℕ) (rate : SampleRate) (lines : List ℤ) → rate ≡ st.sample_rate → demand ≡ demand_of (hertz_index_of rate) lines
    → budget ≡ budget_of reserve (mean_bits_of st n) (mmax_of st) demand → budget ≡ budget_at st n reserve lines
unfolding budget_at
budget-is st n reserve demand budget rate lines same demands is =
    is ∙ ap (budget_of reserve (mean_bits_of st n) (mmax_of st)) (demands ∙ ap (λ (r : SampleRate). demand_of (hertz_index_of r) lines) same)

pub gain-is : (st : Settings) (n reserve budget : ℕ) (rate : SampleRate) (lines : List ℤ) → rate ≡ st.sample_rate → budget ≡ budget_at st n reserve lines
    → picked_gain (band_edges rate) no_amp lines budget ≡ unit_gain st n reserve lines
unfolding unit_gain
gain-is st n reserve budget rate lines same at =
    ap (λ (r : SampleRate). picked_gain (band_edges r) no_amp lines budget) same ∙ ap (λ b. picked_gain (band_edges st.sample_rate) no_amp lines b) at

pub taken-of-piece : (st : Settings) (n reserve budget : ℕ) (rate : SampleRate) (lines spec : List ℤ) (count : Counted) (u : Unit) (bits after first tried : ℕ)
    → rate ≡ st.sample_rate → budget ≡ budget_at st n reserve lines → spec ≡ lines
    → picked (band_edges rate) no_amp lines budget ≡ Some count → count.gain ≡ picked_gain (band_edges rate) no_amp lines budget
    → u ≡ unit_of count (quantised_lines (pos count.gain) spec) → bits ≡ count.bits → after ≡ left_by reserve (mean_bits_of st n) bits
    → ((edges : List ℕ) → first ≡ first_gain_of edges no_amp spec) → tried ≡ count.gain + 1 - first → IsTaken st n reserve lines u after tried
taken-of-piece st n reserve budget rate lines spec count u bits after first tried same at own picks gains unit bits_are rest firsts tries =
    let edges : List ℕ = band_edges st.sample_rate in
    let here : picked edges no_amp lines budget ≡ Some count = subst (λ (r : SampleRate). picked (band_edges r) no_amp lines budget ≡ Some count) same picks in
    let within : u ≡ unit_within st budget lines = unit ∙ (ap (λ (xs : List ℤ). unit_of count (quantised_lines (pos count.gain) xs)) own ∙ unit_of_picked st budget lines count here) in
    let length_is : count.bits ≡ u.length = sym (ap (λ (v : Unit). v.length) unit) in
    let gain : count.gain ≡ picked_gain edges no_amp lines budget = subst (λ (r : SampleRate). count.gain ≡ picked_gain (band_edges r) no_amp lines budget) same gains in
    let first_is : first ≡ first_gain_of edges no_amp lines = firsts edges ∙ ap (λ (xs : List ℤ). first_gain_of edges no_amp xs) own in
    let tried_is : tried ≡ tried_of edges no_amp lines budget =
    tries ∙ (ap (λ k. k + 1 - first) gain ∙ ap (λ k. picked_gain edges no_amp lines budget + 1 - k) first_is) in
    unit-taken st n reserve budget lines u after tried at within (rest ∙ ap (left_by reserve (mean_bits_of st n)) (bits_are ∙ length_is)) tried_is

-- what is lacking of a channel's counts
pub lacking-of-piece : (st : Settings) (n reserve budget made : ℕ) (p : PieceView) (channel : ℕ) → p.settings.sample_rate ≡ st.sample_rate → budget ≡ budget_at st n reserve (spectrum_in p channel)
    → made ≡ lacking (counts_in p channel) (first_gain_of (edges_in p) no_amp (spectrum_in p channel)) (picked_gain (edges_in p) no_amp (spectrum_in p channel) budget)
    → made ≡ unit_lacking st n reserve p channel
unfolding unit_lacking
lacking-of-piece st n reserve budget made p channel same at is =
    is ∙ ap (λ k. lacking (counts_in p channel) (first_gain_of (edges_in p) no_amp (spectrum_in p channel)) k) (gain-is st n reserve budget p.settings.sample_rate (spectrum_in p channel) same at)

-- and what it has then
pub counted-of-piece : (st : Settings) (n reserve budget : ℕ) (p q : PieceView) (channel : ℕ) → p.settings.sample_rate ≡ st.sample_rate → budget ≡ budget_at st n reserve (spectrum_in p channel)
    → HasLaneTo (edges_in p) no_amp (spectrum_in p channel) 0 (first_gain_of (edges_in p) no_amp (spectrum_in p channel)) (picked_gain (edges_in p) no_amp (spectrum_in p channel) budget) (memo_in p channel) (memo_in q channel)
    → HasUnitCounted st n reserve p q channel
counted-of-piece st n reserve budget p q channel same at has =
    subst (λ (k : ℕ). HasLaneTo (edges_in p) no_amp (spectrum_in p channel) 0 (first_gain_of (edges_in p) no_amp (spectrum_in p channel)) k (memo_in p channel) (memo_in q channel))
    (gain-is st n reserve budget p.settings.sample_rate (spectrum_in p channel) same at) has

-- it is no more than what is tried
pub lacks-at-most : (st : Settings) (n reserve : ℕ) (p : PieceView) (channel : ℕ) → p.settings.sample_rate ≡ st.sample_rate
    → unit_lacking st n reserve p channel ≤ unit_tried st n reserve (spectrum_in p channel)
unfolding unit_lacking unit_tried unit_gain
lacks-at-most st n reserve p channel same =
    let lines = spectrum_in p channel in
    let edges = band_edges st.sample_rate in
    let budget = budget_at st n reserve lines in
    subst (λ (r : SampleRate). lacking (counts_in p channel) (first_gain_of (band_edges r) no_amp lines) (picked_gain edges no_amp lines budget) ≤ tried_of edges no_amp lines budget)
    (sym same) (lacks_at_most_tried edges no_amp lines budget (counts_in p channel))

pub fewer-of-piece : (st : Settings) (n reserve : ℕ) (p : PieceView) (channel made tried : ℕ) → p.settings.sample_rate ≡ st.sample_rate → made ≡ unit_lacking st n reserve p channel
    → tried ≡ unit_tried st n reserve (spectrum_in p channel) → made ≤ tried
fewer-of-piece st n reserve p channel made tried same lacks tries =
    let most = lacks-at-most st n reserve p channel same in
    omega (arith, lacks, tries, most)

-- and as much where there are no counts
pub lacks-all : (st : Settings) (n reserve : ℕ) (p : PieceView) (channel : ℕ) → p.settings.sample_rate ≡ st.sample_rate → memo_in p channel ≡ empty_memo
    → unit_lacking st n reserve p channel ≡ unit_tried st n reserve (spectrum_in p channel)
unfolding unit_lacking unit_tried unit_gain
lacks-all st n reserve p channel same none =
    let lines = spectrum_in p channel in
    let edges = band_edges st.sample_rate in
    let budget = budget_at st n reserve lines in
    let lane : lane_of (memo_in p channel) 0 ≡ empty_lane no_amp = ap (λ (m : List LaneView). lane_of m 0) none ∙ lane_of-empty 0 in
    ap (λ (l : LaneView). lacking l.counts (first_gain_of (edges_in p) no_amp lines) (picked_gain edges no_amp lines budget)) lane
    ∙ (ap (λ (r : SampleRate). lacking no_counts (first_gain_of (band_edges r) no_amp lines) (picked_gain edges no_amp lines budget)) same
    ∙ empty_lacks_tried edges no_amp lines budget)

-- ---- a piece with another memo of a channel

set-other_0 : {A : Type 0} (xs : List A) (x none : A) (k : ℕ) → slice_index_or (slice_set xs 0 x) (suc k) none ≡ slice_index_or xs (suc k) none
set-other_0 [] x none k = refl
set-other_0 (y ∷ xs) x none k = refl

set-other_1 : {A : Type 0} (xs : List A) (x none : A) → slice_index_or (slice_set xs 1 x) 0 none ≡ slice_index_or xs 0 none
set-other_1 [] x none = refl
set-other_1 (y ∷ xs) x none = refl

set-others_1 : {A : Type 0} (xs : List A) (x none : A) (k : ℕ) → slice_index_or (slice_set xs 1 x) (suc (suc k)) none ≡ slice_index_or xs (suc (suc k)) none
set-others_1 [] x none k = refl
set-others_1 (y ∷ []) x none k = refl
set-others_1 (y ∷ z ∷ xs) x none k = refl

pub spectrum-kept : (v : PieceView) (at : ℕ) (memo : List LaneView) (channel : ℕ) → spectrum_in (with_memo v at memo) channel ≡ spectrum_in v channel
spectrum-kept v at memo zero = refl
spectrum-kept v at memo (suc channel) = refl

-- it has the spectra that it had
pub spectrum-of : (v w : PieceView) (at : ℕ) (memo : List LaneView) (channel : ℕ) → w ≡ with_memo v at memo → spectrum_in w channel ≡ spectrum_in v channel
spectrum-of v w at memo channel is = ap (λ (p : PieceView). spectrum_in p channel) is ∙ spectrum-kept v at memo channel

pub spectrum-lent : (v w : PieceView) (at : ℕ) (memo : List LaneView) (channel : ℕ) (spec : List ℤ) → w ≡ with_memo v at memo → HasSpectra v.stage
    → (HasSpectra w.stage → spec ≡ spectrum_in w channel) → spec ≡ spectrum_in v channel
spectrum-lent v w at memo channel spec is made has =
    let stage : w.stage ≡ v.stage = ap (λ (p : PieceView). p.stage) is in
    has (subst HasSpectra (sym stage) made) ∙ spectrum-of v w at memo channel is

-- the unit of the second channel, whose spectrum the choice of the first one leaves as it was
pub second-taken : (st : Settings) (n reserve : ℕ) (v w : PieceView) (memo : List LaneView) (u : Unit) (after tried : ℕ) → w ≡ with_memo v 0 memo
    → IsTaken st n reserve (spectrum_in w 1) u after tried → IsTaken st n reserve (spectrum_in v 1) u after tried
second-taken st n reserve v w memo u after tried is taken =
    subst (λ (lines : List ℤ). IsTaken st n reserve lines u after tried) (spectrum-of v w 0 memo 1 is) taken

-- what spending asks: the bits of a count within a budget are covered as the budget is
pub within-covered : (bits count budget most : ℕ) → bits ≡ count → count ≤ budget → budget ≤ most → bits ≤ most
within-covered bits count budget most is le covered = omega (arith, is)

-- and the reserve has room for a unit's share
pub has-room : (reserve mean : ℕ) → reserve < 2 ^ 40 → mean ≤ 500000000 → reserve + mean < 2 ^ 64
has-room reserve mean below small = omega arith

-- a channel of a piece is one of the piece with another memo
pub channel-kept : (v w : PieceView) (at : ℕ) (memo : List LaneView) (channel : ℕ) → w ≡ with_memo v at memo → IsChannel v channel → IsChannel w channel
channel-kept v w at memo channel is there = subst (λ (p : PieceView). IsChannel p channel) (sym is) there

-- what is picked is a count of the spectrum
pub picked-count : (edges : List ℕ) (lines spec : List ℤ) (budget : ℕ) (count : Counted) → spec ≡ lines → picked edges no_amp lines budget ≡ Some count
    → count.gain ≡ picked_gain edges no_amp lines budget → IsCountIn spec count
picked-count edges lines spec budget count own picks gain =
    let at : count_of edges no_amp lines count.gain ≡ Some count = ap (λ (k : ℕ). count_of edges no_amp lines k) gain ∙ picks in
    (edges, subst (λ (xs : List ℤ). count_of edges no_amp xs count.gain ≡ Some count) (sym own) at)

-- the number of gains that are tried, as the code finds it
pub tried-by : (tried gain_read gain first_read first : ℕ) → tried ≡ gain_read + 1 - first_read → gain_read ≡ gain → first_read ≡ first → tried ≡ gain + 1 - first
tried-by tried gain_read gain first_read first is gains firsts = is ∙ (ap (λ k. k + 1 - first_read) gains ∙ ap (λ k. gain + 1 - k) firsts)

pub few-tried : (tried gain_read gain first : ℕ) → tried ≡ gain_read + 1 - first → gain_read ≡ gain → gain < 256 → tried ≤ 256
few-tried tried gain_read gain first is gains below = omega (arith, is, gains)

pub one-more-fits : (gain_read gain : ℕ) → gain_read ≡ gain → gain < 256 → gain_read + 1 < 2 ^ 32
one-more-fits gain_read gain is below = omega (arith, is)

same-but-memos : (v w : PieceView) (at : ℕ) (memo : List LaneView) → w ≡ with_memo v at memo → w ≡ record v { memos = w.memos }
same-but-memos v w at memo is =
    is ∙ sym (ap (λ (ms : List (List LaneView)). (let p : PieceView = record v { memos = ms } in p)) (ap (λ (p : PieceView). p.memos) is))

-- ---- the units of a granule

pub lacking-mono : (st : Settings) (n reserve : ℕ) (p : PieceView) → st.channels ≡ Mono → granule_lacking st n reserve p ≡ unit_lacking st n reserve p 0
unfolding granule_lacking reserve_before
lacking-mono st n reserve p e = rw e (omega arith)

lacking-both : (st : Settings) (n reserve : ℕ) (p : PieceView) → st.channels ≡ Stereo
    → granule_lacking st n reserve p ≡ unit_lacking st n reserve p 0 + unit_lacking st n (after_unit st n reserve (spectrum_in p 0)) p 1
unfolding granule_lacking reserve_before
lacking-both st n reserve p e = rw e (omega arith)

lacking-kept : (st : Settings) (n reserve : ℕ) (v : PieceView) (memo : List LaneView) → unit_lacking st n reserve (with_memo v 0 memo) 1 ≡ unit_lacking st n reserve v 1
unfolding unit_lacking
lacking-kept st n reserve v memo =
    ap (λ (m : List LaneView). lacking (lane_of m 0).counts (first_gain_of (edges_in v) no_amp (spectrum_in v 1)) (unit_gain st n reserve (spectrum_in v 1))) (set-other_0 v.memos memo empty_memo 0)

pub lacking-stereo : (st : Settings) (n reserve mid first second : ℕ) (v w : PieceView) (memo : List LaneView) → st.channels ≡ Stereo → w ≡ with_memo v 0 memo → mid ≡ after_unit st n reserve (spectrum_in v 0)
    → first ≡ unit_lacking st n reserve v 0 → second ≡ unit_lacking st n mid w 1 → first + second ≡ granule_lacking st n reserve v
lacking-stereo st n reserve mid first second v w memo e is rest one two =
    let other : second ≡ unit_lacking st n (after_unit st n reserve (spectrum_in v 0)) v 1 =
    two ∙ (ap (λ (p : PieceView). unit_lacking st n mid p 1) is ∙ (lacking-kept st n mid v memo ∙ ap (λ r. unit_lacking st n r v 1) rest)) in
    let whole = lacking-both st n reserve v e in
    omega (arith, one, other, whole)

pub committed-mono : (st : Settings) (n reserve : ℕ) (v w : PieceView) → v.settings.channels ≡ Mono → w ≡ with_memo v 0 (memo_in w 0) → HasUnitCounted st n reserve v w 0
    → IsCommitted st n reserve v w
unfolding reserve_before
committed-mono st n reserve v w e is first = record {
  same = same-but-memos v w 0 (memo_in w 0) is;
  counts = counts;
  absent = absent;
}
  where
    one : channels_of v.settings.channels ≡ 1
    one = ap channels_of e

    counts : (channel : ℕ) → IsChannel v channel → HasUnitCounted st n (reserve_before st n reserve (spectrum_in v) channel) v w channel
    counts zero lt = first
    counts (suc k) lt = absurd (omega (arith, one))

    absent : (channel : ℕ) → channels_of v.settings.channels ≤ channel → memo_in w channel ≡ memo_in v channel
    absent zero le = absurd (omega (arith, one))
    absent (suc k) le = ap (λ (p : PieceView). memo_in p (suc k)) is ∙ set-other_0 v.memos (memo_in w 0) empty_memo k

pub committed-stereo : (st : Settings) (n reserve mid : ℕ) (v u w : PieceView) → v.settings.channels ≡ Stereo → u ≡ with_memo v 0 (memo_in u 0) → w ≡ with_memo u 1 (memo_in w 1)
    → mid ≡ after_unit st n reserve (spectrum_in v 0) → HasUnitCounted st n reserve v u 0 → HasUnitCounted st n mid u w 1 → IsCommitted st n reserve v w
unfolding reserve_before
committed-stereo st n reserve mid v u w e is next rest first second = record {
  same = same;
  counts = counts;
  absent = absent;
}
  where
    two : channels_of v.settings.channels ≡ 2
    two = ap channels_of e

    both : w ≡ with_memo (with_memo v 0 (memo_in u 0)) 1 (memo_in w 1)
    both = next ∙ ap (λ (p : PieceView). with_memo p 1 (memo_in w 1)) is

    same : w ≡ record v { memos = w.memos }
    same = both ∙ sym (ap (λ (ms : List (List LaneView)). (let p : PieceView = record v { memos = ms } in p)) (ap (λ (p : PieceView). p.memos) both))

    left_kept : memo_in w 0 ≡ memo_in u 0
    left_kept = ap (λ (p : PieceView). memo_in p 0) next ∙ set-other_1 u.memos (memo_in w 1) empty_memo

    right_kept : memo_in (with_memo v 0 (memo_in u 0)) 1 ≡ memo_in v 1
    right_kept = set-other_0 v.memos (memo_in u 0) empty_memo 0

    left : HasUnitCounted st n reserve v w 0
    left = subst (λ (m : List LaneView). HasLaneTo (edges_in v) no_amp (spectrum_in v 0) 0 (first_gain_of (edges_in v) no_amp (spectrum_in v 0)) (unit_gain st n reserve (spectrum_in v 0)) (memo_in v 0) m) (sym left_kept) first

    own : HasUnitCounted st n mid (with_memo v 0 (memo_in u 0)) w 1
    own = subst (λ (p : PieceView). HasUnitCounted st n mid p w 1) is second

    right_at : HasUnitCounted st n mid v w 1
    right_at = subst (λ (m : List LaneView). HasLaneTo (edges_in v) no_amp (spectrum_in v 1) 0 (first_gain_of (edges_in v) no_amp (spectrum_in v 1)) (unit_gain st n mid (spectrum_in v 1)) m (memo_in w 1)) right_kept own

    right : HasUnitCounted st n (after_unit st n reserve (spectrum_in v 0)) v w 1
    right = subst (λ (r : ℕ). HasUnitCounted st n r v w 1) rest right_at

    counts : (channel : ℕ) → IsChannel v channel → HasUnitCounted st n (reserve_before st n reserve (spectrum_in v) channel) v w channel
    counts zero lt = left
    counts (suc zero) lt = right
    counts (suc (suc k)) lt = absurd (omega (arith, two))

    absent : (channel : ℕ) → channels_of v.settings.channels ≤ channel → memo_in w channel ≡ memo_in v channel
    absent zero le = absurd (omega (arith, two))
    absent (suc zero) le = absurd (omega (arith, two))
    absent (suc (suc k)) le =
        ap (λ (p : PieceView). memo_in p (suc (suc k))) next
        ∙ (set-others_1 u.memos (memo_in w 1) empty_memo k ∙ (ap (λ (p : PieceView). memo_in p (suc (suc k))) is ∙ set-other_0 v.memos (memo_in u 0) empty_memo (suc k)))

tried-mono : (st : Settings) (n reserve : ℕ) (lines : ℕ → List ℤ) → st.channels ≡ Mono → unit_tried st n reserve (lines 0) ≡ granule_tried st n reserve lines
unfolding granule_tried
tried-mono st n reserve lines e = sym (ap (λ (c : Channels). granule_tried_by c st n reserve lines) e)

tried-stereo : (st : Settings) (n reserve : ℕ) (lines : ℕ → List ℤ) → st.channels ≡ Stereo
    → unit_tried st n reserve (lines 0) + unit_tried st n (after_unit st n reserve (lines 0)) (lines 1) ≡ granule_tried st n reserve lines
unfolding granule_tried
tried-stereo st n reserve lines e = sym (ap (λ (c : Channels). granule_tried_by c st n reserve lines) e)

-- a piece with no counts lacks all that is tried
pub granule-lacks-all : (st : Settings) (n reserve : ℕ) (p : PieceView) → p.settings.sample_rate ≡ st.sample_rate → p.memos ≡ no_memos
    → granule_lacking st n reserve p ≡ granule_tried st n reserve (spectrum_in p)
granule-lacks-all st n reserve p same none = by st.channels refl
  where
    first : memo_in p 0 ≡ empty_memo
    first = ap (λ (ms : List (List LaneView)). slice_index_or ms 0 empty_memo) none

    second : memo_in p 1 ≡ empty_memo
    second = ap (λ (ms : List (List LaneView)). slice_index_or ms 1 empty_memo) none

    by : (ch : Channels) → st.channels ≡ ch → granule_lacking st n reserve p ≡ granule_tried st n reserve (spectrum_in p)
    by Mono e = lacking-mono st n reserve p e ∙ (lacks-all st n reserve p 0 same first ∙ tried-mono st n reserve (spectrum_in p) e)
    by Stereo e =
        let one = lacks-all st n reserve p 0 same first in
        let two = lacks-all st n (after_unit st n reserve (spectrum_in p 0)) p 1 same second in
        let whole = lacking-both st n reserve p e in
        let tried = tried-stereo st n reserve (spectrum_in p) e in
        omega (arith, one, two, whole, tried)
