-- The channels of a piece in turn, under the reserve that it supposes.
use Rattle.std.proofs.Common.{◌≡◌, ℕ, zero, suc, ◌+◌, ◌≤◌, List, refl, ap, arith, ℤ}
use Rattle.l3_base.specs.declared.rate.Channels.TheVariants.{Mono, Stereo}
use Rattle.l3_base.specs.Amp.{no_amp}
use Rattle.l3_base.specs.Rates.{channels_of}
use Rattle.l3_count.specs.Memo.{LaneView}
use Rattle.l3_count.specs.Gains.{first_gain_of}
use Rattle.l3_search.specs.Gain.{HasLaneTo, lacking, picked_gain}
use Rattle.l3_analysis.specs.declared.stage.Stage.TheVariants.{Presumed}
use Rattle.l3_analysis.specs.Piece.{PieceView, IsChannel, counts_in, demand_in, edges_in, memo_in, spectrum_in}
use Rattle.l3_analysis.specs.Presumed.{IsPresumed, budget_under, frame_in, presumed_gain, presumed_steps, presumed_steps_in, reserve_after, reserve_before}

-- the first channel has what is supposed
pub reserve_before-first : (v : PieceView) → reserve_before v 0 ≡ v.guess
unfolding reserve_before
reserve_before-first v = refl

-- the second has what the first leaves
pub reserve_before-second : (v : PieceView) (frame reserve demand : ℕ) (lines : List ℤ) →
    lines ≡ spectrum_in v 0 → demand ≡ demand_in v 0 → frame ≡ frame_in v → reserve ≡ v.guess →
    reserve_after v.settings frame reserve demand lines ≡ reserve_before v 1
unfolding reserve_before
reserve_before-second v frame reserve demand lines e f n r = rw (e, f, n, r) refl

-- the gain that is picked for what the code holds of a channel
pub presumed_gain-is : (v : PieceView) (channel frame reserve demand : ℕ) (lines : List ℤ) →
    lines ≡ spectrum_in v channel → demand ≡ demand_in v channel → frame ≡ frame_in v →
    reserve ≡ reserve_before v channel →
    picked_gain (edges_in v) no_amp lines (budget_under v.settings frame reserve demand) ≡ presumed_gain v channel
unfolding presumed_gain
presumed_gain-is v channel frame reserve demand lines e f n r = rw (e, f, n, r) refl

-- its counts
pub counts-presumed : (v : PieceView) (channel gain : ℕ) (lines : List ℤ) (before after : List LaneView) → lines ≡ spectrum_in v channel → gain ≡ presumed_gain v channel →
    HasLaneTo (edges_in v) no_amp lines 0 (first_gain_of (edges_in v) no_amp lines) gain before after →
    HasLaneTo (edges_in v) no_amp (spectrum_in v channel) 0 (first_gain_of (edges_in v) no_amp (spectrum_in v channel)) (presumed_gain v channel) before after
counts-presumed v channel gain lines before after e f h = rw (e, f) at h

-- its steps
pub steps-presumed : (v : PieceView) (channel gain : ℕ) (lines : List ℤ) →
    lines ≡ spectrum_in v channel → gain ≡ presumed_gain v channel →
    lacking (counts_in v channel) (first_gain_of (edges_in v) no_amp lines) gain ≡ presumed_steps_in v channel
steps-presumed v channel gain lines e f = rw (e, f) refl

-- the steps of all channels
pub presumed_steps-mono : (v : PieceView) → v.settings.channels ≡ Mono →
    presumed_steps v ≡ presumed_steps_in v 0
unfolding presumed_steps
presumed_steps-mono v e = rw e (omega arith)

pub presumed_steps-stereo : (v : PieceView) → v.settings.channels ≡ Stereo →
    presumed_steps v ≡ presumed_steps_in v 0 + presumed_steps_in v 1
unfolding presumed_steps
presumed_steps-stereo v e = rw e (omega arith)

-- what a channel has after presuming
abbrev pub HasPresumed : PieceView → PieceView → ℕ → Type 0
HasPresumed v w channel = HasLaneTo (edges_in v) no_amp (spectrum_in v channel) 0 (first_gain_of (edges_in v) no_amp (spectrum_in v channel)) (presumed_gain v channel) (memo_in v channel) (memo_in w channel)

-- in mono: the first channel
pub counts-mono : (v w : PieceView) → channels_of v.settings.channels ≡ 1 → HasPresumed v w 0 →
    (channel : ℕ) → IsChannel v channel → HasPresumed v w channel
counts-mono v w one first zero lt = first
counts-mono v w one first (suc k) lt = absurd (omega arith)

pub absent-mono : (v w : PieceView) → channels_of v.settings.channels ≡ 1 →
    ((k : ℕ) → memo_in w (suc k) ≡ memo_in v (suc k)) → (channel : ℕ) →
    channels_of v.settings.channels ≤ channel → memo_in w channel ≡ memo_in v channel
absent-mono v w one others zero le = absurd (omega arith)
absent-mono v w one others (suc k) le = others k

pub presumed-mono : (v w : PieceView) → v.settings.channels ≡ Mono →
    w ≡ record v { stage = Presumed; memos = w.memos } → HasPresumed v w 0 →
    ((k : ℕ) → memo_in w (suc k) ≡ memo_in v (suc k)) → IsPresumed v w
presumed-mono v w e same first others =
    let one : channels_of v.settings.channels ≡ 1 = ap channels_of e in
    record { same = same; counts = counts-mono v w one first; absent = absent-mono v w one others }

-- in stereo: both
pub counts-stereo : (v w : PieceView) → channels_of v.settings.channels ≡ 2 → HasPresumed v w 0 →
    HasPresumed v w 1 → (channel : ℕ) → IsChannel v channel → HasPresumed v w channel
counts-stereo v w two first second zero lt = first
counts-stereo v w two first second (suc zero) lt = second
counts-stereo v w two first second (suc (suc k)) lt = absurd (omega arith)

pub absent-stereo : (v w : PieceView) → channels_of v.settings.channels ≡ 2 →
    ((k : ℕ) → memo_in w (suc (suc k)) ≡ memo_in v (suc (suc k))) → (channel : ℕ) →
    channels_of v.settings.channels ≤ channel → memo_in w channel ≡ memo_in v channel
absent-stereo v w two others zero le = absurd (omega arith)
absent-stereo v w two others (suc zero) le = absurd (omega arith)
absent-stereo v w two others (suc (suc k)) le = others k

pub presumed-stereo : (v w : PieceView) → v.settings.channels ≡ Stereo →
    w ≡ record v { stage = Presumed; memos = w.memos } → HasPresumed v w 0 → HasPresumed v w 1 →
    ((k : ℕ) → memo_in w (suc (suc k)) ≡ memo_in v (suc (suc k))) → IsPresumed v w
presumed-stereo v w e same first second others =
    let two : channels_of v.settings.channels ≡ 2 = ap channels_of e in
    record { same = same; counts = counts-stereo v w two first second; absent = absent-stereo v w two others }
