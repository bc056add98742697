-- What holds of a piece's channels at each stage makes the piece sound.
use Rattle.std.proofs.Common.{◌≡◌, ℕ, zero, suc, ◌<◌, ◌≤◌, List, [], ◌∷◌, refl, arith, ℤ}
use Rattle.l3_base.specs.declared.rate.Channels.{Channels}
use Rattle.l3_base.specs.declared.rate.Channels.TheVariants.{Mono, Stereo}
use Rattle.l3_base.specs.declared.rate.SampleRate.{SampleRate}
use Rattle.l3_base.specs.declared.settings.Settings.{Settings}
use Rattle.l3_base.specs.declared.slots.Window.{Window}
use Rattle.l3_base.specs.Amp.{no_amp}
use Rattle.l3_base.specs.Rates.{channels_of}
use Rattle.l3_transform.specs.Spectrum.{spectrum_of}
use Rattle.l3_count.specs.Bands.{band_edges}
use Rattle.l3_count.specs.Memo.{IsMemoOf, LaneView, empty_memo, lane_of}
use Rattle.l3_count.proofs.Memos.{amp-new}
use Rattle.l3_analysis.specs.declared.analysis.Analysis.{Analysis}
use Rattle.l3_analysis.specs.declared.stage.Stage.{Stage}
use Rattle.l3_analysis.specs.declared.stage.Stage.TheVariants.{Blank, Loaded, Transformed, Presumed}
use Rattle.l3_analysis.specs.Analysis.{AreAnalyses, IsAtStage, IsSecond}
use Rattle.l3_analysis.specs.Piece.{HasSpectra, IsChannel, IsSound, PieceView, edges_in, memo_in, no_memos, spectrum_in}

-- the first lane is under no amplification
plain-at : (stage : Stage) (rate : SampleRate) (samples : List ℤ) (a : Analysis) →
    IsAtStage stage rate samples a → (lane_of a.memo 0).amp ≡ no_amp
plain-at Blank rate samples a is = amp-new a.memo 0 is
plain-at Loaded rate samples a is = amp-new a.memo 0 is
plain-at Transformed rate samples a is = is.plain
plain-at Presumed rate samples a is = is.plain

plain-second : (channels : Channels) (stage : Stage) (rate : SampleRate) (samples : List ℤ) (a : Analysis) → IsSecond channels stage rate samples a → (lane_of a.memo 0).amp ≡ no_amp
plain-second Mono stage rate samples a is = amp-new a.memo 0 is
plain-second Stereo stage rate samples a is = plain-at stage rate samples a is

-- where the spectrum is there, the memo is one of it
counts-at : (stage : Stage) (rate : SampleRate) (samples : List ℤ) (a : Analysis) →
    HasSpectra stage → IsAtStage stage rate samples a →
    IsMemoOf (band_edges rate) (spectrum_of samples) a.memo
counts-at Blank rate samples a none is = absurd none
counts-at Loaded rate samples a none is = absurd none
counts-at Transformed rate samples a has is = is.memo
counts-at Presumed rate samples a has is = is.memo

counts-second : (channels : Channels) (stage : Stage) (rate : SampleRate) (samples : List ℤ) (a : Analysis) → 1 < channels_of channels → HasSpectra stage → IsSecond channels stage rate samples a →
    IsMemoOf (band_edges rate) (spectrum_of samples) a.memo
counts-second Mono stage rate samples a lt has is = absurd (omega arith)
counts-second Stereo stage rate samples a lt has is = counts-at stage rate samples a has is

-- before that it is empty
empty-at : (stage : Stage) (rate : SampleRate) (samples : List ℤ) (a : Analysis) →
    (HasSpectra stage → ⊥) → IsAtStage stage rate samples a → a.memo ≡ empty_memo
empty-at Blank rate samples a none is = is
empty-at Loaded rate samples a none is = is
empty-at Transformed rate samples a none is = absurd (none tt)
empty-at Presumed rate samples a none is = absurd (none tt)

empty-second : (channels : Channels) (stage : Stage) (rate : SampleRate) (samples : List ℤ) (a : Analysis) → (HasSpectra stage → ⊥) → IsSecond channels stage rate samples a → a.memo ≡ empty_memo
empty-second Mono stage rate samples a none is = is
empty-second Stereo stage rate samples a none is = empty-at stage rate samples a none is

two-empty : (first second : List LaneView) → first ≡ empty_memo → second ≡ empty_memo →
    first ∷ second ∷ [] ≡ no_memos
two-empty first second e f = rw (e, f) refl

-- a channel that is not there has none
absent-second : (channels : Channels) (stage : Stage) (rate : SampleRate) (samples : List ℤ) (a : Analysis) → channels_of channels ≤ 1 → IsSecond channels stage rate samples a → a.memo ≡ empty_memo
absent-second Mono stage rate samples a le is = is
absent-second Stereo stage rate samples a le is = absurd (omega arith)

channels-few : (channels : Channels) → (1 ≤ channels_of channels) × (channels_of channels ≤ 2)
channels-few Mono = (omega arith, omega arith)
channels-few Stereo = (omega arith, omega arith)

pub sound : (st : Settings) (number : ℕ) (stage : Stage) (guess : ℕ) (window : Window) (left right : Analysis) → AreAnalyses st stage window left right →
    (let v : PieceView = record { settings = st; number = number; stage = stage; guess = guess; window = window; memos = left.memo ∷ right.memo ∷ [] } in IsSound v)
sound st number stage guess window left right is = record {
  two = refl;
  plain = λ channel. plain channel;
  counts = λ has channel lt. counts has channel lt;
  before = λ none.
      two-empty left.memo right.memo (empty-at stage st.sample_rate window.left left none is.one) (empty-second st.channels stage st.sample_rate window.right right none is.two);
  absent = λ channel le. absent channel le;
}
  where
    v : PieceView
    v = record { settings = st; number = number; stage = stage; guess = guess; window = window; memos = left.memo ∷ right.memo ∷ [] }

    plain : (channel : ℕ) → (lane_of (memo_in v channel) 0).amp ≡ no_amp
    plain zero = plain-at stage st.sample_rate window.left left is.one
    plain (suc zero) = plain-second st.channels stage st.sample_rate window.right right is.two
    plain (suc (suc k)) = amp-new empty_memo 0 refl

    counts : HasSpectra stage → (channel : ℕ) → IsChannel v channel →
        IsMemoOf (edges_in v) (spectrum_in v channel) (memo_in v channel)
    counts has zero lt = counts-at stage st.sample_rate window.left left has is.one
    counts has (suc zero) lt = counts-second st.channels stage st.sample_rate window.right right lt has is.two
    counts has (suc (suc k)) lt = absurd (omega (arith, (channels-few st.channels).1))

    absent : (channel : ℕ) → channels_of st.channels ≤ channel → memo_in v channel ≡ empty_memo
    absent zero le = absurd (omega (arith, (channels-few st.channels).0))
    absent (suc zero) le = absent-second st.channels stage st.sample_rate window.right right le is.two
    absent (suc (suc k)) le = refl
