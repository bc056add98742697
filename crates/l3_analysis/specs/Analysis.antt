-- What a piece keeps of its channels.
use Rattle.std.specs.Prelude.{◌≡◌, List, ℤ}
use Rattle.l3_base.specs.declared.rate.Channels.{Channels}
use Rattle.l3_base.specs.declared.rate.Channels.TheVariants.{Mono, Stereo}
use Rattle.l3_base.specs.declared.rate.SampleRate.{SampleRate}
use Rattle.l3_base.specs.declared.settings.Settings.{Settings}
use Rattle.l3_base.specs.declared.slots.Window.{Window}
use Rattle.l3_base.specs.Amp.{no_amp}
use Rattle.l3_base.specs.Rates.{hertz_index_of}
use Rattle.l3_transform.specs.Spectrum.{spectrum_of}
use Rattle.l3_transform.specs.Demand.{demand_of}
use Rattle.l3_count.specs.Bands.{band_edges}
use Rattle.l3_count.specs.Memo.{IsMemoOf, empty_memo, lane_of}
use Rattle.l3_analysis.specs.declared.analysis.Analysis.{Analysis}
use Rattle.l3_analysis.specs.declared.stage.Stage.{Stage}
use Rattle.l3_analysis.specs.declared.stage.Stage.TheVariants.{Blank, Loaded, Transformed, Presumed}

-- spectrum and demand are those of the samples, and the memo's counts are the spectrum's; its first
-- lane is under no amplification
pub record IsAnalysisOf (rate : SampleRate) (samples : List ℤ) (a : Analysis) : Type 0 where
  pub spectrum : a.spectrum ≡ spectrum_of samples
  pub demand : a.demand ≡ demand_of (hertz_index_of rate) (spectrum_of samples)
  pub memo : IsMemoOf (band_edges rate) (spectrum_of samples) a.memo
  pub plain : (lane_of a.memo 0).amp ≡ no_amp

-- what holds of a channel that is there: the memo is empty before the spectrum is made
abbrev pub IsAtStage : Stage → SampleRate → List ℤ → Analysis → Type 0
IsAtStage Blank rate samples a = a.memo ≡ empty_memo
IsAtStage Loaded rate samples a = a.memo ≡ empty_memo
IsAtStage Transformed rate samples a = IsAnalysisOf rate samples a
IsAtStage Presumed rate samples a = IsAnalysisOf rate samples a

-- what holds of the second channel: in mono its memo is empty
abbrev pub IsSecond : Channels → Stage → SampleRate → List ℤ → Analysis → Type 0
IsSecond Mono stage rate samples a = a.memo ≡ empty_memo
IsSecond Stereo stage rate samples a = IsAtStage stage rate samples a

-- what holds of both
pub record AreAnalyses (st : Settings) (stage : Stage) (window : Window) (first second : Analysis) : Type 0 where
  pub one : IsAtStage stage st.sample_rate window.left first
  pub two : IsSecond st.channels stage st.sample_rate window.right second
