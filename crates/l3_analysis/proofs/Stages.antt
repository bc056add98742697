-- What holds of a piece's channels from stage to stage.
use Rattle.std.proofs.Common.{◌≡◌, List, ◌∙◌, subst, ℤ}
use Rattle.l3_base.specs.declared.rate.Channels.{Channels}
use Rattle.l3_base.specs.declared.rate.Channels.TheVariants.{Mono, Stereo}
use Rattle.l3_base.specs.declared.rate.SampleRate.{SampleRate}
use Rattle.l3_base.specs.Amp.{no_amp}
use Rattle.l3_base.specs.Rates.{hertz_index_of}
use Rattle.l3_transform.specs.Spectrum.{spectrum_of}
use Rattle.l3_transform.specs.Demand.{demand_of}
use Rattle.l3_count.specs.Bands.{band_edges}
use Rattle.l3_count.specs.Memo.{IsMemoOf, empty_memo, lane_of}
use Rattle.l3_count.proofs.Memos.{IsMemoOf-empty, amp-new}
use Rattle.l3_analysis.specs.declared.analysis.Analysis.{Analysis}
use Rattle.l3_analysis.specs.declared.stage.Stage.{Stage}
use Rattle.l3_analysis.specs.declared.stage.Stage.TheVariants.{Loaded, Transformed}
use Rattle.l3_analysis.specs.Analysis.{IsAnalysisOf, IsAtStage, IsSecond}

-- loaded, the memo is empty
pub empty-loaded : (stage : Stage) (rate : SampleRate) (samples : List ℤ) (a : Analysis) →
    stage ≡ Loaded → IsAtStage stage rate samples a → a.memo ≡ empty_memo
empty-loaded stage rate samples a e is =
    let at : IsAtStage Loaded rate samples a = subst (λ (s : Stage). IsAtStage s rate samples a) e is in at

-- transformed, what is kept is the analysis
pub analysis-transformed : (stage : Stage) (rate : SampleRate) (samples : List ℤ) (a : Analysis) →
    stage ≡ Transformed → IsAtStage stage rate samples a → IsAnalysisOf rate samples a
analysis-transformed stage rate samples a e is =
    let at : IsAtStage Transformed rate samples a = subst (λ (s : Stage). IsAtStage s rate samples a) e is in at

-- spectrum and demand of the samples with an empty memo
pub analysis-of_empty : (rate : SampleRate) (samples : List ℤ) (a : Analysis) →
    a.spectrum ≡ spectrum_of samples →
    a.demand ≡ demand_of (hertz_index_of rate) (spectrum_of samples) → a.memo ≡ empty_memo →
    IsAnalysisOf rate samples a
analysis-of_empty rate samples a spectrum demand empty =
    record {
      spectrum = spectrum;
      demand = demand;
      memo = rw empty (IsMemoOf-empty (band_edges rate) (spectrum_of samples));
      plain = amp-new a.memo 0 empty;
    }

-- the same spectrum and demand with another memo of that spectrum
pub analysis-with_memo : (rate : SampleRate) (samples : List ℤ) (a b : Analysis) →
    IsAnalysisOf rate samples a → b.spectrum ≡ a.spectrum → b.demand ≡ a.demand →
    IsMemoOf (band_edges rate) a.spectrum b.memo → (lane_of b.memo 0).amp ≡ no_amp →
    IsAnalysisOf rate samples b
analysis-with_memo rate samples a b is spectrum demand memo plain =
    record {
      spectrum = spectrum ∙ is.spectrum;
      demand = demand ∙ is.demand;
      memo = subst (λ (lines : List ℤ). IsMemoOf (band_edges rate) lines b.memo) is.spectrum memo;
      plain = plain;
    }

-- in mono the second channel stays as it is
pub second-mono : (channels : Channels) (before after : Stage) (rate : SampleRate) (samples : List ℤ) (a : Analysis) → channels ≡ Mono → IsSecond channels before rate samples a → IsSecond channels after rate samples a
second-mono Mono before after rate samples a e is = is
second-mono Stereo before after rate samples a e is = absurd (cc)

-- in stereo it is a channel like the first
pub second-stereo : (channels : Channels) (stage : Stage) (rate : SampleRate) (samples : List ℤ) (a : Analysis) → channels ≡ Stereo → IsSecond channels stage rate samples a → IsAtStage stage rate samples a
second-stereo Mono stage rate samples a e is = absurd (cc)
second-stereo Stereo stage rate samples a e is = is

pub second-is : (channels : Channels) (stage : Stage) (rate : SampleRate) (samples : List ℤ) (a : Analysis) → channels ≡ Stereo → IsAtStage stage rate samples a → IsSecond channels stage rate samples a
second-is Mono stage rate samples a e is = absurd (cc)
second-is Stereo stage rate samples a e is = is
