-- Laws of the counts that pieces bring along, each carried by a function of src/laws.rt.
use Rattle.std.specs.Prelude.{◌≡◌, ℕ, ◌<◌, List, ℤ, Some}
use Rattle.l3_base.specs.Amp.{no_amp}
use Rattle.l3_base.specs.Rates.{channels_of}
use Rattle.l3_base.specs.Spectrum.{IsSpectrum}
use Rattle.l3_base.specs.declared.settings.Settings.{Settings}
use Rattle.l3_base.specs.Bands.{band_edges}
use Rattle.l3_quant.specs.Gains.{first_gain_of}
use Rattle.l3_count.specs.Count.{Counted, count_of}
use Rattle.l3_count.specs.Memo.{kept_at, no_counts}
use Rattle.l3_search.specs.Gain.{HasCountsTo}
use Rattle.l3_analysis.specs.Piece.{IsChannel, PieceView, counts_in, edges_in, no_memos, spectrum_in}
use Rattle.l3_analysis.specs.Presumed.{IsPresumed, frame_in, presumed_gain}
use Rattle.l3_commit.specs.Encoding.{spectra_of}
use Rattle.l3_commit.specs.Lacking.{granule_lacking}
use Rattle.l3_commit.specs.Tried.{granule_tried}
use Rattle.l3_speculation.specs.Reused.{granule_reused}
use Rattle.l3_speculation.specs.Run.{IsRight}

-- each count that a right piece brings along is that of the granule's own spectrum
abbrev pub BringsSound : Type 0
BringsSound = (st : Settings) (left right : List ℤ) (number : ℕ) (x : PieceView) → IsRight st left right number x →
    (channel gain : ℕ) (c : Counted) → channel < channels_of st.channels → kept_at (counts_in x channel) gain ≡ Some c →
    count_of (band_edges st.sample_rate) no_amp (spectra_of left right number channel) gain ≡ Some c

-- a piece with no counts that is presumed has just the counts of the gains from the first to that
-- which is picked under its guess
abbrev pub BringsExact : Type 0
BringsExact = (before after : PieceView) (channel : ℕ) → before.memos ≡ no_memos → IsPresumed before after → IsChannel before channel →
    HasCountsTo (edges_in before) no_amp (spectrum_in before channel) (first_gain_of (edges_in before) no_amp (spectrum_in before channel))
    (presumed_gain before channel) no_counts (counts_in after channel)

-- where a piece supposes the reserve that there is before its granule, presuming it spares all
-- counts
pub record IsSpared (st : Settings) (n reserve : ℕ) (x : PieceView) : Type 0 where
  pub lacking : granule_lacking st n reserve x ≡ 0
  pub reused : granule_reused st n reserve x ≡ granule_tried st n reserve (spectrum_in x)

abbrev pub BringsSpared : Type 0
BringsSpared = (before after : PieceView) → IsPresumed before after →
    ((channel : ℕ) → IsChannel before channel → IsSpectrum (spectrum_in before channel)) →
    IsSpared before.settings (frame_in before) before.guess after
