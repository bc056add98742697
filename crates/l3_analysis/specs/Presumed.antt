-- What is counted of a piece under the reserve that it supposes.
use Rattle.std.specs.Prelude.{◌≡◌, ◌≤◌, ℕ, zero, suc, ◌/◌, List, map, Option, Some, None, ℤ}
use Rattle.std.specs.List.{sum}
use Rattle.l3_search.specs.Lengths.{mean_bits_of, mmax_of}
use Rattle.l3_search.specs.Budget.{budget_of, left_by}
use Rattle.l3_base.specs.declared.settings.Settings.{Settings}
use Rattle.l3_base.specs.Amp.{no_amp}
use Rattle.l3_base.specs.Rates.{channels_of}
use Rattle.l3_count.specs.Bands.{band_edges}
use Rattle.l3_count.specs.Count.{Counted}
use Rattle.l3_count.specs.Gains.{first_gain_of}
use Rattle.l3_search.specs.Gain.{HasLaneTo, lacking, picked, picked_gain}
use Rattle.l3_analysis.specs.declared.stage.Stage.TheVariants.{Presumed}
use Rattle.l3_analysis.specs.Piece.{PieceView, IsChannel, channels_in, counts_in, demand_in, edges_in, memo_in, spectrum_in}

-- the bits of a count
abbrev pub bits_in : Option Counted → ℕ
bits_in None = 0
bits_in (Some c) = c.bits

-- the budget of a unit of a frame under a reserve
abbrev pub budget_under : Settings → (frame reserve demand : ℕ) → ℕ
budget_under st frame reserve demand = budget_of reserve (mean_bits_of st frame) (mmax_of st) demand

-- the reserve after it, which takes the bits of the count that is picked for that budget
abbrev pub reserve_after : Settings → (frame reserve demand : ℕ) → List ℤ → ℕ
reserve_after st frame reserve demand lines =
    let edges = band_edges st.sample_rate in
    left_by reserve (mean_bits_of st frame) (bits_in (picked edges no_amp lines (budget_under st frame reserve demand)))

-- the frame of a piece: it has two granules
abbrev pub frame_in : PieceView → ℕ
frame_in v = v.number / 2

-- the reserve before a channel: what is supposed, less what the channels before it take
unfoldable pub reserve_before : PieceView → ℕ → ℕ
reserve_before v zero = v.guess
reserve_before v (suc channel) = reserve_after v.settings (frame_in v) (reserve_before v channel) (demand_in v channel) (spectrum_in v channel)

-- the gain that is picked for a channel under that reserve
unfoldable pub presumed_gain : PieceView → ℕ → ℕ
presumed_gain v channel =
    let budget = budget_under v.settings (frame_in v) (reserve_before v channel) (demand_in v channel) in picked_gain (edges_in v) no_amp (spectrum_in v channel) budget

-- how many counts are made for a channel: the gains from its first to the picked one that its memo
-- lacks
abbrev pub presumed_steps_in : PieceView → ℕ → ℕ
presumed_steps_in v channel = lacking (counts_in v channel) (first_gain_of (edges_in v) no_amp (spectrum_in v channel)) (presumed_gain v channel)

-- how many are made for all channels
unfoldable pub presumed_steps : PieceView → ℕ
presumed_steps v = sum (map (presumed_steps_in v) (channels_in v.settings.channels))

-- each memo has in its first lane the counts of all gains from the first to the picked one besides
-- what it had; a channel that is not there keeps its memo, and nothing else changes but the stage
pub record IsPresumed (before after : PieceView) : Type 0 where
  pub same : after ≡ record before { stage = Presumed; memos = after.memos }
  pub counts : (channel : ℕ) → IsChannel before channel →
      HasLaneTo (edges_in before) no_amp (spectrum_in before channel) 0 (first_gain_of (edges_in before) no_amp (spectrum_in before channel)) (presumed_gain before channel) (memo_in before channel) (memo_in after channel)
  pub absent : (channel : ℕ) → channels_of before.settings.channels ≤ channel →
      memo_in after channel ≡ memo_in before channel
