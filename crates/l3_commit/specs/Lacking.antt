-- What a piece's counts lack for the units of its granule, and what they have after these are chosen.
use Rattle.std.specs.Prelude.{◌≡◌, ◌≤◌, ℕ, zero, suc, map, List, ℤ}
use Rattle.std.specs.List.{sum}
use Rattle.l3_base.specs.Amp.{no_amp}
use Rattle.l3_base.specs.Rates.{channels_of}
use Rattle.l3_base.specs.declared.settings.Settings.{Settings}
use Rattle.l3_base.specs.Bands.{band_edges}
use Rattle.l3_quant.specs.Gains.{first_gain_of}
use Rattle.l3_search.specs.Gain.{HasLaneTo, lacking, picked_gain}
use Rattle.l3_analysis.specs.Piece.{PieceView, IsChannel, channels_in, counts_in, edges_in, memo_in, spectrum_in}
use Rattle.l3_commit.specs.Choice.{budget_at, after_unit}

-- other settings are the same but for the rate
pub record IsLike (st other : Settings) : Type 0 where
  pub sample_rate_is : other.sample_rate ≡ st.sample_rate
  pub channels_is : other.channels ≡ st.channels

-- the gain of a unit of frame n
unfoldable pub unit_gain : Settings → (n reserve : ℕ) → List ℤ → ℕ
unit_gain st n reserve lines = picked_gain (band_edges st.sample_rate) no_amp lines (budget_at st n reserve lines)

-- the reserve before a channel's unit, by that before its granule; `lines` is the granule's spectra
-- by channel
unfoldable pub reserve_before : Settings → (n reserve : ℕ) → (ℕ → List ℤ) → ℕ → ℕ
reserve_before st n reserve lines zero = reserve
reserve_before st n reserve lines (suc channel) = after_unit st n (reserve_before st n reserve lines channel) (lines channel)

-- for how many of the gains that a unit tries, from the first to its own, the piece has no count,
-- by the reserve before the unit
unfoldable pub unit_lacking : Settings → (n reserve : ℕ) → PieceView → ℕ → ℕ
unit_lacking st n reserve p channel =
    let lines = spectrum_in p channel in lacking (counts_in p channel) (first_gain_of (edges_in p) no_amp lines) (unit_gain st n reserve lines)

-- for how many of those that all units of its granule try, by the reserve before the granule
unfoldable pub granule_lacking : Settings → (n reserve : ℕ) → PieceView → ℕ
granule_lacking st n reserve p =
    sum (map (λ channel. unit_lacking st n (reserve_before st n reserve (spectrum_in p) channel) p channel) (channels_in st.channels))

-- a channel's memo has the counts of all gains that its unit tries besides what it had, by the
-- reserve before the unit
abbrev pub HasUnitCounted : Settings → (n reserve : ℕ) → (before after : PieceView) → ℕ → Type 0
HasUnitCounted st n reserve before after channel =
    let lines = spectrum_in before channel in
    HasLaneTo (edges_in before) no_amp lines 0 (first_gain_of (edges_in before) no_amp lines) (unit_gain st n reserve lines) (memo_in before channel) (memo_in after channel)

-- so has each channel that is there, by the reserve before the granule, and all else stays
pub record IsCommitted (st : Settings) (n reserve : ℕ) (before after : PieceView) : Type 0 where
  pub same : after ≡ record before { memos = after.memos }
  pub counts : (channel : ℕ) → IsChannel before channel → HasUnitCounted st n (reserve_before st n reserve (spectrum_in before) channel) before after channel
  pub absent : (channel : ℕ) → channels_of before.settings.channels ≤ channel → memo_in after channel ≡ memo_in before channel
