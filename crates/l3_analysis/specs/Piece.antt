-- A piece: one granule, with what was made of it so far.
use Rattle.std.specs.Prelude.{◌≡◌, ◌<◌, ◌≤◌, ℕ, zero, suc, length, List, [], ◌∷◌, Option, ℤ, pos, replicate, slice_index_or, slice_set}
use Rattle.l3_base.specs.declared.rate.Channels.{Channels}
use Rattle.l3_base.specs.declared.rate.Channels.TheVariants.{Mono, Stereo}
use Rattle.l3_base.specs.declared.settings.Settings.{Settings}
use Rattle.l3_base.specs.declared.slots.Window.{Window}
use Rattle.l3_base.specs.Amp.{no_amp}
use Rattle.l3_base.specs.Rates.{channels_of, hertz_index_of}
use Rattle.l3_transform.specs.Spectrum.{spectrum_of}
use Rattle.l3_transform.specs.Demand.{demand_of}
use Rattle.l3_count.specs.Bands.{band_edges}
use Rattle.l3_count.specs.Count.{Counted}
use Rattle.l3_count.specs.Memo.{IsMemoOf, LaneView, empty_memo, lane_of}
use Rattle.l3_analysis.specs.declared.stage.Stage.{Stage}
use Rattle.l3_analysis.specs.declared.stage.Stage.TheVariants.{Blank, Loaded, Transformed, Presumed}

-- a piece as contracts see it: its granule's number and window, the reserve that it is to suppose,
-- and a memo for the left or only channel and one for the right
pub record PieceView : Type 0 where
  pub settings : Settings
  pub number : ℕ
  pub stage : Stage
  pub guess : ℕ
  pub window : Window
  pub memos : List (List LaneView)

-- two memos with no count
abbrev pub no_memos : List (List LaneView)
no_memos = empty_memo ∷ empty_memo ∷ []

-- a window of zeros
abbrev pub silence : Window
silence = record { left = replicate 1632 (pos 0); right = replicate 1632 (pos 0) }

-- a piece of no granule yet
abbrev pub blank_of : Settings → PieceView
blank_of st = record { settings = st; number = 0; stage = Blank; guess = 0; window = silence; memos = no_memos }

-- a piece with another granule, of which nothing was made
abbrev pub loaded_with : PieceView → (number : ℕ) → Window → (guess : ℕ) → PieceView
loaded_with v number window guess = record { settings = v.settings; number = number; stage = Loaded; guess = guess; window = window; memos = no_memos }

-- the spectra and demands are there
abbrev pub HasSpectra : Stage → Type 0
HasSpectra Blank = ⊥
HasSpectra Loaded = ⊥
HasSpectra Transformed = Unit {0}
HasSpectra Presumed = Unit {0}

-- how far a piece has come
abbrev pub work_at : Stage → ℕ
work_at Blank = 0
work_at Loaded = 0
work_at Transformed = 1
work_at Presumed = 2

-- the channel is there: channel 0, and channel 1 in stereo
abbrev pub IsChannel : PieceView → ℕ → Type 0
IsChannel v channel = channel < channels_of v.settings.channels

-- the channels that are there
abbrev pub channels_in : Channels → List ℕ
channels_in Mono = 0 ∷ []
channels_in Stereo = 0 ∷ 1 ∷ []

-- the samples of a channel's window
abbrev pub samples_in : PieceView → ℕ → List ℤ
samples_in v zero = v.window.left
samples_in v (suc _) = v.window.right

-- the spectrum of a channel: that of its own window
abbrev pub spectrum_in : PieceView → ℕ → List ℤ
spectrum_in v channel = spectrum_of (samples_in v channel)

-- the demand of that spectrum
abbrev pub demand_in : PieceView → ℕ → ℕ
demand_in v channel = demand_of (hertz_index_of v.settings.sample_rate) (spectrum_in v channel)

-- the edges of the bands
abbrev pub edges_in : PieceView → List ℕ
edges_in v = band_edges v.settings.sample_rate

-- the memo of a channel
abbrev pub memo_in : PieceView → ℕ → List LaneView
memo_in v channel = slice_index_or v.memos channel empty_memo

-- the counts without amplification in it, which are those of its first lane
abbrev pub counts_in : PieceView → ℕ → List (Option Counted)
counts_in v channel = (lane_of (memo_in v channel) 0).counts

-- the piece with another memo of a channel
abbrev pub with_memo : PieceView → ℕ → List LaneView → PieceView
with_memo v channel memo = record v { memos = slice_set v.memos channel memo }

-- there are two memos, and their first lanes are under no amplification; where the spectra are
-- there, a memo's counts are those of its channel's spectrum; before that, and for a channel that
-- is not there, it has none
pub record IsSound (v : PieceView) : Type 0 where
  pub two : length v.memos ≡ 2
  pub plain : (channel : ℕ) → (lane_of (memo_in v channel) 0).amp ≡ no_amp
  pub counts : HasSpectra v.stage → (channel : ℕ) → IsChannel v channel →
      IsMemoOf (edges_in v) (spectrum_in v channel) (memo_in v channel)
  pub before : (HasSpectra v.stage → ⊥) → v.memos ≡ no_memos
  pub absent : (channel : ℕ) → channels_of v.settings.channels ≤ channel →
      memo_in v channel ≡ empty_memo
