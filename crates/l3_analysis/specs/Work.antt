-- What a worker makes of a piece that it has claimed.
use Rattle.std.specs.Prelude.{◌≡◌, ℕ, List, ℤ}
use Rattle.l3_base.specs.declared.rate.Channels.{Channels}
use Rattle.l3_base.specs.declared.rate.Channels.TheVariants.{Mono, Stereo}
use Rattle.l3_analysis.specs.declared.stage.Stage.{Stage}
use Rattle.l3_analysis.specs.declared.stage.Stage.TheVariants.{Blank, Loaded, Transformed, Presumed}
use Rattle.l3_analysis.specs.Piece.{PieceView}
use Rattle.l3_analysis.specs.Presumed.{IsPresumed, presumed_steps}

-- a piece of a granule is presumed under its guess, unless it was; any other stays what it is
abbrev pub IsAnalysedAt : Stage → PieceView → PieceView → Type 0
IsAnalysedAt Blank before after = after ≡ before
IsAnalysedAt Loaded before after = IsPresumed before after
IsAnalysedAt Transformed before after = IsPresumed before after
IsAnalysedAt Presumed before after = after ≡ before

abbrev pub IsAnalysed : PieceView → PieceView → Type 0
IsAnalysed before after = IsAnalysedAt before.stage before after

-- how many counts are made for it
abbrev pub analysed_steps_at : Stage → PieceView → ℕ
analysed_steps_at Blank v = 0
analysed_steps_at Loaded v = presumed_steps v
analysed_steps_at Transformed v = presumed_steps v
analysed_steps_at Presumed v = 0

abbrev pub analysed_steps : PieceView → ℕ
analysed_steps v = analysed_steps_at v.stage v

-- the window that is kept of a channel: that of the piece where its spectrum is made now, and else
-- the one before
abbrev pub kept_at : Stage → (window kept : List ℤ) → List ℤ
kept_at Blank window kept = kept
kept_at Loaded window kept = window
kept_at Transformed window kept = kept
kept_at Presumed window kept = kept

-- the same of a second channel, which is not there in mono
abbrev pub second_kept_at : Channels → Stage → (window kept : List ℤ) → List ℤ
second_kept_at Mono stage window kept = kept
second_kept_at Stereo stage window kept = kept_at stage window kept

abbrev pub left_kept : PieceView → List ℤ → List ℤ
left_kept v kept = kept_at v.stage v.window.left kept

abbrev pub right_kept : PieceView → List ℤ → List ℤ
right_kept v kept = second_kept_at v.settings.channels v.stage v.window.right kept
