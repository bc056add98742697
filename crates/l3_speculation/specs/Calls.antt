-- What calls of the track and of the board are in runs.
use Rattle.std.specs.Prelude.{◌≡◌, ◌+◌, ◌-◌, ◌<◌, List, [], ◌∷◌, ◌++◌, ℤ, length}
use Rattle.l3_base.specs.declared.settings.Settings.{Settings}
use Rattle.l3_base.specs.Lengths.{granules_for}
use Rattle.l3_board.specs.declared.event.Event.{Event}
use Rattle.l3_board.specs.declared.event.Answer.{Answer}
use Rattle.l3_board.specs.Machine.{BoardState}
use Rattle.l3_analysis.specs.Piece.{PieceView, spectrum_in}
use Rattle.l3_stream.specs.declared.unit.ChosenFrame.{ChosenFrame}
use Rattle.l3_commit.specs.declared.track.GranuleDone.{GranuleDone}
use Rattle.l3_commit.specs.Encoding.{spectra_of}
use Rattle.l3_commit.specs.Standing.{AreSameSpectra}
use Rattle.l3_commit.specs.Tracks.{TrackView, next_of}
use Rattle.l3_speculation.specs.Run.{Acts, BoardCall, FrameEnd, GranuleCommit, RunState, with_board}

-- what a call did with a track and a piece: in each run over samples of whose next granule the
-- piece has the spectra, the granule is committed
abbrev pub IsGranule : (old new : TrackView) → PieceView → GranuleDone → Type 0
IsGranule old new x done = (left right : List ℤ) (s : RunState) → s.track ≡ old → next_of old < granules_for (length left) →
    AreSameSpectra old.settings.channels (spectrum_in x) (spectra_of left right (next_of old)) →
    Acts old.settings left right s (GranuleCommit x)
    (record { board = s.board; track = new; frames = s.frames; made = s.made + done.made; reused = s.reused + (done.tried - done.made) })

-- what a call did with a track: in each run the frame that it gave ends
abbrev pub IsFrameEnd : (old new : TrackView) → ChosenFrame → Type 0
IsFrameEnd old new frame = (st : Settings) (left right : List ℤ) (s : RunState) → s.track ≡ old →
    Acts st left right s FrameEnd (record { board = s.board; track = new; frames = s.frames ++ (frame ∷ []); made = s.made; reused = s.reused })

-- what a call did with a board: it is a call in each run
abbrev pub IsEvent : (old new : BoardState PieceView) → Event PieceView → Answer PieceView → Type 0
IsEvent old new e a = (st : Settings) (left right : List ℤ) (s : RunState) → s.board ≡ old → Acts st left right s (BoardCall e a) (with_board s new)
