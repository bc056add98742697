-- Runs of a track beside a board: calls of the board, granules that are committed from right
-- pieces, and frames that end.
use Rattle.std.specs.Prelude.{◌≡◌, ℕ, ◌+◌, ◌<◌, List, [], ◌∷◌, ◌++◌, All, ℤ, length, slice_get, Some}
use Rattle.l3_base.specs.declared.settings.Settings.{Settings}
use Rattle.l3_base.specs.Lengths.{granules_for}
use Rattle.l3_board.specs.declared.cell.Content.{Content}
use Rattle.l3_board.specs.declared.event.Event.{Event}
use Rattle.l3_board.specs.declared.event.Answer.{Answer}
use Rattle.l3_board.specs.Machine.{BoardState, Step}
use Rattle.l3_board.specs.Items.{given, items_of}
use Rattle.l3_analysis.specs.Piece.{HasSpectra, IsSound, PieceView, spectrum_in}
use Rattle.l3_stream.specs.declared.unit.ChosenFrame.{ChosenFrame}
use Rattle.l3_commit.specs.Encoding.{spectra_of}
use Rattle.l3_commit.specs.Lacking.{IsLike, granule_lacking}
use Rattle.l3_commit.specs.Standing.{AreSameSpectra}
use Rattle.l3_commit.specs.Tracks.{TrackView, first_track, next_of, with_frame_ended, with_granule}
use Rattle.l3_speculation.specs.Reused.{granule_reused}

-- a board beside a track; the frames that ended; and how many counts were made anew for the
-- granules that are committed, and how many their pieces brought along
pub record RunState : Type 0 where
  pub board : BoardState PieceView
  pub track : TrackView
  pub frames : List ChosenFrame
  pub made : ℕ
  pub reused : ℕ

-- the number by which a board places a piece
abbrev pub number_in : PieceView → ℕ
number_in x = x.number

-- each item on a board is sound: its counts are those of its own spectra
abbrev pub HoldsSound : BoardState PieceView → Type 0
HoldsSound board = (c : ℕ) (content : Content PieceView) → slice_get board.cells c ≡ Some content → All IsSound (items_of content)

-- a piece is right for a granule of samples, whatever it supposes and whatever was counted of it:
-- it has the granule's number and the spectra of the channels that are there, the settings are the
-- same but for the rate, and each of its counts is true
pub record IsRight (st : Settings) (left right : List ℤ) (number : ℕ) (x : PieceView) : Type 0 where
  pub number_is : x.number ≡ number
  pub settings_are : IsLike st x.settings
  pub made : HasSpectra x.stage
  pub spectra_are : AreSameSpectra st.channels (spectrum_in x) (spectra_of left right number)
  pub sound : IsSound x

pub data Action : Type 0 where
  -- a call of the board, with its answer
  BoardCall : Event PieceView → Answer PieceView → Action
  -- the next granule is committed from a piece
  GranuleCommit : PieceView → Action
  -- the frame whose second granule was committed last ends
  FrameEnd : Action

-- with one granule more: the counts that the piece lacks are made, and those that it has are reused
abbrev pub with_committed : RunState → PieceView → RunState
with_committed s x =
    let t = s.track in
    record {
      board = s.board;
      track = with_granule t (spectrum_in x);
      frames = s.frames;
      made = s.made + granule_lacking t.settings t.frame t.reserve x;
      reused = s.reused + granule_reused t.settings t.frame t.reserve x;
    }

-- the frame of a track's begin and granules
abbrev pub frame_of : TrackView → ChosenFrame
frame_of t = record { begin = t.begin; units = t.granules }

-- with one frame more
abbrev pub with_frame : RunState → RunState
with_frame s = record {
  board = s.board;
  track = with_frame_ended s.track;
  frames = s.frames ++ (frame_of s.track ∷ []);
  made = s.made;
  reused = s.reused;
}

-- with another board
abbrev pub with_board : RunState → BoardState PieceView → RunState
with_board s board = record { board = board; track = s.track; frames = s.frames; made = s.made; reused = s.reused }

-- an action leads from one state to another: the board machine takes a step over sound items; or a
-- granule that is there is committed from a piece that is right for it; or a whole frame ends
abbrev pub Acts : Settings → (left right : List ℤ) → RunState → Action → RunState → Type 0
Acts st left right s (BoardCall e a) t = All IsSound (given e) × Step number_in s.board e a t.board × (t ≡ with_board s t.board)
Acts st left right s (GranuleCommit x) t =
    IsRight st left right (next_of s.track) x
    × (next_of s.track < granules_for (length left))
    × (length s.track.granules < 2)
    × (t ≡ with_committed s x)
Acts st left right s FrameEnd t = (length s.track.granules ≡ 2) × (t ≡ with_frame s)

-- one action after another
abbrev pub Runs : Settings → (left right : List ℤ) → RunState → List Action → RunState → Type 0
Runs st left right s [] t = t ≡ s
Runs st left right s (a ∷ actions) t = (mid : RunState) × Acts st left right s a mid × Runs st left right mid actions t

-- before the first granule, beside some board
abbrev pub opening : Settings → BoardState PieceView → RunState
opening st board = record { board = board; track = first_track st; frames = []; made = 0; reused = 0 }

-- a state of a run that opened beside any board of sound items
pub record IsReached (st : Settings) (left right : List ℤ) (t : RunState) : Type 0 where
  pub board : BoardState PieceView
  pub holds : HoldsSound board
  pub actions : List Action
  pub runs : Runs st left right (opening st board) actions t
