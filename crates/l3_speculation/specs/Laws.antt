-- Laws of runs, each carried by a function of src/laws.rt.
use Rattle.std.specs.Prelude.{◌≡◌, ◌+◌, ◌<◌, ◌≤◌, List, [], ◌∷◌, ◌++◌, All, ℤ, length}
use Rattle.l3_base.specs.declared.settings.Settings.{Settings}
use Rattle.l3_base.specs.Lengths.{granules_for}
use Rattle.l3_board.specs.declared.event.Event.{Event}
use Rattle.l3_board.specs.declared.event.Answer.{Answer}
use Rattle.l3_board.specs.Items.{handed_out}
use Rattle.l3_analysis.specs.Piece.{IsSound, PieceView}
use Rattle.l3_stream.specs.declared.unit.ChosenFrame.{ChosenFrame}
use Rattle.l3_commit.specs.Choice.{frames_before}
use Rattle.l3_commit.specs.Encoding.{frames_chosen, gains_tried, spectra_of}
use Rattle.l3_commit.specs.Lacking.{granule_lacking}
use Rattle.l3_commit.specs.Standing.{IsProgress}
use Rattle.l3_commit.specs.Tracks.{next_of}
use Rattle.l3_commit.specs.Tried.{tried_at}
use Rattle.l3_speculation.specs.Reused.{granule_reused, tried_so_far}
use Rattle.l3_speculation.specs.Run.{Action, Acts, BoardCall, GranuleCommit, HoldsSound, IsReached, IsRight, RunState, Runs}

-- the frames that ended are the chosen ones before the track's frame, and so a front of all chosen
-- ones
pub record IsFront (st : Settings) (left right : List ℤ) (t : RunState) : Type 0 where
  pub frames_are : t.frames ≡ frames_before st (spectra_of left right) t.track.frame
  pub rest : List ChosenFrame
  pub whole : t.frames ++ rest ≡ frames_chosen st left right

abbrev pub FramesAreAFront : Type 0
FramesAreAFront = (st : Settings) (left right : List ℤ) (t : RunState) → IsReached st left right t → IsFront st left right t

-- the track stands where the choice does before the next granule
abbrev pub TrackIsProgress : Type 0
TrackIsProgress = (st : Settings) (left right : List ℤ) (t : RunState) → IsReached st left right t →
    IsProgress st (spectra_of left right) t.track

-- the counts made and reused are the gains that the choice tries at the granules so far; and so it
-- is at the next one, from whatever piece that is right for it
pub record IsCounted (st : Settings) (left right : List ℤ) (t : RunState) : Type 0 where
  pub so_far : t.made + t.reused ≡ tried_so_far st (spectra_of left right) t.track.frame (length t.track.granules)
  pub fewer : t.made ≤ tried_so_far st (spectra_of left right) t.track.frame (length t.track.granules)
  pub next : (x : PieceView) → IsRight st left right (next_of t.track) x → length t.track.granules < 2 →
      granule_lacking t.track.settings t.track.frame t.track.reserve x + granule_reused t.track.settings t.track.frame t.track.reserve x
      ≡ tried_at st (spectra_of left right) t.track.frame (length t.track.granules)

abbrev pub RunsAreCounted : Type 0
RunsAreCounted = (st : Settings) (left right : List ℤ) (t : RunState) → IsReached st left right t → IsCounted st left right t

-- when all granules are committed, all gains are counted, and when the last frame ended too, all
-- chosen frames are there
pub record IsWhole (st : Settings) (left right : List ℤ) (t : RunState) : Type 0 where
  pub tried : t.made + t.reused ≡ gains_tried st left right
  pub frames : t.track.granules ≡ [] → t.frames ≡ frames_chosen st left right

abbrev pub RunsAreWhole : Type 0
RunsAreWhole = (st : Settings) (left right : List ℤ) (t : RunState) → IsReached st left right t →
    next_of t.track ≡ granules_for (length left) → IsWhole st left right t

-- two runs over the same samples that are equally far differ in their boards, and in which counts
-- were made and which reused, alone
pub record AreAlike (s t : RunState) : Type 0 where
  pub track : s.track ≡ t.track
  pub frames : s.frames ≡ t.frames
  pub counts : s.made + s.reused ≡ t.made + t.reused

abbrev pub RunsAreAlike : Type 0
RunsAreAlike = (st : Settings) (left right : List ℤ) (s t : RunState) → IsReached st left right s → IsReached st left right t →
    s.track.frame ≡ t.track.frame → length s.track.granules ≡ length t.track.granules → AreAlike s t

-- a run goes on from a state by the next granule: there is a piece that is right for it, and each
-- such piece can be committed, once the frame before has ended
pub record CanCommit (st : Settings) (left right : List ℤ) (s : RunState) (x : PieceView) : Type 0 where
  pub ends : List Action
  pub later : RunState
  pub runs : Runs st left right s (ends ++ (GranuleCommit x ∷ [])) later
  pub next : next_of later.track ≡ next_of s.track + 1

pub record GoesOn (st : Settings) (left right : List ℤ) (s : RunState) : Type 0 where
  pub piece : PieceView
  pub right_piece : IsRight st left right (next_of s.track) piece
  pub each : (x : PieceView) → IsRight st left right (next_of s.track) x → CanCommit st left right s x

abbrev pub RunsGoOn : Type 0
RunsGoOn = (st : Settings) (left right : List ℤ) (t : RunState) → IsReached st left right t →
    next_of t.track < granules_for (length left) → GoesOn st left right t

-- what a board holds in a run, and what it hands out, is sound
pub record HandsOutSound (st : Settings) (left right : List ℤ) (t : RunState) : Type 0 where
  pub holds : HoldsSound t.board
  pub handed : (e : Event PieceView) (a : Answer PieceView) (u : RunState) → Acts st left right t (BoardCall e a) u → All IsSound (handed_out a)

abbrev pub BoardHandsOutSound : Type 0
BoardHandsOutSound = (st : Settings) (left right : List ℤ) (t : RunState) → IsReached st left right t → HandsOutSound st left right t
