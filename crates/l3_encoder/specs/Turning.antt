-- What one turn of an encoder does: a granule more, and after each second one a frame.
use Rattle.std.specs.Prelude.{◌≡◌, ℕ, ◌≤◌, false, List, ◌++◌, length, ℤ}
use Rattle.l3_base.specs.declared.settings.Settings.{Settings}
use Rattle.l3_base.specs.Lengths.{frames_for}
use Rattle.l3_io.specs.Taken.{Takes}
use Rattle.l3_stream.specs.declared.unit.ChosenFrame.{ChosenFrame}
use Rattle.l3_stream.specs.Tape.{FramesFit, CanFollow, end_after}
use Rattle.l3_frames.specs.Writing.{Writing, owed}
use Rattle.l3_commit.specs.Choice.{frames_before}
use Rattle.l3_commit.specs.Encoding.{spectra_of}
use Rattle.l3_commit.specs.Tracks.{TrackView}
use Rattle.l3_commit.specs.Standing.{CommitterView, StandsFor}

-- a writer that these frames were pushed to, which the track's frame can follow
pub record IsBehind (t : TrackView) (fs : List ChosenFrame) (w : Writing) : Type 0 where
  pub follow : CanFollow t.settings t.frame t.begin fs
  pub settings : w.settings ≡ t.settings
  pub frames : w.frames ≡ t.frame
  pub end : w.end ≡ end_after t.settings 0 0 fs
  pub unfailed : w.failed ≡ false

-- these frames fit behind those that the writer stands behind
abbrev pub FitAfter : TrackView → (fs more : List ChosenFrame) → Type 0
FitAfter t fs more = FramesFit t.settings 0 0 (fs ++ more)

-- whatever the source tells: these frames more were pushed, and the sink took what the writer owes
-- less for them, whichever frames follow
pub record Pushes (t u : TrackView) (w v : Writing) (old new : List ℕ → Type 0) (more : List ChosenFrame) : Type 0 where
  pub same : u.settings ≡ t.settings
  pub behind : (fs : List ChosenFrame) → IsBehind t fs w → IsBehind u (fs ++ more) v
  pub gives : (x : List ℕ) × Takes old new x × ((fs gs : List ChosenFrame) → IsBehind t fs w →
      FitAfter t fs (more ++ gs) → owed w (more ++ gs) ≡ x ++ owed v gs)

-- these frames more fit, and the sink took a front of what the writer owed for them, the same
-- whichever frames follow
pub record Halts (t : TrackView) (w : Writing) (old new : List ℕ → Type 0) (more : List ChosenFrame) : Type 0 where
  pub fit : (fs : List ChosenFrame) → IsBehind t fs w → FitAfter t fs more
  pub gives : (x : List ℕ) × Takes old new x × ((fs gs : List ChosenFrame) → IsBehind t fs w →
      FitAfter t fs (more ++ gs) → (rest : List ℕ) × (x ++ rest ≡ owed w (more ++ gs)))

-- these frames more are those that are chosen from frame n up to frame m
abbrev pub AreChosen : Settings → (left right : List ℤ) → (n m : ℕ) → List ChosenFrame → Type 0
AreChosen st left right n m more =
    frames_before st (spectra_of left right) n ++ more ≡ frames_before st (spectra_of left right) m

-- a turn that was done: its frames were pushed; where the committer stood for samples it still does,
-- and the frames are the chosen ones
abbrev pub Turns : (c d : CommitterView) → (w v : Writing) → (old new : List ℕ → Type 0) → Type 0
Turns c d w v old new = (more : List ChosenFrame) × Pushes c.track d.track w v old new more
    × ((bytes : List ℕ) (st : Settings) (left right : List ℤ) → StandsFor c bytes st left right →
    StandsFor d bytes st left right × AreChosen st left right c.track.frame d.track.frame more)

-- a turn that the writer broke off: the sink took a front of its frames; where the committer stood
-- for samples they are chosen ones, of which there are enough
abbrev pub Breaks : (c : CommitterView) → Writing → (old new : List ℕ → Type 0) → Type 0
Breaks c w old new = (more : List ChosenFrame) × Halts c.track w old new more
    × ((bytes : List ℕ) (st : Settings) (left right : List ℤ) → StandsFor c bytes st left right →
    (m : ℕ) × (m ≤ frames_for (length left)) × AreChosen st left right c.track.frame m more)
