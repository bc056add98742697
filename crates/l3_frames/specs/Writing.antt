-- A frame writer as contracts see it, and the bytes that it still owes.
use Rattle.std.specs.Prelude.{◌≡◌, ℕ, suc, ◌-◌, ◌*◌, max, Bool, List, ◌∷◌, ◌++◌, length, take}
use Rattle.l3_bits.specs.Bits.{bits_of, packed}
use Rattle.l3_base.specs.declared.settings.Settings.{Settings}
use Rattle.l3_base.specs.Lengths.{slots_before}
use Rattle.l3_io.specs.Taken.{Takes}
use Rattle.l3_stream.specs.declared.unit.ChosenFrame.{ChosenFrame}
use Rattle.l3_stream.specs.Tape.{end_of, FramesFit, tape_from, heads_of, joined}

pub record Writing : Type 0 where
  -- what the frames are written under
  pub settings : Settings
  -- how many frames were pushed
  pub frames : ℕ
  -- the tape bit behind their codes
  pub end : ℕ
  -- the frames that are not given yet, the oldest first: header and side information of each
  pub heads : List (List ℕ)
  -- the bytes of the tape in their slots: the codes so far, and zeros where there are none
  pub slots : List ℕ
  -- a write failed, or the writer was finished
  pub failed : Bool

-- the number of the first frame that is not given yet
abbrev pub first_of : Writing → ℕ
first_of w = w.frames - length w.heads

-- the tape bit before which nothing more is laid: the main data of frame n begins behind the codes
-- before it, and at most 511 bytes before its own slot
abbrev pub open_from : Settings → ℕ → ℕ → ℕ
open_from st n end = max end (8 * (slots_before st n - 511))

-- the tape from the first slot on that is not given yet: what is laid, and what these frames lay
-- behind it
abbrev pub tape_with : Writing → List ChosenFrame → List Bool
tape_with w fs =
    take (open_from w.settings w.frames w.end - 8 * slots_before w.settings (first_of w)) (bits_of w.slots)
    ++ tape_from w.settings w.frames (open_from w.settings w.frames w.end) fs

-- the bytes still to come when these frames are pushed and the writer is finished: header, side
-- information and slot of each frame that is not given yet
abbrev pub owed : Writing → List ChosenFrame → List ℕ
owed w fs = joined w.settings (first_of w) (w.heads ++ heads_of w.settings w.frames fs) (packed (tape_with w fs))

-- these frames fit behind those pushed and this one
abbrev pub FitBehind : Writing → ChosenFrame → List ChosenFrame → Type 0
FitBehind w f fs = FramesFit w.settings (suc w.frames) (end_of w.settings w.frames f) fs

-- the sink took some bytes of what was owed, and the rest is owed after this frame, whichever
-- frames follow
abbrev pub GivesFirst : (old new : List ℕ → Type 0) → (before after : Writing) → ChosenFrame → Type 0
GivesFirst old new before after f =
    (x : List ℕ) × Takes old new x × ((fs : List ChosenFrame) → FitBehind before f fs → owed before (f ∷ fs) ≡ x ++ owed after fs)

-- the sink took a front of what was owed, the same whichever frames follow
abbrev pub GivesFront : (old new : List ℕ → Type 0) → Writing → ChosenFrame → Type 0
GivesFront old new before f =
    (x : List ℕ) × Takes old new x × ((fs : List ChosenFrame) → FitBehind before f fs → (rest : List ℕ) × (x ++ rest ≡ owed before (f ∷ fs)))
