-- The frames that a writer has not given yet, as it keeps them.
-- Only the inside of this crate speaks of these.
use Rattle.std.specs.Prelude.{◌≡◌, ℕ, suc, ◌+◌, ◌-◌, ◌*◌, ◌<◌, ◌≤◌, ◌^◌, Bool, false, List, [], ◌∷◌, ◌++◌, length, drop, replicate, All}
use Rattle.l3_bits.specs.Bits.{bits_of}
use Rattle.l3_base.specs.declared.settings.Settings.{Settings}
use Rattle.l3_base.specs.Lengths.{slots_before, slot_bytes_of}
use Rattle.l3_io.specs.Taken.{Takes}
use Rattle.l3_stream.specs.declared.unit.ChosenFrame.{ChosenFrame}
use Rattle.l3_stream.specs.Frames.{code_bits}
use Rattle.l3_stream.specs.Tape.{start_of, end_of, head_of}
use Rattle.l3_frames.specs.declared.pending.Pending.{Pending}
use Rattle.l3_frames.specs.Laying.{laid_over}
use Rattle.l3_frames.specs.Writing.{Writing, first_of, owed}

-- pending frames as the state of a writer that did not fail
abbrev pub writing_of : Pending → Bool → Writing
writing_of p failed = record { settings = p.settings; frames = p.frames; end = p.end; heads = p.heads.items; slots = p.slots; failed = failed }

-- slot bytes before the first frame that is not given yet
abbrev pub given_bytes : Writing → ℕ
given_bytes w = slots_before w.settings (first_of w)

-- bits of the slots that the codes so far reach
abbrev pub reached_bits : Writing → ℕ
reached_bits w = w.end - 8 * given_bytes w

-- the parts of a writer's state go together
pub record IsWriting (w : Writing) : Type 0 where
  pub heads : length w.heads ≤ w.frames
  pub slots : given_bytes w + length w.slots ≡ slots_before w.settings w.frames
  pub bytes : All (λ byte. byte < 2 ^ 8) w.slots
  pub end : w.end ≤ 8 * slots_before w.settings w.frames
  -- behind the codes the slots are 0
  pub zeros : drop (reached_bits w) (bits_of w.slots) ≡ replicate (8 * length w.slots - reached_bits w) false
  -- the next frame's main data begins in no slot that was given
  pub near : given_bytes w ≤ slots_before w.settings w.frames - 511

-- what a writer keeps of its pending frames goes together, also with the slot bytes of the frames
-- pushed
pub record IsPending (p : Pending) : Type 0 where
  pub sound : IsWriting (writing_of p false)
  pub before : p.before ≡ slots_before p.settings p.frames
  pub frames : p.frames ≤ 2 ^ 32 + 1

-- few frames are pending: the slots of all but the first have less than 511 bytes in all, and each
-- has at least 60
pub record IsShort (w : Writing) : Type 0 where
  pub heads : length w.heads ≤ 9
  pub slots : length w.slots ≤ 1930

-- a writer's state, and the state when this frame was pushed and nothing given
-- (only the inside of this crate)
pub record IsPushed (w : Writing) (f : ChosenFrame) (now : Writing) : Type 0 where
  pub settings : now.settings ≡ w.settings
  pub frames : now.frames ≡ w.frames + 1
  pub end : now.end ≡ end_of w.settings w.frames f
  pub heads : now.heads ≡ w.heads ++ head_of w.settings w.frames f ∷ []
  pub slots : bits_of now.slots ≡ laid_over (start_of w.settings w.frames f.begin - 8 * given_bytes w) (code_bits w.settings f)
      (bits_of (w.slots ++ replicate (slot_bytes_of w.settings w.frames) 0))
  pub bytes : All (λ byte. byte < 2 ^ 8) now.slots

-- of `count` frames from frame `first` on the first k, with so many slot bytes, are settled: their
-- slots end at least 511 bytes before the end of all, and no more do
-- (only the inside of this crate)
pub record AreSettled (st : Settings) (first count k bytes : ℕ) : Type 0 where
  pub some : k ≤ count
  pub place : slots_before st first + bytes ≡ slots_before st (first + k)
  pub far : slots_before st (first + k) ≤ slots_before st (first + count) - 511
  pub most : k < count → slots_before st (first + count) - 511 < slots_before st (suc (first + k))

-- the sink took some bytes of what was owed, and the rest is owed afterwards, whichever frames
-- follow (only the inside of this crate)
abbrev pub Gives : (old new : List ℕ → Type 0) → (before after : Writing) → Type 0
Gives old new before after = (x : List ℕ) × Takes old new x × ((fs : List ChosenFrame) → owed before fs ≡ x ++ owed after fs)

-- the sink took a front of what was owed, the same whichever frames follow
-- (only the inside of this crate)
abbrev pub GivesPart : (old new : List ℕ → Type 0) → Writing → Type 0
GivesPart old new before = (x : List ℕ) × Takes old new x × ((fs : List ChosenFrame) → (rest : List ℕ) × (x ++ rest ≡ owed before fs))
