-- Frames read one after the other: how far a reader has come, and what its answers say of the bytes
-- that are left.
use Rattle.std.specs.Prelude.{◌≡◌, ℕ, zero, suc, ◌+◌, ◌-◌, ◌<◌, List, [], ◌∷◌, ◌++◌, length, take, drop, Option, Some, None, IfSome, Result, Ok, Err}
use Rattle.std.specs.Io.KnownBytes.{Consumes}
use Rattle.l3_bits.specs.Bits.{bits_of}
use Rattle.l3_base.specs.declared.settings.Settings.{Settings}
use Rattle.l3_base.specs.Lengths.{frame_bytes_of}
use Rattle.l3_stream.specs.declared.fault.StreamFault.{StreamFault}
use Rattle.l3_stream.specs.declared.fault.StreamFault.TheVariants as faults
use Rattle.l3_stream.specs.declared.unit.ChosenFrame.{ChosenFrame}
use Rattle.l3_stream.specs.Frames.{IsCoded, placed}
use Rattle.l3_stream.specs.Header.{settings_at}
use Rattle.l3_stream.specs.Faults.{◌>>=◌}
use Rattle.l3_stream.specs.Deviation.{Place, first_place, head_at, slot_at, main_at, next_place, frames_from, Content, reading_of}

-- how far a reader of frames has come
pub record Progress : Type 0 where
  -- the most frames that the stream may have
  pub limit : ℕ
  -- the settings of the first header, where a frame was read
  pub settings : Option Settings
  -- where reading stands
  pub place : Place
  -- the fault at which reading has stopped
  pub fault : Option StreamFault

-- before the first frame
abbrev pub nothing_read : ℕ → Progress
nothing_read limit = record { limit = limit; settings = None; place = first_place; fault = None }

-- the content of bytes from a place on, where at most so many frames may come in all
unfoldable pub content_from : Option Settings → ℕ → Place → List ℕ → Result Content StreamFault
content_from None limit p bytes = reading_of limit bytes
content_from (Some st) limit p bytes = do
  frames ← frames_from st (limit - p.number) p bytes
  Ok (record { settings = Some st; frames = frames })

-- what is still read of the bytes that are left: the content from here on, or the fault at which
-- reading stops
abbrev pub still_read : Progress → List ℕ → Result Content StreamFault
still_read p left =
    elim p.fault [ None ↦ content_from p.settings p.limit p.place left | Some fault ↦ Err fault ]

-- frames, and what is read behind them
abbrev pub with_frames : List ChosenFrame → Result Content StreamFault → Result Content StreamFault
with_frames frames (Ok content) =
    Ok (record { settings = content.settings; frames = frames ++ content.frames })
with_frames frames (Err fault) = Err fault

-- the frame that bytes begin with, and where reading stands behind it
unfoldable pub frame_at : Settings → Place → List ℕ → Result (ChosenFrame × Place) StreamFault
frame_at st p bytes = do
  side ← head_at st p bytes
  units ← main_at st p side (slot_at st p.number bytes)
  Ok (
    record { begin = side.0; units = placed st.channels units },
    next_place st p side (slot_at st p.number bytes),
  )

-- the settings of the frame that bytes begin with: those of the first header, which is its own
-- where no frame was read
abbrev pub settings_by : Option Settings → List ℕ → Option Settings
settings_by (Some st) bytes = Some st
settings_by None bytes = settings_at (bits_of (take 4 bytes))

-- bytes of a frame; where no header tells its settings, those of a header
abbrev pub bytes_by : Option Settings → ℕ → ℕ
bytes_by (Some st) number = frame_bytes_of st number
bytes_by None number = 4

-- a frame was read under the settings of the first header, and reading stands behind it
pub record GivesFrame (old new : Progress) (frame : ChosenFrame) : Type 0 where
  pub settings : Settings
  pub told : new.settings ≡ Some settings
  pub same : IfSome old.settings (λ st. st ≡ settings)
  pub coded : IsCoded settings frame
  pub room : old.place.number < old.limit
  pub number : new.place.number ≡ old.place.number + 1
  pub limit : new.limit ≡ old.limit
  pub goes_on : (old.fault ≡ None) × (new.fault ≡ None)

-- the bytes that were left begin with the frame, and just its bytes are gone;
-- what was still read of them is the frame, and then what is still read of those behind it
pub record BeginsWithFrame (old new : Progress) (frame : ChosenFrame) (left : List ℕ)
    (now : Option (List ℕ)) : Type 0 where
  pub settings : Settings
  pub told : settings_by old.settings left ≡ Some settings
  pub tells : new.settings ≡ Some settings
  pub is : frame_at settings old.place left ≡ Ok (frame, new.place)
  pub gone : now ≡ Some (drop (frame_bytes_of settings old.place.number) left)
  pub reading : still_read old left
      ≡ with_frames (frame ∷ []) (still_read new (drop (frame_bytes_of settings old.place.number) left))

-- no byte was left, and the stream ends here
pub record HasEnded (p : Progress) (left : List ℕ) (now : Option (List ℕ)) : Type 0 where
  pub none : left ≡ []
  pub still : now ≡ Some []
  pub reading : still_read p left ≡ Ok (record { settings = p.settings; frames = [] })

-- how many bytes are read of a frame of this size that is refused: its header, where that alone
-- refuses it
abbrev pub bytes_read : StreamFault → ℕ → ℕ
bytes_read (faults.BadHeader at) size = 4
bytes_read (faults.TooLong at) size = 4
bytes_read fault size = size

-- what is left behind a frame of this size that is refused; where a read failed, fewer bytes are
-- gone than the frame has
abbrev pub LeavesBehind : StreamFault → ℕ → List ℕ → Option (List ℕ) → Type 0
LeavesBehind faults.Read size left now =
    (bytes : List ℕ) × (length bytes < size) × Consumes (Some left) now bytes
LeavesBehind fault size left now = now ≡ Some (drop (bytes_read fault size) left)

-- so many frames that bytes begin with, and where reading stands behind them
unfoldable pub first_frames : Settings → ℕ → Place → List ℕ
    → Result (List ChosenFrame × Place) StreamFault
first_frames st zero p bytes = Ok ([], p)
first_frames st (suc n) p bytes = do
  first ← frame_at st p bytes
  others ← first_frames st n first.1 (drop (frame_bytes_of st p.number) bytes)
  Ok (first.0 ∷ others.0, others.1)

-- these are the first frames of bytes, and reading stands behind them, under the settings of their
-- first header
abbrev pub AreFirst : List ℕ → List ChosenFrame → Option Settings → Place → Type 0
AreFirst bytes frames None p = (frames ≡ []) × (p ≡ first_place)
AreFirst bytes frames (Some st) p = (settings_at (bits_of (take 4 bytes)) ≡ Some st)
    × (first_frames st (length frames) first_place bytes ≡ Ok (frames, p))

-- a reader that began with these bytes has given these frames: what they are read as is these
-- frames, and then what is still read of the bytes behind them
pub record HasGiven (limit : ℕ) (bytes : List ℕ) (frames : List ChosenFrame) (p : Progress)
    (left : Option (List ℕ)) : Type 0 where
  pub most : p.limit ≡ limit
  pub goes_on : p.fault ≡ None
  pub number : length frames ≡ p.place.number
  pub first : AreFirst bytes frames p.settings p.place
  pub behind : left ≡ Some (drop p.place.at bytes)
  pub reading : reading_of limit bytes ≡ with_frames frames (still_read p (drop p.place.at bytes))

-- what is left where reading stops behind these frames: want of memory comes behind a whole frame,
-- and leaves what follows it; any other fault comes at the next frame, or at the end of the bytes
abbrev pub StopsBehind : StreamFault → List ChosenFrame → Progress → List ℕ → Option (List ℕ)
    → Type 0
StopsBehind faults.Memory frames p left now = (0 < length frames) × (now ≡ Some left)
StopsBehind fault frames p left now = LeavesBehind fault
    (bytes_by (settings_by p.settings left) p.place.number) left now

-- a reading of at most so many frames has stopped with a fault behind some whole frames of these
-- bytes
pub record HasStopped (limit : ℕ) (bytes : List ℕ) (fault : StreamFault)
    (now : Option (List ℕ)) : Type 0 where
  pub frames : List ChosenFrame
  pub progress : Progress
  pub given : HasGiven limit bytes frames progress (Some (drop progress.place.at bytes))
  pub leaves : StopsBehind fault frames progress (drop progress.place.at bytes) now
