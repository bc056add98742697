-- The reading of a stream from its first byte on, and its first deviation from the profile.
use Rattle.std.specs.Prelude.{ℕ, zero, suc, ◌+◌, ◌-◌, ◌*◌, Bool, ◌&&◌, List, [], ◌∷◌, ◌++◌, length, take, drop, Option, Some, None, Result, Ok, Err, nat_le}
use Rattle.l3_bits.specs.Bits.{bits_of}
use Rattle.l3_base.specs.declared.settings.Settings.{Settings}
use Rattle.l3_base.specs.Lengths.{slots_before, slot_bytes_of, frame_bytes_of}
use Rattle.l3_stream.specs.declared.fault.StreamFault.{StreamFault}
use Rattle.l3_stream.specs.declared.fault.StreamFault.TheVariants as faults
use Rattle.l3_stream.specs.declared.unit.Unit.{Unit}
use Rattle.l3_stream.specs.declared.unit.ChosenFrame.{ChosenFrame}
use Rattle.l3_stream.specs.Fields.{same}
use Rattle.l3_stream.specs.Units.{lengths}
use Rattle.l3_stream.specs.Frames.{placed}
use Rattle.l3_stream.specs.Header.{header_at, settings_at}
use Rattle.l3_stream.specs.Side.{side_bytes}
use Rattle.l3_stream.specs.SideReading.{side_at}
use Rattle.l3_stream.specs.Tape.{start_of}
use Rattle.l3_stream.specs.Faults.{◌>>=◌, checked, or_fault, clear}
use Rattle.l3_stream.specs.UnitReading.{main_units_at}

-- where reading stands: at frame `number`, which begins at byte `at` of the file; the codes before
-- it end at tape bit `end`, and `rest` are the bits from there to the end of the slots before it
pub record Place : Type 0 where
  pub number : ℕ
  pub at : ℕ
  pub end : ℕ
  pub rest : List Bool

-- the start of the file
abbrev pub first_place : Place
first_place = record { number = 0; at = 0; end = 0; rest = [] }

-- main_data_begin and units by the side information of the frame that these bytes begin with
unfoldable pub head_at : Settings → Place → List ℕ → Result (ℕ × List Unit) StreamFault
head_at st p bytes = do
  four ← checked (nat_le 4 (length bytes)) (faults.ShortFrame p.at)
  header ← checked (same (bits_of (take 4 bytes)) (header_at st p.number)) (faults.BadHeader p.at)
  whole ← checked (nat_le (frame_bytes_of st p.number) (length bytes)) (faults.ShortFrame p.at)
  or_fault (faults.BadSide p.at) (side_at st.channels (bits_of (take (side_bytes st.channels) (drop 4 bytes))))

-- the bits of its slot
unfoldable pub slot_at : Settings → ℕ → List ℕ → List Bool
slot_at st n bytes = bits_of (take (slot_bytes_of st n) (drop (4 + side_bytes st.channels) bytes))

-- its units, from the main data
unfoldable pub main_at : Settings → Place → ℕ × List Unit → List Bool → Result (List Unit) StreamFault
main_at st p side slot = do
  begun ← checked (nat_le side.0 (slots_before st p.number) && nat_le p.end (start_of st p.number side.0)) (faults.BadBegin p.at)
  zeros ← clear p.end (take (start_of st p.number side.0 - p.end) p.rest)
  sized ← checked (nat_le (lengths side.1) (8 * (side.0 + slot_bytes_of st p.number))) (faults.WrongLength (start_of st p.number side.0))
  main_units_at st (start_of st p.number side.0) side.1 (drop (start_of st p.number side.0 - p.end) (p.rest ++ slot))

-- where reading stands behind it
unfoldable pub next_place : Settings → Place → ℕ × List Unit → List Bool → Place
next_place st p side slot = record {
  number = suc p.number;
  at = p.at + frame_bytes_of st p.number;
  end = start_of st p.number side.0 + lengths side.1;
  rest = drop (lengths side.1) (drop (start_of st p.number side.0 - p.end) (p.rest ++ slot));
}

-- the frames from a place on, of which at most so many may come; behind the last frame's codes the
-- tape is 0
unfoldable pub frames_from : Settings → ℕ → Place → List ℕ → Result (List ChosenFrame) StreamFault
frames_from st limit p [] = do
  zeros ← clear p.end p.rest
  Ok []
frames_from st zero p (b ∷ bytes) = Err (faults.TooLong p.at)
frames_from st (suc limit) p (b ∷ bytes) = do
  side ← head_at st p (b ∷ bytes)
  units ← main_at st p side (slot_at st p.number (b ∷ bytes))
  others ← frames_from st limit (next_place st p side (slot_at st p.number (b ∷ bytes))) (drop (frame_bytes_of st p.number) (b ∷ bytes))
  Ok (record { begin = side.0; units = placed st.channels units } ∷ others)

-- what a stream holds: frames, and the settings of its first header, where there is a frame
pub record Content : Type 0 where
  pub settings : Option Settings
  pub frames : List ChosenFrame

-- the content of frames under these settings
abbrev pub content_of : Settings → List ChosenFrame → Content
content_of st [] = record { settings = None; frames = [] }
content_of st (f ∷ fs) = record { settings = Some st; frames = f ∷ fs }

-- the content of a stream of at most so many frames, or its first fault
unfoldable pub reading_of : ℕ → List ℕ → Result Content StreamFault
reading_of limit [] = Ok (record { settings = None; frames = [] })
reading_of zero (b ∷ bytes) = Err (faults.TooLong 0)
reading_of (suc limit) (b ∷ bytes) = do
  four ← checked (nat_le 4 (length (b ∷ bytes))) (faults.ShortFrame 0)
  st ← or_fault (faults.BadHeader 0) (settings_at (bits_of (take 4 (b ∷ bytes))))
  frames ← frames_from st (suc limit) first_place (b ∷ bytes)
  Ok (record { settings = Some st; frames = frames })

-- the fault of a reading
abbrev pub fault_in : Result Content StreamFault → Option StreamFault
fault_in (Ok content) = None
fault_in (Err fault) = Some fault

-- the first deviation, with its place
unfoldable pub deviation_of : ℕ → List ℕ → Option StreamFault
deviation_of limit bytes = fault_in (reading_of limit bytes)
