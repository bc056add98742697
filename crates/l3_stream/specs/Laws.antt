-- Laws of this crate's definitions, each carried by a function of src/laws.rt.
use Rattle.std.specs.Prelude.{◌≡◌, ◌<◌, ◌≤◌, ◌+◌, ◌-◌, ◌*◌, ℕ, Bool, false, List, length, get_or, map, Some, ◌⊎◌}
use Rattle.std.specs.List.{slice_get}
use Rattle.l3_base.specs.declared.settings.Settings.{Settings}
use Rattle.l3_base.specs.declared.rate.Channels.{Channels}
use Rattle.l3_base.specs.Lengths.{slots_before}
use Rattle.l3_stream.specs.declared.unit.Unit.{Unit}
use Rattle.l3_stream.specs.declared.unit.ChosenFrame.{ChosenFrame}
use Rattle.l3_stream.specs.Units.{lengths}
use Rattle.l3_stream.specs.Frames.{units_of, code_bits, main_data_length, IsCoded}
use Rattle.l3_base.specs.Header.{header_bits}
use Rattle.l3_stream.specs.Header.{header_at, header_from, settings_at}
use Rattle.l3_stream.specs.Side.{side_bytes, IsSide}
use Rattle.l3_stream.specs.SideReading.{side_at, stripped, SidePassesRule}
use Rattle.l3_stream.specs.Tape.{start_of, end_of, tape_of, FramesFit}

-- ---- the tape by positions

-- the tape has the bits of all slots; bit t of frame n's codes stands at 8 (S_n - begin_n) + t; a
-- bit that no frame's codes reach is 0
pub record TapeIs (st : Settings) (fs : List ChosenFrame) : Type 0 where
  pub whole : length (tape_of st fs) ≡ 8 * slots_before st (length fs)
  pub codes : (n t : ℕ) (f : ChosenFrame) → slice_get fs n ≡ Some f → t < length (code_bits st f) →
      get_or (tape_of st fs) (8 * (slots_before st n - f.begin) + t) false ≡ get_or (code_bits st f) t false
  pub zeros : (t : ℕ) → ((n : ℕ) (f : ChosenFrame) → slice_get fs n ≡ Some f → (t < start_of st n f.begin) ⊎ (end_of st n f ≤ t)) →
      get_or (tape_of st fs) t false ≡ false

abbrev pub TapeByPositions : Type 0
TapeByPositions = (st : Settings) (fs : List ChosenFrame) → FramesFit st 0 0 fs → TapeIs st fs

-- a frame has as many code bits as part2_3_length says: of the units in the stream's order, and of
-- all units
pub record HasLengths (st : Settings) (f : ChosenFrame) : Type 0 where
  pub units : length (code_bits st f) ≡ lengths (units_of st.channels f.units)
  pub all : length (code_bits st f) ≡ main_data_length f

-- a coded frame has
abbrev pub CodesHaveLengths : Type 0
CodesHaveLengths = (st : Settings) (f : ChosenFrame) → IsCoded st f → HasLengths st f

-- ---- reading and spelling of headers

-- bits that are read as a header are that header; so bits that are none are read as none
pub record HeadersAreThere (bits : List Bool) : Type 0 where
  pub of_any : (st : Settings) (padded : Bool) → header_from bits ≡ Some (st, padded) → bits ≡ header_bits st padded false false
  pub of_first : (st : Settings) → settings_at bits ≡ Some st → bits ≡ header_at st 0

abbrev pub HeaderIsThere : Type 0
HeaderIsThere = (bits : List Bool) → HeadersAreThere bits

-- a header is read as that of its settings; so bits that are read as none are no header
pub record HeadersAreFound (st : Settings) : Type 0 where
  pub of_any : (padded : Bool) → header_from (header_bits st padded false false) ≡ Some (st, padded)
  pub of_first : settings_at (header_at st 0) ≡ Some st

abbrev pub HeaderIsFound : Type 0
HeaderIsFound = (st : Settings) → HeadersAreFound st

-- ---- reading and spelling of side information

-- what is read is spelled so
abbrev pub SideIsThere : Type 0
SideIsThere = (c : Channels) (bits : List Bool) (begin : ℕ) (us : List Unit) → length bits ≡ 8 * side_bytes c → side_at c bits ≡ Some (begin, us) → IsSide c bits begin us

-- what is spelled is read so, but for lines and quadruples
abbrev pub SideIsFound : Type 0
SideIsFound = (c : Channels) (bits : List Bool) (begin : ℕ) (us : List Unit) → IsSide c bits begin us → side_at c bits ≡ Some (begin, map stripped us)

-- the rule allows what is read, and what it allows is read
pub record SideIsExact (c : Channels) (bits : List Bool) : Type 0 where
  pub allowed : (side : ℕ × List Unit) → side_at c bits ≡ Some side → SidePassesRule c bits
  pub read : SidePassesRule c bits → (side : ℕ × List Unit) × (side_at c bits ≡ Some side)

abbrev pub SideIsByRule : Type 0
SideIsByRule = (c : Channels) (bits : List Bool) → length bits ≡ 8 * side_bytes c → SideIsExact c bits
