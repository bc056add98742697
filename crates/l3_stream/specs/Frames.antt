-- A frame: its units in order, its codes, and when it is coded (ISO/IEC 11172-3, 2.4, the main
-- data).
use Rattle.std.specs.Prelude.{◌≡◌, ℕ, Bool, List, [], ◌∷◌, length, sum_by}
use Rattle.std.specs.List.{flat_map, AllByRecursion}
use Rattle.l3_base.specs.declared.settings.Settings.{Settings}
use Rattle.l3_base.specs.declared.rate.Channels.{Channels}
use Rattle.l3_base.specs.declared.rate.Channels.TheVariants.{Mono, Stereo}
use Rattle.l3_huff.specs.declared.quads.QuadTable.TheVariants.{A}
use Rattle.l3_stream.specs.declared.unit.Unit.{Unit}
use Rattle.l3_stream.specs.declared.unit.ChosenFrame.{ChosenFrame}
use Rattle.l3_stream.specs.Units.{zero_lines, unit_bits, lengths, IsCodedUnit}

-- the unit that is zero in every field, with table A: the second channel's in mono
unfoldable pub blank : Unit
blank = record { length = 0; big = 0; quads = 0; gain = 0; region0 = 0; region1 = 0; tables = 0 ∷ 0 ∷ 0 ∷ []; quad = A; lines = zero_lines 576 }

-- units in a frame: two granules of one or two channels
abbrev pub units_number : Channels → ℕ
units_number Mono = 2
units_number Stereo = 4

-- the units in the order of the stream, granule by granule and in it channel by channel
unfoldable pub units_of : Channels → List (List Unit) → List Unit
units_of Mono ((a ∷ _) ∷ (b ∷ _) ∷ _) = a ∷ b ∷ []
units_of Stereo ((a ∷ b ∷ _) ∷ (c ∷ d ∷ _) ∷ _) = a ∷ b ∷ c ∷ d ∷ []
units_of _ _ = []

-- these units by granule and channel, in mono each with a blank one beside it
unfoldable pub placed : Channels → List Unit → List (List Unit)
placed Mono (a ∷ b ∷ _) = (a ∷ blank ∷ []) ∷ (b ∷ blank ∷ []) ∷ []
placed Stereo (a ∷ b ∷ c ∷ d ∷ _) = (a ∷ b ∷ []) ∷ (c ∷ d ∷ []) ∷ []
placed _ _ = []

-- the codes of units, one after the other
abbrev pub units_bits : Settings → List Unit → List Bool
units_bits st us = flat_map (unit_bits st) us

-- the code bits of a frame
unfoldable pub code_bits : Settings → ChosenFrame → List Bool
code_bits st f = units_bits st (units_of st.channels f.units)

-- the bits of a frame's main data: the sum of part2_3_length of all its units; blank units add
-- nothing
abbrev pub main_data_length : ChosenFrame → ℕ
main_data_length f = sum_by lengths f.units

-- a coded frame: two granules of two units, in mono the second of each blank, and each unit of a
-- channel that is there is coded
pub record IsCoded (st : Settings) (f : ChosenFrame) : Type 0 where
  pub shape : f.units ≡ placed st.channels (units_of st.channels f.units)
  pub number : length (units_of st.channels f.units) ≡ units_number st.channels
  pub units : AllByRecursion (IsCodedUnit st) (units_of st.channels f.units)
