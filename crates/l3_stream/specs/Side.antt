-- The side information: main_data_begin and the fields of the units (ISO/IEC 11172-3, 2.4, the
-- audio data of Layer III).
use Rattle.std.specs.Prelude.{◌≡◌, ℕ, ◌+◌, ◌<◌, ◌^◌, Bool, List, [], ◌∷◌, ◌++◌, length, slice_index}
use Rattle.std.specs.List.{flat_map, AllByRecursion}
use Rattle.l3_base.specs.declared.rate.Channels.{Channels}
use Rattle.l3_base.specs.declared.rate.Channels.TheVariants.{Mono, Stereo}
use Rattle.l3_huff.specs.declared.quads.QuadTable.{QuadTable}
use Rattle.l3_huff.specs.declared.quads.QuadTable.TheVariants.{A, B}
use Rattle.l3_stream.specs.declared.unit.Unit.{Unit}
use Rattle.l3_stream.specs.declared.unit.ChosenFrame.{ChosenFrame}
use Rattle.l3_stream.specs.Units.{HasFields}
use Rattle.l3_stream.specs.Frames.{units_number, units_of}
use Rattle.l3_stream.specs.Fields.{spelled}

-- ---- the fields of a unit, 59 bits

-- count1table_select
abbrev pub quad_number : QuadTable → ℕ
quad_number A = 0
quad_number B = 1

-- part2_3_length, big_values, global_gain, scalefac_compress, window_switching_flag, three of
-- table_select, region0_count, region1_count, preflag, scalefac_scale, count1table_select
abbrev pub unit_widths : List ℕ
unit_widths = 12 ∷ 9 ∷ 8 ∷ 4 ∷ 1 ∷ 5 ∷ 5 ∷ 5 ∷ 4 ∷ 3 ∷ 1 ∷ 1 ∷ 1 ∷ []

abbrev pub unit_values : Unit → List ℕ
unit_values u = u.length ∷ u.big ∷ u.gain ∷ 0 ∷ 0 ∷ slice_index u.tables 0 ∷ slice_index u.tables 1 ∷ slice_index u.tables 2
    ∷ u.region0 ∷ u.region1 ∷ 0 ∷ 0 ∷ quad_number u.quad ∷ []

unfoldable pub unit_side : Unit → List Bool
unit_side u = spelled unit_widths (unit_values u)

-- ---- the fields before them: main_data_begin, private_bits, scfsi

-- bits of private_bits
abbrev pub private_width : Channels → ℕ
private_width Mono = 5
private_width Stereo = 3

-- bits of scfsi, four a channel
abbrev pub scfsi_width : Channels → ℕ
scfsi_width Mono = 4
scfsi_width Stereo = 8

abbrev pub front_widths : Channels → List ℕ
front_widths c = 9 ∷ private_width c ∷ scfsi_width c ∷ []

unfoldable pub front_bits : Channels → ℕ → List Bool
front_bits c begin = spelled (front_widths c) (begin ∷ 0 ∷ 0 ∷ [])

-- their bits in all
abbrev pub front_width : Channels → ℕ
front_width c = 9 + private_width c + scfsi_width c

-- ---- the whole

-- bytes of the side information
abbrev pub side_bytes : Channels → ℕ
side_bytes Mono = 17
side_bytes Stereo = 32

-- the side information of a begin and of units
abbrev pub side_bits : Channels → ℕ → List Unit → List Bool
side_bits c begin us = front_bits c begin ++ flat_map unit_side us

-- the side information of a frame
abbrev pub side_of : Channels → ChosenFrame → List Bool
side_of c f = side_bits c f.begin (units_of c f.units)

-- these bits are the side information of this begin and of these units, whose fields it can say
pub record IsSide (c : Channels) (bits : List Bool) (begin : ℕ) (us : List Unit) : Type 0 where
  pub small : begin < 2 ^ 9
  pub number : length us ≡ units_number c
  pub fields : AllByRecursion HasFields us
  pub text : bits ≡ side_bits c begin us
