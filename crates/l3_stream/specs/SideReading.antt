-- The reading of side information: its fields are decoded, and then tested.
use Rattle.std.specs.Prelude.{◌≡◌, ℕ, zero, suc, ◌+◌, ◌≤◌, Bool, true, ◌&&◌, List, [], ◌∷◌, take, drop, slice_index, nat_le, if◌then◌else◌, Option, Some, None}
use Rattle.std.specs.List.{AllByRecursion}
use Rattle.l3_bits.specs.Bits.{number_of}
use Rattle.l3_base.specs.declared.rate.Channels.{Channels}
use Rattle.l3_huff.specs.declared.quads.QuadTable.{QuadTable}
use Rattle.l3_huff.specs.declared.quads.QuadTable.TheVariants.{A, B}
use Rattle.l3_huff.specs.Tables.{is_table, IsTable}
use Rattle.l3_stream.specs.declared.unit.Unit.{Unit}
use Rattle.l3_stream.specs.Units.{zero_lines}
use Rattle.l3_stream.specs.Frames.{units_number}
use Rattle.l3_stream.specs.Fields.{same, fields_at}
use Rattle.l3_stream.specs.Side.{unit_widths, unit_side, front_bits, front_width, front_widths}

-- the table of a count1table_select
abbrev pub quad_from : ℕ → QuadTable
quad_from zero = A
quad_from (suc n) = B

-- a unit of these fields, with no quadruples and with lines of value 0
abbrev pub unit_from : List ℕ → Unit
unit_from values = record {
  length = slice_index values 0;
  big = slice_index values 1;
  quads = 0;
  gain = slice_index values 2;
  region0 = slice_index values 8;
  region1 = slice_index values 9;
  tables = slice_index values 5 ∷ slice_index values 6 ∷ slice_index values 7 ∷ [];
  quad = quad_from (slice_index values 12);
  lines = zero_lines 576;
}

-- a unit as the side information knows it
unfoldable pub stripped : Unit → Unit
stripped u = record u { quads = 0; lines = zero_lines 576 }

-- the unit that 59 bits may be the side information of
unfoldable pub unit_side_of : List Bool → Unit
unit_side_of bits = unit_from (fields_at unit_widths bits)

-- big_values, the counts of regions and the tables are ones that the profile has
unfoldable pub has_fields : Unit → Bool
has_fields u = nat_le u.big 288 && (nat_le (u.region0 + u.region1 + 2) 22
    && (is_table (slice_index u.tables 0) && (is_table (slice_index u.tables 1) && is_table (slice_index u.tables 2))))

-- they are its side information, bit for bit, and it has such fields
unfoldable pub unit_side_passes : List Bool → Bool
unit_side_passes bits = same bits (unit_side (unit_side_of bits)) && has_fields (unit_side_of bits)

-- so many units, one after the other
unfoldable pub units_at : ℕ → List Bool → List Unit
units_at zero bits = []
units_at (suc n) bits = unit_side_of (take 59 bits) ∷ units_at n (drop 59 bits)

unfoldable pub units_pass : ℕ → List Bool → Bool
units_pass zero bits = true
units_pass (suc n) bits = unit_side_passes (take 59 bits) && units_pass n (drop 59 bits)

-- main_data_begin
abbrev pub begin_at : List Bool → ℕ
begin_at bits = number_of (take 9 bits)

unfoldable pub front_passes : Channels → List Bool → Bool
front_passes c bits = same (take (front_width c) bits) (front_bits c (begin_at bits))

-- begin and units of side information, if it is one of the profile
unfoldable pub side_at : Channels → List Bool → Option (ℕ × List Unit)
side_at c bits =
    if front_passes c bits && units_pass (units_number c) (drop (front_width c) bits)
    then Some (begin_at bits, units_at (units_number c) (drop (front_width c) bits)) else None

-- ---- the same in the words of the rule

-- what the rule asks of the fields of a unit
pub record PassesRule (values : List ℕ) : Type 0 where
  pub scalefac_compress : slice_index values 3 ≡ 0
  pub window_switching : slice_index values 4 ≡ 0
  pub preflag : slice_index values 10 ≡ 0
  pub scalefac_scale : slice_index values 11 ≡ 0
  pub big_values : slice_index values 1 ≤ 288
  pub regions : slice_index values 8 + slice_index values 9 + 2 ≤ 22
  pub table0 : IsTable (slice_index values 5)
  pub table1 : IsTable (slice_index values 6)
  pub table2 : IsTable (slice_index values 7)

-- the fields of so many units
abbrev pub unit_fields_at : ℕ → List Bool → List (List ℕ)
unit_fields_at zero bits = []
unit_fields_at (suc n) bits = fields_at unit_widths (take 59 bits) ∷ unit_fields_at n (drop 59 bits)

-- what the rule asks of side information: private_bits and scfsi are 0, and each unit passes
pub record SidePassesRule (c : Channels) (bits : List Bool) : Type 0 where
  pub private_bits : slice_index (fields_at (front_widths c) bits) 1 ≡ 0
  pub scfsi : slice_index (fields_at (front_widths c) bits) 2 ≡ 0
  pub units : AllByRecursion PassesRule (unit_fields_at (units_number c) (drop (front_width c) bits))
