-- The code tables: which values they hold, and their codes.
use Rattle.std.specs.Prelude.{◌≤◌, ◌+◌, ◌-◌, ◌*◌, ◌^◌, ℕ, Bool, IsTrue, List, [], ◌∷◌, map, min, nat_eq, slice_index, slice_index_or, slice_range}
use Rattle.std.specs.List.{list_any, range_with_len, zip}
use Rattle.l3_bits.specs.Bits.{digits}
use Rattle.l3_huff.specs.declared.pair_tables.TheConstants.{WIDTHS, FIRSTS, LINBITS, LENGTHS, VALUES}
use Rattle.l3_huff.specs.declared.quad_tables.TheConstants.{QUAD_LENGTHS, QUAD_VALUES}
use Rattle.l3_huff.specs.declared.quads.QuadTable.{QuadTable}
use Rattle.l3_huff.specs.declared.quads.QuadTable.TheVariants.{A, B}

-- the tables of pairs that the profile has
abbrev pub profile_tables : List ℕ
profile_tables = 0 ∷ 1 ∷ 2 ∷ 3 ∷ 5 ∷ 6 ∷ 7 ∷ 8 ∷ 9 ∷ 10 ∷ 11 ∷ 12 ∷ 24 ∷ 25 ∷ 26 ∷ 27 ∷ 28 ∷ 29 ∷ 30 ∷ 31 ∷ []

-- whether the profile has the table
unfoldable pub is_table : ℕ → Bool
is_table table = list_any (nat_eq table) profile_tables

-- the profile has the table
abbrev pub IsTable : ℕ → Type 0
IsTable table = IsTrue (is_table table)

-- the rows, and the columns, of the table of codes `base`; 0 where there is none
unfoldable pub width_at : ℕ → ℕ
width_at base = slice_index WIDTHS base

-- where its entries begin among those of all tables
unfoldable pub first_at : ℕ → ℕ
first_at base = slice_index FIRSTS base

-- how many linbits a table has
unfoldable pub linbits_at : ℕ → ℕ
linbits_at table = slice_index LINBITS table

-- the length of the code at a place among all entries
unfoldable pub length_at : ℕ → ℕ
length_at place = slice_index LENGTHS place

-- that code as a number
unfoldable pub value_at : ℕ → ℕ
value_at place = slice_index VALUES place

-- the length of an index's code in table A of quadruples
unfoldable pub quad_length_at : ℕ → ℕ
quad_length_at index = slice_index QUAD_LENGTHS index

-- that code as a number
unfoldable pub quad_value_at : ℕ → ℕ
quad_value_at index = slice_index QUAD_VALUES index

-- the table that has the codes: tables 24 to 31 share theirs
abbrev pub base_of : ℕ → ℕ
base_of table = min table 24

-- the rows, and the columns, of a table
abbrev pub width_of : ℕ → ℕ
width_of table = width_at (base_of table)

-- the bits of a linbits field
abbrev pub linbits_of : ℕ → ℕ
linbits_of table = linbits_at table

-- the greatest value of a table: its last row's, and what linbits add
unfoldable pub greatest_of : ℕ → ℕ
greatest_of table = width_of table - 1 + (2 ^ linbits_of table - 1)

-- the table is of the profile and has codes for this absolute value
abbrev pub Holds : ℕ → ℕ → Type 0
Holds table value = IsTable table × (value ≤ greatest_of table)

-- the part of a list over all tables that is a table's, row by row
abbrev pub part_of : List ℕ → ℕ → List ℕ
part_of entries table = slice_range entries (first_at (base_of table)) (first_at (base_of table) + width_of table * width_of table)

-- the lengths of a table's codes, row by row
unfoldable pub lengths_of : ℕ → List ℕ
lengths_of table = part_of LENGTHS table

-- the codes of a table as numbers, row by row
unfoldable pub values_of : ℕ → List ℕ
values_of table = part_of VALUES table

-- codes from lengths and numbers
abbrev pub codes_from : List ℕ → List ℕ → List (List Bool)
codes_from lengths values = map (λ entry. digits entry.0 entry.1) (zip lengths values)

-- the codes of a table, row by row
unfoldable pub codes_of : ℕ → List (List Bool)
codes_of table = codes_from (lengths_of table) (values_of table)

-- the code of a row and a column
unfoldable pub table_code : ℕ → ℕ → ℕ → List Bool
table_code table row column = slice_index_or (codes_of table) (row * width_of table + column) []

-- the lengths of the codes of quadruples in table A, by index
unfoldable pub quad_lengths : List ℕ
quad_lengths = QUAD_LENGTHS

-- those codes as numbers
unfoldable pub quad_values : List ℕ
quad_values = QUAD_VALUES

-- the codes of quadruples by index; those of table B are 15 less the index in four bits
unfoldable pub quad_codes : QuadTable → List (List Bool)
quad_codes A = codes_from quad_lengths quad_values
quad_codes B = map (λ index. digits 4 (15 - index)) (range_with_len 0 16)
