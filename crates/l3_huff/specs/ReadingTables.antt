-- The reading tables: which code begins the bits ahead.
use Rattle.std.specs.Prelude.{◌<◌, ◌/◌, ◌%◌, ℕ, slice_index, slice_index_or, []}
use Rattle.l3_bits.specs.Bits.{digits}
use Rattle.l3_huff.specs.declared.reading_tables.TheConstants.{LONGEST, FIRST_CELLS, CELLS}
use Rattle.l3_huff.specs.declared.quad_tables.TheConstants.{QUAD_INDICES}
use Rattle.l3_huff.specs.declared.quads.QuadTable.{QuadTable}
use Rattle.l3_huff.specs.Tables.{base_of, quad_codes, table_code, width_of}
use Rattle.l3_huff.specs.Facts.{Begins}

-- the bits of the longest code of the table of codes `base`
unfoldable pub longest_at : ℕ → ℕ
longest_at base = slice_index LONGEST base

-- where its cells begin among those of all tables
unfoldable pub first_cell_at : ℕ → ℕ
first_cell_at base = slice_index FIRST_CELLS base

-- the cell at a place among those of all tables
unfoldable pub cell_at : ℕ → ℕ
cell_at place = slice_index CELLS place

-- the index whose code in table A begins the 6 bits ahead
unfoldable pub quad_index_at : ℕ → ℕ
quad_index_at ahead = slice_index QUAD_INDICES ahead

-- the bits of a table's longest code (only the inside of this crate)
abbrev pub longest_of : ℕ → ℕ
longest_of table = longest_at (base_of table)

-- the code of a row and a column, 16 * row + column being the cell, begins the digits of the
-- number ahead (only the inside of this crate)
pub record IsCellOf (table ahead cell : ℕ) : Type 0 where
  pub row : cell / 16 < width_of table
  pub column : cell % 16 < width_of table
  pub begins : Begins (table_code table (cell / 16) (cell % 16)) (digits (longest_of table) ahead)

-- the code of an index begins the digits of the 6 bits ahead (only the inside of this crate)
pub record IsIndexOf (table : QuadTable) (ahead index : ℕ) : Type 0 where
  pub place : index < 16
  pub begins : Begins (slice_index_or (quad_codes table) index []) (digits 6 ahead)
