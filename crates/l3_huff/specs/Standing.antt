-- A code that stands in bytes.
use Rattle.std.specs.Prelude.{◌≡◌, ◌≤◌, ◌+◌, ℕ, ℤ, List, length, slice_range, unsigned_abs}
use Rattle.l3_bits.specs.Bits.{bits_of}
use Rattle.l3_huff.specs.declared.quads.QuadTable.{QuadTable}
use Rattle.l3_huff.specs.Tables.{Holds}
use Rattle.l3_huff.specs.Codes.{IsQuad, pair_code_of, quad_code_of}

-- the code of (x, y) stands at bit `at`, whole before `end`, and `next` is the bit after it
pub record PairStands (table : ℕ) (bytes : List ℕ) (at end : ℕ) (x y : ℤ) (next : ℕ) : Type 0 where
  pub holds_x : Holds table (unsigned_abs x)
  pub holds_y : Holds table (unsigned_abs y)
  pub after : next ≡ at + length (pair_code_of table x y)
  pub whole : next ≤ end
  pub code : slice_range (bits_of bytes) at next ≡ pair_code_of table x y

-- the code of a quadruple stands at bit `at`, whole before `end`, and `next` is the bit after it
pub record QuadStands (table : QuadTable) (bytes : List ℕ) (at end : ℕ) (quad : List ℤ) (next : ℕ) : Type 0 where
  pub values : IsQuad quad
  pub after : next ≡ at + length (quad_code_of table quad)
  pub whole : next ≤ end
  pub code : slice_range (bits_of bytes) at next ≡ quad_code_of table quad
