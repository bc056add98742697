-- The code of a pair and of a quadruple.
use Rattle.std.specs.Prelude.{◌≡◌, ◌≤◌, ◌+◌, ◌-◌, ◌*◌, ◌++◌, ℕ, zero, suc, ℤ, pos, negsuc, Bool, true, false, List, [], ◌∷◌, All, if◌then◌else◌, length, min, nat_le, slice_index_or, unsigned_abs}
use Rattle.std.specs.List.{flat_map}
use Rattle.l3_bits.specs.Bits.{digits}
use Rattle.l3_huff.specs.declared.quads.QuadTable.{QuadTable}
use Rattle.l3_huff.specs.Tables.{linbits_of, table_code, quad_codes}

-- the linbits: what an absolute value is above 15, where it is 15 or more
unfoldable pub linbits_code : ℕ → ℕ → List Bool
linbits_code table value = if nat_le 15 value then digits (linbits_of table) (value - 15) else []

-- the sign, 1 for negative, of a value that isn't 0
unfoldable pub sign_code : ℤ → List Bool
sign_code (pos zero) = []
sign_code (pos (suc n)) = false ∷ []
sign_code (negsuc n) = true ∷ []

-- linbits and sign
unfoldable pub tail_code : ℕ → ℤ → List Bool
tail_code table x = linbits_code table (unsigned_abs x) ++ sign_code x

-- the code of a pair: table code, linbits of x, sign of x, linbits of y, sign of y
unfoldable pub pair_code_of : ℕ → ℤ → ℤ → List Bool
pair_code_of table x y = table_code table (min (unsigned_abs x) 15) (min (unsigned_abs y) 15) ++ (tail_code table x ++ tail_code table y)

-- four values, each -1, 0 or 1
abbrev pub IsQuad : List ℤ → Type 0
IsQuad quad = (length quad ≡ 4) × All (λ x. unsigned_abs x ≤ 1) quad

-- the index of a quadruple's code
unfoldable pub quad_index : List ℤ → ℕ
quad_index (v ∷ w ∷ x ∷ y ∷ []) = 8 * unsigned_abs v + 4 * unsigned_abs w + 2 * unsigned_abs x + unsigned_abs y
quad_index _ = 0

-- the code of a quadruple: the code of its index, then the signs in order
unfoldable pub quad_code_of : QuadTable → List ℤ → List Bool
quad_code_of table quad = slice_index_or (quad_codes table) (quad_index quad) [] ++ flat_map sign_code quad
