-- Codes and their reading are one relation.
use Rattle.std.specs.Prelude.{◌≡◌, ◌+◌, ◌++◌, ℕ, ℤ, pos, Bool, List, Some, if◌then◌else◌, length, min, nat_le, unsigned_abs}
use Rattle.l3_huff.specs.declared.quads.QuadTable.{QuadTable}
use Rattle.l3_huff.specs.Tables.{Holds, IsTable, linbits_of, table_code}
use Rattle.l3_huff.specs.Codes.{IsQuad, pair_code_of, quad_code_of}
use Rattle.l3_huff.specs.Reading.{pair_at, quad_at}

-- a table holds both values
abbrev pub HoldsPair : ℕ → ℤ → ℤ → Type 0
HoldsPair table x y = Holds table (unsigned_abs x) × Holds table (unsigned_abs y)

-- a pair that is found in front of bits is there, and the table holds it
abbrev pub PairIsThere : Type 0
PairIsThere = (table : ℕ) (bits rest : List Bool) (x y : ℤ) → IsTable table → pair_at table bits ≡ Some ((x, y), rest) →
    HoldsPair table x y × (bits ≡ pair_code_of table x y ++ rest)

-- a pair whose code is in front of bits is found
abbrev pub PairIsFound : Type 0
PairIsFound = (table : ℕ) (rest : List Bool) (x y : ℤ) → HoldsPair table x y → pair_at table (pair_code_of table x y ++ rest) ≡ Some ((x, y), rest)

-- a quadruple that is found in front of bits is there
abbrev pub QuadIsThere : Type 0
QuadIsThere = (table : QuadTable) (bits rest : List Bool) (quad : List ℤ) → quad_at table bits ≡ Some (quad, rest) →
    IsQuad quad × (bits ≡ quad_code_of table quad ++ rest)

-- a quadruple whose code is in front of bits is found
abbrev pub QuadIsFound : Type 0
QuadIsFound = (table : QuadTable) (rest : List Bool) (quad : List ℤ) → IsQuad quad → quad_at table (quad_code_of table quad ++ rest) ≡ Some (quad, rest)

-- no two pair codes of a table begin one another, whatever follows
abbrev pub OnePairCode : Type 0
OnePairCode = (table : ℕ) (x y x' y' : ℤ) (a b : List Bool) → HoldsPair table x y → HoldsPair table x' y' →
    pair_code_of table x y ++ a ≡ pair_code_of table x' y' ++ b → (x ≡ x') × (y ≡ y') × (a ≡ b)

-- no two quadruple codes of a table begin one another, whatever follows
abbrev pub OneQuadCode : Type 0
OneQuadCode = (table : QuadTable) (quad quad' : List ℤ) (a b : List Bool) → IsQuad quad → IsQuad quad' →
    quad_code_of table quad ++ a ≡ quad_code_of table quad' ++ b → (quad ≡ quad') × (a ≡ b)

-- a pair's code is as long as that of its absolute values
abbrev pub LengthOfMagnitudes : Type 0
LengthOfMagnitudes = (table : ℕ) (x y : ℤ) → length (pair_code_of table x y) ≡ length (pair_code_of table (pos (unsigned_abs x)) (pos (unsigned_abs y)))

-- the bits of linbits, from 15 on, and of a sign, from 1 on
abbrev pub tail_length : ℕ → ℕ → ℕ
tail_length table value = (if nat_le 15 value then linbits_of table else 0) + min value 1

-- a pair's code is as long as its table code, linbits and signs
abbrev pub LengthOfParts : Type 0
LengthOfParts = (table : ℕ) (x y : ℤ) → length (pair_code_of table x y)
    ≡ length (table_code table (min (unsigned_abs x) 15) (min (unsigned_abs y) 15)) + (tail_length table (unsigned_abs x) + tail_length table (unsigned_abs y))
