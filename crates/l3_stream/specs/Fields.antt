-- Fields of given widths in bits, one after the other.
use Rattle.std.specs.Prelude.{ℕ, ◌<◌, ◌^◌, Bool, true, false, List, [], ◌∷◌, ◌++◌, take, drop, ⊤}
use Rattle.l3_bits.specs.Bits.{digits, number_of}

-- each number in the bits of its width
abbrev pub spelled : List ℕ → List ℕ → List Bool
spelled [] values = []
spelled (width ∷ widths) [] = []
spelled (width ∷ widths) (value ∷ values) = digits width value ++ spelled widths values

-- the numbers that bits hold in fields of these widths
abbrev pub fields_at : List ℕ → List Bool → List ℕ
fields_at [] bits = []
fields_at (width ∷ widths) bits = number_of (take width bits) ∷ fields_at widths (drop width bits)

-- a number for each width, below 2 to its power. Only proofs speak of this.
abbrev pub FieldsFit : List ℕ → List ℕ → Type 0
FieldsFit [] [] = ⊤
FieldsFit (width ∷ widths) (value ∷ values) = (value < 2 ^ width) × FieldsFit widths values
FieldsFit _ _ = ⊥

-- two lists of bits are the same
abbrev pub same : List Bool → List Bool → Bool
same [] [] = true
same (true ∷ xs) (true ∷ ys) = same xs ys
same (false ∷ xs) (false ∷ ys) = same xs ys
same _ _ = false
