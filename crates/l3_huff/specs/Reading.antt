-- Reading the code in front of bits.
use Rattle.std.specs.Prelude.{◌+◌, ◌/◌, ◌%◌, ℕ, zero, suc, ℤ, pos, negsuc, Bool, true, false, List, [], ◌∷◌, Option, Some, None, if◌then◌else◌, ◌==◌, drop, length, nat_lt, take}
use Rattle.l3_bits.specs.Bits.{number_of}
use Rattle.l3_huff.specs.declared.quads.QuadTable.{QuadTable}
use Rattle.l3_huff.specs.Tables.{codes_of, linbits_of, quad_codes, width_of}

infixl 10 ◌>>=◌
-- to go on with what was read, where something was (only the inside of this crate)
abbrev pub ◌>>=◌ : {A B : Type 0} → Option A → (A → Option B) → Option B
None >>= f = None
(Some x) >>= f = f x

-- the code begins the bits
abbrev pub begins : List Bool → List Bool → Bool
begins [] bits = true
begins (true ∷ code) (true ∷ bits) = begins code bits
begins (false ∷ code) (false ∷ bits) = begins code bits
begins _ _ = false

-- the place of the first code that begins the bits, and the bits after it
abbrev pub entry_at : List (List Bool) → List Bool → Option (ℕ × List Bool)
entry_at [] bits = None
entry_at (code ∷ codes) bits =
    if begins code bits then Some (0, drop (length code) bits)
    else entry_at codes bits >>= λ found. Some (suc found.0, found.1)

-- the value of an absolute value: where that isn't 0, a sign is read
unfoldable pub sign_at : ℕ → List Bool → Option (ℤ × List Bool)
sign_at zero bits = Some (pos zero, bits)
sign_at (suc n) (false ∷ bits) = Some (pos (suc n), bits)
sign_at (suc n) (true ∷ bits) = Some (negsuc n, bits)
sign_at (suc n) [] = None

-- the value of a row or a column: where that is 15, linbits are read, then the sign
unfoldable pub tail_at : ℕ → ℕ → List Bool → Option (ℤ × List Bool)
tail_at table entry bits =
    if entry == 15
    then (if nat_lt (length bits) (linbits_of table) then None
    else sign_at (15 + number_of (take (linbits_of table) bits)) (drop (linbits_of table) bits))
    else sign_at entry bits

-- the pair whose code begins the bits, and the bits after it
unfoldable pub pair_at : ℕ → List Bool → Option ((ℤ × ℤ) × List Bool)
pair_at table bits = do
  entry ← entry_at (codes_of table) bits
  x ← tail_at table (entry.0 / width_of table) entry.1
  y ← tail_at table (entry.0 % width_of table) x.1
  Some ((x.0, y.0), y.1)

-- the absolute values of a quadruple, by the index of its code
abbrev pub index_values : ℕ → List ℕ
index_values index = index / 8 ∷ index / 4 % 2 ∷ index / 2 % 2 ∷ index % 2 ∷ []

-- the values of absolute values, in order
unfoldable pub signs_at : List ℕ → List Bool → Option (List ℤ × List Bool)
signs_at [] bits = Some ([], bits)
signs_at (value ∷ values) bits = do
  x ← sign_at value bits
  others ← signs_at values x.1
  Some (x.0 ∷ others.0, others.1)

-- the quadruple whose code begins the bits, and the bits after it
unfoldable pub quad_at : QuadTable → List Bool → Option (List ℤ × List Bool)
quad_at table bits = do
  entry ← entry_at (quad_codes table) bits
  signs_at (index_values entry.0) entry.1
