-- The bits of units and of side information, written and read.
use Rattle.std.proofs.Common.{◌≡◌, ℕ, ◌+◌, ◌*◌, ◌≤◌, Bool, List, [], ◌∷◌, length, take, drop, get_or, refl, ap, sym, ◌∙◌, arith}
use Rattle.std.proofs.lemmas.List.{length-take-le, length-drop}
use Rattle.l3_bits.specs.Bits.{digits, bits_of, number_of}
use Rattle.l3_bits.proofs.Places.{length-bits_of}
use Rattle.l3_huff.specs.declared.quads.QuadTable.{QuadTable}
use Rattle.l3_stream.specs.declared.unit.Unit.{Unit}
use Rattle.l3_stream.specs.Units.{HasFields, zero_lines}
use Rattle.l3_stream.specs.Frames.{blank}
use Rattle.l3_stream.specs.Fields.{fields_at}
use Rattle.l3_stream.specs.Side.{unit_side, unit_widths, unit_values}
use Rattle.l3_stream.specs.SideReading.{quad_from, unit_from, unit_side_of}
use Rattle.l3_stream.proofs.Side.{values_fit}
use Rattle.l3_stream.specs.Numbers.{fields_of_number}
use Rattle.l3_stream.proofs.NumberLemmas.{number_in, number_in-digits, fields_at-number}

-- ---- a unit

-- the number of a unit's fields
pub unit_digits : (u : Unit) (number : ℕ) → HasFields u → number ≡ number_in unit_widths (unit_values u) → digits 59 number ≡ unit_side u
unfolding unit_side
unit_digits u number h is = ap (digits 59) is ∙ number_in-digits unit_widths (unit_values u) (values_fit u h)

abbrev made : ℕ → ℕ → ℕ → ℕ → ℕ → List ℕ → QuadTable → Unit
made size big gain region0 region1 tables quad = record { length = size; big = big; quads = 0; gain = gain; region0 = region0; region1 = region1; tables = tables; quad = quad; lines = zero_lines 576 }

-- a blank unit with other fields
pub set_unit : (u : Unit) (size big gain region0 region1 : ℕ) (tables : List ℕ) (quad : QuadTable) → u ≡ blank →
    record u { length = size; big = big; gain = gain; region0 = region0; region1 = region1; tables = tables; quad = quad } ≡ made size big gain region0 region1 tables quad
unfolding blank
set_unit u size big gain region0 region1 tables quad is =
    ap (λ (v : Unit). record v { length = size; big = big; gain = gain; region0 = region0; region1 = region1; tables = tables; quad = quad }) is

pub same_made : (n a b c d e f g h : ℕ) (quad : QuadTable) →
    a ≡ get_or (fields_of_number unit_widths n) 0 0 → b ≡ get_or (fields_of_number unit_widths n) 1 0 → c ≡ get_or (fields_of_number unit_widths n) 2 0 →
    d ≡ get_or (fields_of_number unit_widths n) 8 0 → e ≡ get_or (fields_of_number unit_widths n) 9 0 →
    f ≡ get_or (fields_of_number unit_widths n) 5 0 → g ≡ get_or (fields_of_number unit_widths n) 6 0 → h ≡ get_or (fields_of_number unit_widths n) 7 0 →
    quad ≡ quad_from (get_or (fields_of_number unit_widths n) 12 0) →
    made a b c d e (f ∷ g ∷ h ∷ []) quad ≡ unit_from (fields_of_number unit_widths n)
same_made n a b c d e f g h quad ia ib ic id ie if_ ig ih iq = rw (ia, ib, ic, id, ie, if_, ig, ih, iq) refl

-- the fields of the unit from a bit on are those of its number
pub unit_fields : (bytes : List ℕ) (at number : ℕ) → at + 59 ≤ 8 * length bytes → number ≡ number_of (take 59 (drop at (bits_of bytes))) →
    fields_at unit_widths (take 59 (drop at (bits_of bytes))) ≡ fields_of_number unit_widths number
unit_fields bytes at number within is =
    let rest = drop at (bits_of bytes) in
    let size : length (take 59 rest) ≡ 59 = length-take-le 59 rest (omega (arith, length-drop at (bits_of bytes), length-bits_of bytes)) in
    fields_at-number unit_widths (take 59 rest) size ∙ ap (fields_of_number unit_widths) (sym is)

pub unit_is : (unit : Unit) (bits : List Bool) (number : ℕ) → unit ≡ unit_from (fields_of_number unit_widths number) → fields_at unit_widths bits ≡ fields_of_number unit_widths number → unit ≡ unit_side_of bits
unfolding unit_side_of
unit_is unit bits number is same = is ∙ ap unit_from (sym same)
