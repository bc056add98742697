-- The reading of units from their side information and the bits of the tape. `end` is the tape bit
-- behind the bits that are left.
use Rattle.std.specs.Prelude.{ℕ, zero, suc, ◌+◌, ◌-◌, ◌*◌, ◌/◌, Bool, List, [], ◌∷◌, ◌++◌, length, take, drop, Result, Ok, Err, ℤ}
use Rattle.l3_base.specs.declared.settings.Settings.{Settings}
use Rattle.l3_huff.specs.declared.quads.QuadTable.{QuadTable}
use Rattle.l3_huff.specs.Reading.{pair_at, quad_at}
use Rattle.l3_stream.specs.declared.fault.StreamFault.{StreamFault}
use Rattle.l3_stream.specs.declared.fault.StreamFault.TheVariants as faults
use Rattle.l3_stream.specs.declared.unit.Unit.{Unit}
use Rattle.l3_stream.specs.Units.{table_at, zero_lines}
use Rattle.l3_stream.specs.Faults.{◌>>=◌, or_fault}

-- the lines of so many pairs, the first of which is line `line`, and the bits after them
unfoldable pub pairs_at : (ℕ → ℕ) → ℕ → ℕ → ℕ → List Bool → Result (List ℤ × List Bool) StreamFault
pairs_at table end line zero bits = Ok ([], bits)
pairs_at table end line (suc n) bits = do
  pair ← or_fault (faults.BadCode (end - length bits)) (pair_at (table line) bits)
  others ← pairs_at table end (line + 2) n pair.1
  Ok (pair.0.0 ∷ pair.0.1 ∷ others.0, others.1)

-- the lines of quadruples, until no bit is left; so many have room
unfoldable pub quads_at : QuadTable → ℕ → ℕ → List Bool → Result (List ℤ) StreamFault
quads_at table end room [] = Ok []
quads_at table end zero (b ∷ bits) = Err (faults.WrongLength (end - length (b ∷ bits)))
quads_at table end (suc room) (b ∷ bits) = do
  quad ← or_fault (faults.BadCode (end - length (b ∷ bits))) (quad_at table (b ∷ bits))
  others ← quads_at table end room quad.1
  Ok (quad.0 ++ others)

-- the unit with these lines, and zeros behind them
unfoldable pub with_lines : Unit → List ℤ → List ℤ → Unit
with_lines u pairs quads = record u { quads = length quads / 4; lines = pairs ++ (quads ++ zero_lines (576 - (length pairs + length quads))) }

-- the unit of this side information, from its bits: big_values pairs, then quadruples while 4 lines
-- have room
unfoldable pub unit_at : Settings → ℕ → Unit → List Bool → Result Unit StreamFault
unit_at st end u bits = do
  pairs ← pairs_at (table_at st u) end 0 u.big bits
  quads ← quads_at u.quad end ((576 - 2 * u.big) / 4) pairs.1
  Ok (with_lines u pairs.0 quads)

-- units one after the other, from tape bit `at` on, each of part2_3_length bits
unfoldable pub main_units_at : Settings → ℕ → List Unit → List Bool → Result (List Unit) StreamFault
main_units_at st at [] bits = Ok []
main_units_at st at (u ∷ us) bits = do
  unit ← unit_at st (at + u.length) u (take u.length bits)
  others ← main_units_at st (at + u.length) us (drop u.length bits)
  Ok (unit ∷ others)
