use Rattle.std.proofs.Common.{◌+◌, take, drop}
use Rattle.l3_bits.specs.Bits.{bits_of}
use Rattle.l3_stream.specs.SideReading.{unit_side_of}
use Rattle.l3_stream.proofs.GranuleLemmas.{both_set}
use Rattle.l3_stream.proofs.side_reading.read_granule.Goals as goal

pub returns-then-read_unit-clause-units : goal.returns-then-read_unit-clause-units
returns-then-read_unit-clause-units c = λ yes.
    let bits = bits_of c.args.bytes.now in
    both_set c.args.units.now c.read_unit.new.unit c.read_unit-then-read_unit.new.unit (unit_side_of (take 59 (drop c.args.at bits))) (unit_side_of (take 59 (drop (c.args.at + 59) bits)))
    c.requires.empty (c.read_unit.ensures.unit c.if-read_unit.true) (c.read_unit-then-read_unit.ensures.unit yes)
