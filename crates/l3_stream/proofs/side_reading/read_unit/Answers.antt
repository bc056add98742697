use Rattle.std.proofs.Common.{take, drop, sym, subst}
use Rattle.l3_bits.specs.Bits.{bits_of}
use Rattle.l3_stream.specs.SideReading.{PassesRule}
use Rattle.l3_stream.proofs.SideLemmas.{unit_fields, unit_is}
use Rattle.l3_stream.proofs.side_reading.read_unit.Goals as goal

pub returns-then-allowed-clause-rule : goal.returns-then-allowed-clause-rule
returns-then-allowed-clause-rule c = λ _.
    subst PassesRule (sym (unit_fields c.args.bytes.now c.args.at c.take_bits-number.result c.requires.within c.take_bits-number.ensures.value)) (c.passes-allowed.ensures.yes c.if-allowed.true)

pub returns-then-allowed-clause-unit : goal.returns-then-allowed-clause-unit
returns-then-allowed-clause-unit c = λ _.
    unit_is c.set_fields.new.unit (take 59 (drop c.args.at (bits_of c.args.bytes.now))) c.take_bits-number.result c.set_fields.ensures
    (unit_fields c.args.bytes.now c.args.at c.take_bits-number.result c.requires.within c.take_bits-number.ensures.value)

pub returns-else-allowed-clause-refused : goal.returns-else-allowed-clause-refused
returns-else-allowed-clause-refused c = λ no rule.
    c.passes-allowed.ensures.no no (subst PassesRule (unit_fields c.args.bytes.now c.args.at c.take_bits-number.result c.requires.within c.take_bits-number.ensures.value) rule)
