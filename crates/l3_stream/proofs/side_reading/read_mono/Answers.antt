use Rattle.l3_bits.specs.Bits.{bits_of}
use Rattle.l3_stream.proofs.GranuleLemmas.{mono_rule, mono_parts, mono_placed}
use Rattle.l3_stream.proofs.side_reading.read_mono.Goals as goal

pub returns-then-read_unit-clause-rule : goal.returns-then-read_unit-clause-rule
returns-then-read_unit-clause-rule c = λ yes.
    mono_rule (bits_of c.args.bytes.now) c.in-Some.ensures.clear (c.read_unit.ensures.rule c.if-read_unit.true) (c.read_unit-then-read_unit.ensures.rule yes)

pub returns-then-read_unit-clause-units : goal.returns-then-read_unit-clause-units
returns-then-read_unit-clause-units c = λ yes.
    mono_placed c.args.frame.now.units (bits_of c.args.bytes.now) c.read_unit.new.unit c.read_unit-then-read_unit.new.unit c.requires.empty
    (c.read_unit.ensures.unit c.if-read_unit.true) (c.read_unit-then-read_unit.ensures.unit yes)

pub returns-then-read_unit-clause-refused : goal.returns-then-read_unit-clause-refused
returns-then-read_unit-clause-refused c = λ no rule. c.read_unit-then-read_unit.ensures.refused no (mono_parts (bits_of c.args.bytes.now) rule).second
