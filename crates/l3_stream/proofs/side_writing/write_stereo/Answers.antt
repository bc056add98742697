use Rattle.l3_bits.specs.Bits.{bits_of}
use Rattle.l3_stream.proofs.UnitFieldLemmas.{stereo_fields, stereo_written}
use Rattle.l3_stream.proofs.side_writing.write_stereo.Goals as goal

pub write_unit-requires-clause-fields : goal.write_unit-requires-clause-fields
write_unit-requires-clause-fields c = (stereo_fields c.args.frame.now.units _ c.requires.number c.requires.fields).0

pub write_unit-requires-2-clause-fields : goal.write_unit-requires-2-clause-fields
write_unit-requires-2-clause-fields c = (stereo_fields c.args.frame.now.units _ c.requires.number c.requires.fields).1

pub write_unit-requires-3-clause-fields : goal.write_unit-requires-3-clause-fields
write_unit-requires-3-clause-fields c = (stereo_fields c.args.frame.now.units _ c.requires.number c.requires.fields).2

pub write_unit-requires-4-clause-fields : goal.write_unit-requires-4-clause-fields
write_unit-requires-4-clause-fields c = (stereo_fields c.args.frame.now.units _ c.requires.number c.requires.fields).3

pub returns : goal.returns
returns c =
    stereo_written c.args.out.now (bits_of c.write_front.new.out) (bits_of c.write_unit.new.out) (bits_of c.write_unit-2.new.out) (bits_of c.write_unit-3.new.out) (bits_of c.write_unit-4.new.out)
    c.args.frame.now _ c.requires.room c.requires.number
    c.write_front.ensures c.write_unit.ensures c.write_unit-2.ensures c.write_unit-3.ensures c.write_unit-4.ensures
