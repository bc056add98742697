use Rattle.l3_bits.specs.Bits.{digits}
use Rattle.l3_bits.proofs.Places.{field_in_byte}
use Rattle.l3_bits.proofs.writing.put_in_byte.Goals as goal

pub returns-clause-value : goal.returns-clause-value
returns-clause-value c =
    let out = c.args.out.now in
    field_in_byte out (digits c.args.width c.args.value) c.args.byte c.args.first c.args.width
    c.from.result c.with_field.result
    c.requires.within c.requires.byte c.from.ensures c.with_field.ensures.value
