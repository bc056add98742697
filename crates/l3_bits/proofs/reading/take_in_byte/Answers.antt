use Rattle.std.proofs.Common.{ap, ◌∙◌, take, drop, ◌*◌}
use Rattle.l3_bits.specs.Bits.{bits_of, digits, number_of}
use Rattle.l3_bits.proofs.Places.{bits_of_byte, field_of_stretch}
use Rattle.l3_bits.proofs.reading.take_in_byte.Goals as goal

pub returns-clause-value : goal.returns-clause-value
returns-clause-value c =
    let bytes = c.args.bytes.now in
    c.field_of.ensures.value
    ∙ (ap (λ b. number_of (take c.args.width (drop c.args.first (digits 8 b)))) c.from.ensures
    ∙ (ap (λ l. number_of (take c.args.width (drop c.args.first l)))
    (bits_of_byte bytes c.args.byte c.requires.within)
    ∙ ap number_of (field_of_stretch (bits_of bytes) (8 * c.args.byte) 8 c.args.first c.args.width
    c.requires.byte)))
