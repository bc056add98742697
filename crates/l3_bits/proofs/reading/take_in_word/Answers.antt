use Rattle.std.proofs.Common.{ap, ◌∙◌, take, drop, ◌*◌}
use Rattle.l3_bits.specs.Bits.{bits_of, digits, number_of}
use Rattle.l3_bits.proofs.Places.{field_of_stretch}
use Rattle.l3_bits.proofs.reading.take_in_word.Goals as goal

pub returns-clause-value : goal.returns-clause-value
returns-clause-value c =
    let bytes = c.args.bytes.now in
    c.field_of.ensures.value
    ∙ (ap (λ n. number_of (take c.args.width (drop c.args.first (digits 32 n)))) c.from.ensures
    ∙ (ap (λ l. number_of (take c.args.width (drop c.args.first l))) c.word_at.ensures
    ∙ ap number_of (field_of_stretch (bits_of bytes) (8 * c.args.byte) 32 c.args.first c.args.width
    c.requires.word)))
