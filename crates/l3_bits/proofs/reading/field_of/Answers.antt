use Rattle.std.proofs.Common.{ap, sym, ◌∙◌, ◌-◌, ◌/◌, ◌%◌, ◌^◌}
use Rattle.l3_bits.specs.Bits.{number_of}
use Rattle.l3_bits.proofs.Fields.{field-is, number_of-digits_mod}
use Rattle.l3_bits.proofs.reading.field_of.Goals as goal

pub returns-clause-value : goal.returns-clause-value
returns-clause-value c =
    let number = c.args.number / 2 ^ (c.args.size - c.args.first - c.args.width) in
    ap (λ p. number % p) c.power.ensures
    ∙ (sym (number_of-digits_mod c.args.width number)
    ∙ ap number_of (sym (field-is c.args.size c.args.first c.args.width c.args.number
    c.requires.within)))
