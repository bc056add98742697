use Rattle.std.proofs.Common.{◌≡◌, length, subst, sym, rules}
use Rattle.l3_stream.specs.Coded.{HasZeroFields}
use Rattle.l3_stream.proofs.Shapes.{blank_from, fields_of_blank, zeros_of_blank}
use Rattle.l3_stream.proofs.coded.is_blank.Goals as goal

pub returns-then-has_zero_fields-clause-blank : goal.returns-then-has_zero_fields-clause-blank
returns-then-has_zero_fields-clause-blank c = λ zero.
    let size : length c.args.unit.now.lines ≡ 576 = search rules in
    blank_from c.args.unit.now (c.has_zero_fields.ensures.fields c.if-has_zero_fields.true) size (c.are_zero.ensures.0 zero)

pub returns-then-has_zero_fields-clause-refused : goal.returns-then-has_zero_fields-clause-refused
returns-then-has_zero_fields-clause-refused c = λ no e.
    let size : length c.args.unit.now.lines ≡ 576 = search rules in
    let is = c.are_zero.ensures.1 (zeros_of_blank c.args.unit.now size e) in cc

pub returns-else-has_zero_fields-clause-refused : goal.returns-else-has_zero_fields-clause-refused
returns-else-has_zero_fields-clause-refused c = λ no e. c.has_zero_fields.ensures.refused no (subst HasZeroFields (sym e) fields_of_blank)
