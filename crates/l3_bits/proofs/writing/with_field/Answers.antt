use Rattle.std.proofs.Common.{arith}
use Rattle.std.proofs.Math.Nat.{pow-le-pow_right}
use Rattle.l3_bits.proofs.Fields.{with_field-is, with_field-below}
use Rattle.l3_bits.proofs.writing.with_field.Goals as goal

pub overflow_add-result-2 : goal.overflow_add-result-2
overflow_add-result-2 c =
    let below = with_field-below c.args.size c.args.first c.args.width c.args.number c.args.value
    c.power.result c.power-2.result c.power-end.result
    c.requires.within c.requires.number c.power.ensures c.power-2.ensures c.power-end.ensures in
    omega (
      arith,
      below,
      pow-le-pow_right {n = 2} (omega arith) {i =
          c.args.size} {j = 32} c.requires.size,
    )

pub returns-clause-value : goal.returns-clause-value
returns-clause-value c =
    with_field-is c.args.size c.args.first c.args.width c.args.number c.args.value c.power.result
    c.power-2.result c.power-end.result
    c.requires.within c.power.ensures c.power-2.ensures c.power-end.ensures

pub returns-clause-small : goal.returns-clause-small
returns-clause-small c =
    with_field-below c.args.size c.args.first c.args.width c.args.number c.args.value c.power.result
    c.power-2.result c.power-end.result
    c.requires.within c.requires.number c.power.ensures c.power-2.ensures c.power-end.ensures
