use Rattle.std.proofs.Common.{◌≡◌, ◌*◌, ◌^◌, ◌%◌, ap, arith, ◌∙◌, refl}
use Rattle.l3_huff.specs.Tables.{greatest_of, linbits_of, width_of}
use Rattle.l3_huff.proofs.Shapes.{shape_of}
use Rattle.l3_huff.proofs.Lengths.{one_shifted}
use Rattle.l3_huff.proofs.pairs.greatest.Goals as goal

pub overflow_sub-result : goal.overflow_sub-result
overflow_sub-result c =
    let width : c.from.result ≡ width_of c.args.table = cc in
    let some = (shape_of c.args.table c.requires).some in
    omega (arith, width, some)

pub returns : goal.returns
unfolding greatest_of
returns c =
    let width : c.from.result ≡ width_of c.args.table = cc in
    let power : 1 * 2 ^ c.linbits.result % 65536 ≡ 2 ^ linbits_of c.args.table =
    one_shifted c.linbits.result c.linbits.ensures.limit ∙ ap (λ l. 2 ^ l) c.linbits.ensures.value in
    rw (power, width) refl
