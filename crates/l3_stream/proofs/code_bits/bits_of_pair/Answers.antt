use Rattle.std.proofs.Common.{sym, ◌∙◌, FitsSigned, w16, rules}
use Rattle.std.proofs.lemmas.Int.{to_z-of_z}
use Rattle.l3_huff.proofs.Lengths.{length-of_magnitudes}
use Rattle.l3_stream.specs.Units.{line_at}
use Rattle.l3_stream.proofs.code_bits.bits_of_pair.Goals as goal

pub returns-then-holds-2-clause-value : goal.returns-then-holds-2-clause-value
returns-then-holds-2-clause-value c =
    let x = line_at c.args.pair 0 in
    let y = line_at c.args.pair 1 in
    let fits_x : FitsSigned w16 x = search rules in
    let fits_y : FitsSigned w16 y = search rules in
    let counted = rw (c.unsigned_abs-x.ensures.value, c.unsigned_abs-y.ensures.value, to_z-of_z w16 x fits_x, to_z-of_z w16 y fits_y) at c.pair_bits.ensures.value in
    counted ∙ sym (length-of_magnitudes c.args.table x y)
