use Rattle.std.proofs.Common.{◌+◌, arith, ap, ◌∙◌, FitsSigned, w16, rules}
use Rattle.std.proofs.lemmas.Int.{to_z-of_z}
use Rattle.l3_bits.specs.Bits.{bits_of}
use Rattle.l3_stream.specs.Units.{line_at}
use Rattle.l3_frames.specs.Laying.{laid_over}
use Rattle.l3_frames.proofs.codes.write_pair.Goals as goal

pub pair_code-requires-clause-holds_x : goal.pair_code-requires-clause-holds_x
pair_code-requires-clause-holds_x c =
    let fits : FitsSigned w16 (line_at c.args.pair 0) = search rules in
    rw (to_z-of_z w16 (line_at c.args.pair 0) fits) c.requires.held.0

pub pair_code-requires-clause-holds_y : goal.pair_code-requires-clause-holds_y
pair_code-requires-clause-holds_y c =
    let fits : FitsSigned w16 (line_at c.args.pair 1) = search rules in
    rw (to_z-of_z w16 (line_at c.args.pair 1) fits) c.requires.held.1

pub write_code-requires-clause-within : goal.write_code-requires-clause-within
write_code-requires-clause-within c =
    let x = line_at c.args.pair 0 in
    let y = line_at c.args.pair 1 in
    let fits_x : FitsSigned w16 x = search rules in
    let fits_y : FitsSigned w16 y = search rules in
    let size = rw (to_z-of_z w16 x fits_x, to_z-of_z w16 y fits_y) at c.pair_code.ensures.length in
    omega (arith, size, c.requires.within)

pub returns-clause-bits : goal.returns-clause-bits
returns-clause-bits c =
    let x = line_at c.args.pair 0 in
    let y = line_at c.args.pair 1 in
    let fits_x : FitsSigned w16 x = search rules in
    let fits_y : FitsSigned w16 y = search rules in
    let code = rw (to_z-of_z w16 x fits_x, to_z-of_z w16 y fits_y) at c.pair_code.ensures.code in
    c.write_code.ensures.bits ∙ ap (λ bits. laid_over c.args.at bits (bits_of c.args.out.now)) code

pub returns-clause-place : goal.returns-clause-place
returns-clause-place c =
    let x = line_at c.args.pair 0 in
    let y = line_at c.args.pair 1 in
    let fits_x : FitsSigned w16 x = search rules in
    let fits_y : FitsSigned w16 y = search rules in
    let size = rw (to_z-of_z w16 x fits_x, to_z-of_z w16 y fits_y) at c.pair_code.ensures.length in
    c.write_code.ensures.place ∙ ap (λ n. c.args.at + n) size
