use Rattle.std.proofs.Common.{◌*◌, ◌+◌, ◌<◌, length, arith, ap, sym, subst, ◌∙◌, rules}
use Rattle.l3_bits.specs.Bits.{bits_of}
use Rattle.l3_huff.specs.Codes.{IsQuad, quad_code_of}
use Rattle.l3_stream.specs.Units.{quads_code}
use Rattle.l3_frames.specs.Laying.{laid_over}
use Rattle.l3_frames.proofs.CodeLemmas.{none_laid, quad_held, quad_room, one_quad_laid, all_quads_laid}
use Rattle.l3_frames.proofs.codes.write_quads.Goals as goal

pub loop-k-init : goal.loop-k-init
loop-k-init c = record {
  so_far = record { laid = none_laid (quads_code c.args.table c.args.lines.now) c.args.at c.args.out.now; held = c.requires.held };
  size = search rules;
}

pub write_quad-place-requires-clause-small : goal.write_quad-place-requires-clause-small
write_quad-place-requires-clause-small c =
    let inside : 4 * c.loop-k.k + 3 < length c.args.lines.now = omega (arith, c.requires.whole, c.loop-k-test.true) in
    let held = quad_held c.args.table c.args.lines.now c.loop-k.k c.args.at c.loop-k.place c.args.out.now c.loop-k.out inside c.loop-k.invariant.so_far in
    subst IsQuad (sym c.four_from.ensures) held

pub write_quad-place-requires-clause-within : goal.write_quad-place-requires-clause-within
write_quad-place-requires-clause-within c =
    let inside : 4 * c.loop-k.k + 3 < length c.args.lines.now = omega (arith, c.requires.whole, c.loop-k-test.true) in
    let room = quad_room c.args.table c.args.lines.now c.loop-k.k c.args.at c.loop-k.place c.args.out.now c.loop-k.out inside c.loop-k.invariant.so_far c.requires.within in
    omega (arith, room, c.loop-k.invariant.size, ap (λ quad. length (quad_code_of c.args.table quad)) c.four_from.ensures)

pub loop-k-preserved : goal.loop-k-preserved
loop-k-preserved c =
    let place = c.loop-k.place in
    let inside : 4 * c.loop-k.k + 3 < length c.args.lines.now = omega (arith, c.requires.whole, c.loop-k-test.true) in
    let written = c.write_quad-place.ensures.bits ∙ ap (λ quad. laid_over place (quad_code_of c.args.table quad) (bits_of c.loop-k.out)) c.four_from.ensures in
    let end = c.write_quad-place.ensures.place ∙ ap (λ quad. place + length (quad_code_of c.args.table quad)) c.four_from.ensures in
    record {
      so_far = one_quad_laid c.args.table c.args.lines.now c.loop-k.k c.args.at place c.write_quad-place.result c.args.out.now c.loop-k.out c.write_quad-place.new.out
          inside c.loop-k.invariant.so_far c.requires.within written end;
      size = search rules;
    }

pub returns-clause-bits : goal.returns-clause-bits
returns-clause-bits c =
    (all_quads_laid c.args.table c.args.lines.now c.loop-k.k c.args.at c.loop-k.place c.args.out.now c.loop-k.out (omega (arith, c.requires.whole, c.loop-k-test.false)) c.loop-k.invariant.so_far).bits

pub returns-clause-place : goal.returns-clause-place
returns-clause-place c =
    (all_quads_laid c.args.table c.args.lines.now c.loop-k.k c.args.at c.loop-k.place c.args.out.now c.loop-k.out (omega (arith, c.requires.whole, c.loop-k-test.false)) c.loop-k.invariant.so_far).behind
