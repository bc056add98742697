use Rattle.std.proofs.Common.{arith, ◌*◌, ◌+◌, ◌<◌, length, ap, sym, subst, ◌∙◌}
use Rattle.l3_huff.specs.Codes.{IsQuad, quad_code_of}
use Rattle.l3_stream.proofs.Lines.{one_quad_more, quad_refused, all_quads}
use Rattle.l3_stream.proofs.code_bits.bits_of_quads.Goals as goal

pub returns-in-None-clause-none : goal.returns-in-None-clause-none
returns-in-None-clause-none c =
    let k = c.loop-k.k in
    let lines = c.args.lines.now in
    let inside : 4 * k + 3 < length lines = omega (arith, c.requires.whole, c.loop-k-test.true) in
    quad_refused c.args.table lines k c.loop-k.bits inside c.loop-k.invariant (λ is. c.in-None.ensures.none (subst IsQuad (sym c.four_from.ensures) is))

pub loop-k-preserved : goal.loop-k-preserved
loop-k-preserved c =
    let k = c.loop-k.k in
    let lines = c.args.lines.now in
    let inside : 4 * k + 3 < length lines = omega (arith, c.requires.whole, c.loop-k-test.true) in
    let quad = c.four_from.ensures in
    one_quad_more c.args.table lines k c.loop-k.bits c.in-Some.more inside c.loop-k.invariant
    (c.in-Some.ensures.value ∙ ap (λ l. length (quad_code_of c.args.table l)) quad) (subst IsQuad quad c.in-Some.ensures.held) c.in-Some.ensures.limit

pub returns-clause-value : goal.returns-clause-value
returns-clause-value c =
    (all_quads c.args.table c.args.lines.now c.loop-k.k c.loop-k.bits (omega (arith, c.requires.whole, c.loop-k-test.false)) c.loop-k.invariant).counted

pub returns-clause-held : goal.returns-clause-held
returns-clause-held c =
    (all_quads c.args.table c.args.lines.now c.loop-k.k c.loop-k.bits (omega (arith, c.requires.whole, c.loop-k-test.false)) c.loop-k.invariant).held
