use Rattle.std.proofs.Common.{arith, ◌≡◌, ◌∙◌, ap, ◌*◌, ◌+◌, ◌<◌, length}
use Rattle.l3_stream.specs.Units.{table_at}
use Rattle.l3_stream.proofs.Lines.{one_pair_more, pair_refused, all_pairs}
use Rattle.l3_stream.proofs.code_bits.bits_of_pairs.Goals as goal

pub returns-in-None-clause-none : goal.returns-in-None-clause-none
returns-in-None-clause-none c =
    let tables = table_at c.args.settings.now c.args.unit.now in
    let k = c.loop-k.k in
    let lines = c.args.lines.now in
    let inside : 2 * k + 1 < length lines = omega (arith, c.requires.pairs, c.loop-k-test.true) in
    let table : c.table.result ≡ tables (2 * k) = c.table.ensures.value ∙ ap (λ f. f (2 * k)) c.of-regions.ensures in
    pair_refused tables lines k c.loop-k.bits inside c.loop-k.invariant (rw (table, c.two_from.ensures) at c.in-None.ensures.none)

pub loop-k-preserved : goal.loop-k-preserved
loop-k-preserved c =
    let tables = table_at c.args.settings.now c.args.unit.now in
    let k = c.loop-k.k in
    let lines = c.args.lines.now in
    let inside : 2 * k + 1 < length lines = omega (arith, c.requires.pairs, c.loop-k-test.true) in
    let table : c.table.result ≡ tables (2 * k) = c.table.ensures.value ∙ ap (λ f. f (2 * k)) c.of-regions.ensures in
    let value = rw (table, c.two_from.ensures) at c.in-Some.ensures.value in
    let held = rw (table, c.two_from.ensures) at c.in-Some.ensures.held in
    one_pair_more tables lines k c.loop-k.bits c.in-Some.more inside c.loop-k.invariant value held c.in-Some.ensures.limit

pub returns-clause-value : goal.returns-clause-value
returns-clause-value c =
    (all_pairs (table_at c.args.settings.now c.args.unit.now) c.args.lines.now c.loop-k.k c.loop-k.bits (omega (arith, c.requires.pairs, c.loop-k-test.false)) c.loop-k.invariant).counted

pub returns-clause-held : goal.returns-clause-held
returns-clause-held c =
    (all_pairs (table_at c.args.settings.now c.args.unit.now) c.args.lines.now c.loop-k.k c.loop-k.bits (omega (arith, c.requires.pairs, c.loop-k-test.false)) c.loop-k.invariant).held
