use Rattle.std.proofs.Common.{◌≡◌, ◌*◌, ◌+◌, ◌<◌, length, arith, ap, ◌∙◌, rules}
use Rattle.l3_stream.specs.Units.{table_at, pairs_code}
use Rattle.l3_frames.proofs.CodeLemmas.{none_laid, pair_held, pair_room, one_pair_laid, all_pairs_laid}
use Rattle.l3_frames.proofs.codes.write_pairs.Goals as goal

pub loop-k-init : goal.loop-k-init
loop-k-init c = record {
  so_far = record { laid = none_laid (pairs_code (table_at c.args.settings.now c.args.unit.now) 0 c.args.lines.now) c.args.at c.args.out.now; held = c.requires.held };
  size = search rules;
}

pub write_pair-place-requires-clause-held : goal.write_pair-place-requires-clause-held
write_pair-place-requires-clause-held c =
    let tables = table_at c.args.settings.now c.args.unit.now in
    let k = c.loop-k.k in
    let inside : 2 * k + 1 < length c.args.lines.now = omega (arith, c.requires.pairs, c.loop-k-test.true) in
    let table : c.table.result ≡ tables (2 * k) = c.table.ensures.value ∙ ap (λ f. f (2 * k)) c.of-regions.ensures in
    rw (table, c.two_from.ensures) (pair_held tables c.args.lines.now k c.args.at c.loop-k.place c.args.out.now c.loop-k.out inside c.loop-k.invariant.so_far)

pub write_pair-place-requires-clause-within : goal.write_pair-place-requires-clause-within
write_pair-place-requires-clause-within c =
    let tables = table_at c.args.settings.now c.args.unit.now in
    let k = c.loop-k.k in
    let inside : 2 * k + 1 < length c.args.lines.now = omega (arith, c.requires.pairs, c.loop-k-test.true) in
    let table : c.table.result ≡ tables (2 * k) = c.table.ensures.value ∙ ap (λ f. f (2 * k)) c.of-regions.ensures in
    let room = pair_room tables c.args.lines.now k c.args.at c.loop-k.place c.args.out.now c.loop-k.out inside c.loop-k.invariant.so_far c.requires.within in
    rw (table, c.two_from.ensures) (omega (arith, room, c.loop-k.invariant.size))

pub loop-k-preserved : goal.loop-k-preserved
loop-k-preserved c =
    let tables = table_at c.args.settings.now c.args.unit.now in
    let k = c.loop-k.k in
    let inside : 2 * k + 1 < length c.args.lines.now = omega (arith, c.requires.pairs, c.loop-k-test.true) in
    let table : c.table.result ≡ tables (2 * k) = c.table.ensures.value ∙ ap (λ f. f (2 * k)) c.of-regions.ensures in
    let written = rw (table, c.two_from.ensures) at c.write_pair-place.ensures.bits in
    let end = rw (table, c.two_from.ensures) at c.write_pair-place.ensures.place in
    record {
      so_far = one_pair_laid tables c.args.lines.now k c.args.at c.loop-k.place c.write_pair-place.result c.args.out.now c.loop-k.out c.write_pair-place.new.out
          inside c.loop-k.invariant.so_far c.requires.within written end;
      size = search rules;
    }

pub returns-clause-bits : goal.returns-clause-bits
returns-clause-bits c =
    (all_pairs_laid (table_at c.args.settings.now c.args.unit.now) c.args.lines.now c.loop-k.k c.args.at c.loop-k.place c.args.out.now c.loop-k.out (omega (arith, c.requires.pairs, c.loop-k-test.false)) c.loop-k.invariant.so_far).bits

pub returns-clause-place : goal.returns-clause-place
returns-clause-place c =
    (all_pairs_laid (table_at c.args.settings.now c.args.unit.now) c.args.lines.now c.loop-k.k c.args.at c.loop-k.place c.args.out.now c.loop-k.out (omega (arith, c.requires.pairs, c.loop-k-test.false)) c.loop-k.invariant.so_far).behind
