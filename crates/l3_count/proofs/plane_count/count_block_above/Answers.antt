use Rattle.std.proofs.Common.{◌≡◌, ◌*◌, ◌+◌, ◌∙◌, ap, min, FitsSigned, w8, rules, refl, pos, get_or, arith}
use Rattle.l3_quant.specs.Quantiser.{magnitude_at}
use Rattle.std.proofs.lemmas.Int.{ints, to_z-of_z}
use Rattle.std.specs.Int.Signed.{le_z, le_z_yes}
use Rattle.std.proofs.lemmas.Float.{T_from_true}
use Rattle.l3_count.specs.Rows.{line_at, size_at}
use Rattle.l3_count.proofs.PlaneCounts.{counted_all, counted_as, row_at, zero_counts}
use Rattle.l3_count.proofs.plane_count.count_block_above.Goals as goal

pub loop-three-init : goal.loop-three-init
loop-three-init c = record {
  long = rw c.no_counts-counts.ensures refl;
  value = λ lines steps are is j lt. let none : get_or c.no_counts-counts.result j 0 ≡ 0 = zero_counts c.no_counts-counts.result j c.no_counts-counts.ensures in omega (arith, none);
  bound = λ j lt. let none : get_or c.no_counts-counts.result j 0 ≡ 0 = zero_counts c.no_counts-counts.result j c.no_counts-counts.ensures in omega (arith, none);
}

pub returns-then-tops-block-clause-value : goal.returns-then-tops-block-clause-value
returns-then-tops-block-clause-value c =
    let mark = c.args.mark in
    let k = 3 * c.loop-three.three in
    let block = c.args.block in
    let row = 15 * block + k in
    let rows = c.args.rows.now in
    let top = get_or c.args.tops.now row (pos 0) in
    let fits : FitsSigned w8 mark = search rules in
    let fits' : FitsSigned w8 top = search rules in
    let e = to_z-of_z w8 mark fits in
    let e' = to_z-of_z w8 top fits' in
    let passed = rw (e', e) at c.if-tops-block.true in
    let low = le_z_yes (T_from_true (le_z top mark) passed) in
    let before = rw e at c.loop-three.invariant.value in
    λ lines steps are tops is j lt.
    counted_all (get_or c.loop-three.counts j 0) k (steps (line_at (32 * block + j))) (size_at lines (line_at (32 * block + j))) (get_or rows (32 * row + j) (pos 0)) top mark mark (omega (arith, c.loop-three-test.true))
    (row_at lines rows block k j c.requires (omega (arith, c.loop-three-test.true)) lt are) (is (line_at (32 * block + j))) (omega (arith, ints))
    (tops.is row (omega (arith, c.requires, c.loop-three-test.true)) j lt) low (before lines steps are is j lt)

pub loop-three-preserved : goal.loop-three-preserved
loop-three-preserved c =
    let mark = c.args.mark in
    let k = 3 * c.loop-three.three in
    let block = c.args.block in
    let fits : FitsSigned w8 mark = search rules in
    let e = to_z-of_z w8 mark fits in
    let before = rw e at c.loop-three.invariant.value in
    let first = rw e at c.with_plane_above-one.ensures.value in
    let second = rw e at c.with_plane_above-two.ensures.value in
    let third = rw e at c.with_plane_above-counts.ensures.value in
    rw e (record {
      long = c.with_plane_above-counts.ensures.long;
      value = λ lines steps are is.
          let one = first lines steps are is (before lines steps are is) in
          let two = counted_as lines steps block (k + 1 + 1) (k + 2) c.with_plane_above-two.result (omega arith) (second lines steps are is one) in
          counted_as lines steps block (k + 2 + 1) (3 * (c.loop-three.three + 1)) c.with_plane_above-counts.result (omega arith) (third lines steps are is two);
      bound = λ j lt. omega (arith, c.with_plane_above-counts.ensures.few j lt);
    })

pub returns-clause-value : goal.returns-clause-value
returns-clause-value c lines steps are tops is j lt =
    let mark = c.args.mark in
    let fits : FitsSigned w8 mark = search rules in
    let e = to_z-of_z w8 mark fits in
    let before = rw e at c.loop-three.invariant.value in
    let end : 3 * c.loop-three.three ≡ 15 = omega (arith, c.loop-three-test.false, c.loop-three.auto.three-end) in
    let line = line_at (32 * c.args.block + j) in
    before lines steps are is j lt ∙ ap (min (magnitude_at (size_at lines line) (steps line))) end
