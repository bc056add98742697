use Rattle.std.proofs.Common.{◌≡◌, ◌*◌, ◌+◌, ◌∙◌, ap, min, FitsSigned, w8, rules, refl, pos, get_or, arith}
use Rattle.l3_quant.specs.Quantiser.{magnitude_at}
use Rattle.std.proofs.lemmas.Int.{to_z-of_z}
use Rattle.std.specs.Int.Signed.{le_z, le_z_yes}
use Rattle.std.proofs.lemmas.Float.{T_from_true}
use Rattle.l3_count.specs.Rows.{line_at, size_at}
use Rattle.l3_count.proofs.PlaneCounts.{counted_all, counted_as, row_at, zero_counts}
use Rattle.l3_count.proofs.plane_count.count_block.Goals as goal

pub loop-three-init : goal.loop-three-init
loop-three-init c = record {
  long = rw c.no_counts-counts.ensures refl;
  value = λ lines steps are marks j lt. let none : get_or c.no_counts-counts.result j 0 ≡ 0 = zero_counts c.no_counts-counts.result j c.no_counts-counts.ensures in omega (arith, none);
  bound = λ j lt. let none : get_or c.no_counts-counts.result j 0 ≡ 0 = zero_counts c.no_counts-counts.result j c.no_counts-counts.ensures in omega (arith, none);
}

pub returns-then-tops-block-clause-value : goal.returns-then-tops-block-clause-value
returns-then-tops-block-clause-value c =
    let least = c.args.least in
    let k = 3 * c.loop-three.three in
    let block = c.args.block in
    let row = 15 * block + k in
    let rows = c.args.rows.now in
    let top = get_or c.args.tops.now row (pos 0) in
    let fits : FitsSigned w8 least = search rules in
    let fits' : FitsSigned w8 top = search rules in
    let e = to_z-of_z w8 least fits in
    let e' = to_z-of_z w8 top fits' in
    let passed = rw (e', e) at c.if-tops-block.true in
    let low = le_z_yes (T_from_true (le_z top least) passed) in
    let before = rw e at c.loop-three.invariant.value in
    λ lines steps are tops marks j lt.
    counted_all (get_or c.loop-three.counts j 0) k (steps (line_at (32 * block + j))) (size_at lines (line_at (32 * block + j))) (get_or rows (32 * row + j) (pos 0)) top least (get_or c.args.marks.now (32 * block + j) (pos 0)) (omega (arith, c.loop-three-test.true))
    (row_at lines rows block k j c.requires (omega (arith, c.loop-three-test.true)) lt are) (marks.is (32 * block + j) (omega (arith, c.requires, lt))) (marks.least_is (32 * block + j) (omega (arith, c.requires, lt)))
    (tops.is row (omega (arith, c.requires, c.loop-three-test.true)) j lt) low (before lines steps are marks j lt)

pub loop-three-preserved : goal.loop-three-preserved
loop-three-preserved c =
    let least = c.args.least in
    let k = 3 * c.loop-three.three in
    let block = c.args.block in
    let fits : FitsSigned w8 least = search rules in
    let e = to_z-of_z w8 least fits in
    let before = rw e at c.loop-three.invariant.value in
    rw e (record {
      long = c.with_plane-counts.ensures.long;
      value = λ lines steps are marks.
          let one = c.with_plane-one.ensures.value lines steps least are marks (before lines steps are marks) in
          let two = c.with_plane-two.ensures.value lines steps least are marks one in
          let more = counted_as lines steps block (k + 1 + 1) (k + 2) c.with_plane-two.result (omega arith) two in
          let three = c.with_plane-counts.ensures.value lines steps least are marks more in
          counted_as lines steps block (k + 2 + 1) (3 * (c.loop-three.three + 1)) c.with_plane-counts.result (omega arith) three;
      bound = λ j lt. omega (arith, c.with_plane-counts.ensures.few j lt);
    })

pub returns-clause-value : goal.returns-clause-value
returns-clause-value c lines steps are tops marks j lt =
    let least = c.args.least in
    let fits : FitsSigned w8 least = search rules in
    let e = to_z-of_z w8 least fits in
    let before = rw e at c.loop-three.invariant.value in
    let end : 3 * c.loop-three.three ≡ 15 = omega (arith, c.loop-three-test.false, c.loop-three.auto.three-end) in
    let line = line_at (32 * c.args.block + j) in
    before lines steps are marks j lt ∙ ap (min (magnitude_at (size_at lines line) (steps line))) end
