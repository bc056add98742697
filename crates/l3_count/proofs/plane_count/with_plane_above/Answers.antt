use Rattle.std.proofs.Common.{◌*◌, ◌+◌, FitsSigned, w8, rules, pos, get_or}
use Rattle.std.proofs.lemmas.Int.{to_z-of_z}
use Rattle.l3_count.specs.Rows.{line_at, size_at}
use Rattle.l3_count.proofs.PlaneCounts.{counted_row, counted_most, row_at}
use Rattle.l3_count.proofs.plane_count.with_plane_above.Goals as goal

pub returns-clause-few : goal.returns-clause-few
returns-clause-few c j lt =
    let k = c.args.k in
    let block = c.args.block in
    let mark = c.args.mark in
    let fits : FitsSigned w8 mark = search rules in
    let e = to_z-of_z w8 mark fits in
    let above = rw e at c.with_row_above.ensures.above in
    let others = rw e at c.with_row_above.ensures.others in
    counted_most (get_or c.args.counts.now j 0) (get_or c.with_row_above.result j 0) k mark (get_or c.args.rows.now (32 * (15 * block + k) + j) (pos 0))
    (c.requires.few j lt) (above j lt) (others j lt)

pub returns-clause-value : goal.returns-clause-value
returns-clause-value c lines steps are is before j lt =
    let k = c.args.k in
    let block = c.args.block in
    let mark = c.args.mark in
    let fits : FitsSigned w8 mark = search rules in
    let e = to_z-of_z w8 mark fits in
    let above = rw e at c.with_row_above.ensures.above in
    let others = rw e at c.with_row_above.ensures.others in
    counted_row (get_or c.args.counts.now j 0) (get_or c.with_row_above.result j 0) k (steps (line_at (32 * block + j))) (size_at lines (line_at (32 * block + j))) (get_or c.args.rows.now (32 * (15 * block + k) + j) (pos 0)) mark
    (row_at lines c.args.rows.now block k j c.requires.block c.requires.plane lt are) (is (line_at (32 * block + j))) (before j lt) (above j lt) (others j lt)
