use Rattle.std.proofs.Common.{◌*◌, ◌+◌, pos, get_or, arith}
use Rattle.l3_count.specs.Rows.{line_at, size_at}
use Rattle.l3_count.proofs.PlaneCounts.{counted_row, counted_most, row_at}
use Rattle.l3_count.proofs.plane_count.with_plane.Goals as goal

pub returns-clause-few : goal.returns-clause-few
returns-clause-few c j lt =
    let k = c.args.k in
    let block = c.args.block in
    counted_most (get_or c.args.counts.now j 0) (get_or c.with_row.result j 0) k (get_or c.args.marks.now (32 * block + j) (pos 0)) (get_or c.args.rows.now (32 * (15 * block + k) + j) (pos 0))
    (c.requires.few j lt) (c.with_row.ensures.above j lt) (c.with_row.ensures.others j lt)

pub returns-clause-value : goal.returns-clause-value
returns-clause-value c lines steps least are marks before j lt =
    let k = c.args.k in
    let block = c.args.block in
    counted_row (get_or c.args.counts.now j 0) (get_or c.with_row.result j 0) k (steps (line_at (32 * block + j))) (size_at lines (line_at (32 * block + j))) (get_or c.args.rows.now (32 * (15 * block + k) + j) (pos 0)) (get_or c.args.marks.now (32 * block + j) (pos 0))
    (row_at lines c.args.rows.now block k j c.requires.block c.requires.plane lt are) (marks.is (32 * block + j) (omega (arith, c.requires.block, lt))) (before j lt) (c.with_row.ensures.above j lt) (c.with_row.ensures.others j lt)
