use Rattle.std.proofs.Common.{◌≡◌, ◌<◌, ◌<ℤ◌, ◌≤ℤ◌, ◌*◌, ◌+◌, ◌∙◌, FitsSigned, w8, rules, pos, get_or, length, arith}
use Rattle.std.proofs.Math.ListN.{length-set}
use Rattle.std.proofs.lemmas.Int.{to_z-of_z}
use Rattle.l3_base.proofs.ListLemmas.{filled_more}
use Rattle.l3_count.proofs.plane_count.with_row.Goals as goal

pub loop-j-preserved : goal.loop-j-preserved
loop-j-preserved c =
    let j = c.loop-j.j in
    let more = c.loop-j.more in
    let v = c.counted.result in
    let rows = c.args.rows.now in
    let marks = c.args.marks.now in
    let plane = get_or rows (32 * c.args.row + j) (pos 0) in
    let mark = get_or marks (32 * c.args.block + j) (pos 0) in
    let fits : FitsSigned w8 mark = search rules in
    let fits' : FitsSigned w8 plane = search rules in
    let e = to_z-of_z w8 mark fits in
    let e' = to_z-of_z w8 plane fits' in
    let room : j < length more = omega (arith, c.loop-j.invariant.long) in
    let above = rw (e, e') at c.counted.ensures.above in
    let others = rw (e, e') at c.counted.ensures.others in
    record {
      long = length-set more j v ∙ c.loop-j.invariant.long;
      above = filled_more (λ k n. get_or marks (32 * c.args.block + k) (pos 0) <ℤ get_or rows (32 * c.args.row + k) (pos 0) → n ≡ get_or c.args.counts.now k 0 + 1) more j v 0 room c.loop-j.invariant.above above;
      others = filled_more (λ k n. get_or rows (32 * c.args.row + k) (pos 0) ≤ℤ get_or marks (32 * c.args.block + k) (pos 0) → n ≡ get_or c.args.counts.now k 0) more j v 0 room c.loop-j.invariant.others others;
    }
