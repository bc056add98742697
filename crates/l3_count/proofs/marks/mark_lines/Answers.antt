use Rattle.std.proofs.Common.{◌∙◌, FitsSigned, w8, rules, arith}
use Rattle.std.proofs.Math.ListN.{length-set}
use Rattle.std.proofs.lemmas.Int.{to_z-of_z}
use Rattle.l3_count.proofs.MarkLemmas.{line_kept, line_marked}
use Rattle.l3_count.proofs.marks.mark_lines.Goals as goal

pub loop-line-preserved : goal.loop-line-preserved
loop-line-preserved c =
    let mark = c.args.mark in
    let line = c.loop-line.line in
    let at = c.cell_of.result in
    let old = c.loop-line.marks in
    let fits : FitsSigned w8 mark = search rules in
    let e = to_z-of_z w8 mark fits in
    let here = rw e at c.loop-line.invariant.here in
    rw e (record {
      long = length-set old at mark ∙ c.loop-line.invariant.long;
      here = line_marked c.args.from line at mark old c.loop-line.invariant.long c.cell_of.ensures.within c.cell_of.ensures.value here;
      before = line_kept c.args.from line at mark c.args.marks.now old (omega arith) c.cell_of.ensures.value c.loop-line.invariant.before;
    })
