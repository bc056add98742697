use Rattle.std.proofs.Common.{FitsSigned, w8, rules}
use Rattle.std.proofs.lemmas.Int.{to_z-of_z}
use Rattle.l3_count.proofs.PlaneCounts.{pairs_more}
use Rattle.l3_count.proofs.plane_count.count_pairs.Goals as goal

pub loop-block-preserved : goal.loop-block-preserved
loop-block-preserved c =
    let block = c.loop-block.block in
    let least = c.args.least in
    let fits : FitsSigned w8 least = search rules in
    let e = to_z-of_z w8 least fits in
    let before = rw e at c.loop-block.invariant.value in
    let here = rw e at c.count_block-counts.ensures.value in
    rw e (record {
      long = c.write_pairs.ensures.long;
      value = λ lines steps are tops marks.
          pairs_more lines steps block c.loop-block.out c.write_pairs.new.out c.count_block-counts.result
          (before lines steps are tops marks) c.write_pairs.ensures.before c.write_pairs.ensures.value
          (here lines steps are tops marks);
    })
