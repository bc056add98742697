use Rattle.std.proofs.Common.{rules, ◌≡◌, pos, w32, FitsSigned, arith, ◌∙◌}
use Rattle.std.proofs.Math.ListN.{length-set}
use Rattle.std.proofs.lemmas.Int.{to_z-of_z}
use Rattle.l3_base.specs.Lists.{entry}
use Rattle.l3_base.specs.Sums.{sum_below}
use Rattle.l3_base.proofs.ListLemmas.{filled_more}
use Rattle.l3_transform.specs.Pairs.{row_in}
use Rattle.l3_transform.proofs.columns.low_sums.Goals as goal

pub loop-j-preserved : goal.loop-j-preserved
loop-j-preserved c =
    let fits : FitsSigned w32 c.lane_sum.result = search rules in
    record {
      long = length-set c.loop-j.sums c.loop-j.j _ ∙ c.loop-j.invariant.long;
      value = filled_more (λ i z. z ≡ sum_below 8 (λ m. entry (row_in c.args.parts.now m) i)) c.loop-j.sums c.loop-j.j _ (pos 0) (omega arith) c.loop-j.invariant.value
          (to_z-of_z w32 c.lane_sum.result fits ∙ c.lane_sum.ensures);
    }
