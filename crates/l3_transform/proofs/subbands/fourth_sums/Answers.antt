use Rattle.std.proofs.Common.{◌^◌, ◌-◌, pos, arith, ◌∙◌}
use Rattle.std.proofs.Math.ListN.{length-set}
use Rattle.l3_base.specs.Lists.{entry}
use Rattle.l3_transform.proofs.BothEnds.{filled_both, from_both}
use Rattle.l3_transform.proofs.HalvingLaw.{IsFourthSum, fourth_low, fourth_high}
use Rattle.l3_transform.proofs.WrappedSums.{added, taken}
use Rattle.l3_transform.proofs.subbands.fourth_sums.Goals as goal

pub loop-i-preserved : goal.loop-i-preserved
loop-i-preserved c =
    let low = added c.part-first.result c.part-second.result _ _ _ (2 ^ 53) (2 ^ 53) c.part-first.ensures.bound c.part-second.ensures.bound (omega arith) (omega arith)
    c.part-first.ensures.value c.part-second.ensures.value (fourth_low (entry c.args.columns.now) c.loop-i.i) in
    let high = taken c.part-first.result c.part-second.result _ _ _ (2 ^ 53) (2 ^ 53) c.part-first.ensures.bound c.part-second.ensures.bound (omega arith) (omega arith)
    c.part-first.ensures.value c.part-second.ensures.value (fourth_high (entry c.args.columns.now) c.loop-i.i c.loop-i-test.true) in
    record {
      long = length-set _ (7 - c.loop-i.i) _ ∙ (length-set c.loop-i.sums c.loop-i.i _ ∙ c.loop-i.invariant.long);
      both = filled_both (IsFourthSum (entry c.args.columns.now)) 7 c.loop-i.sums c.loop-i.i _ _ (pos 0) c.loop-i.invariant.long (omega arith) c.loop-i.invariant.both
          low high;
    }

pub returns-clause-value : goal.returns-clause-value
returns-clause-value c = λ i lt.
    (from_both (λ m. IsFourthSum (entry c.args.columns.now) m (entry c.loop-i.sums m)) 4 7 (omega arith) (λ m low. c.loop-i.invariant.both m (omega arith)) i lt).0

pub returns-clause-small : goal.returns-clause-small
returns-clause-small c = λ i lt.
    (from_both (λ m. IsFourthSum (entry c.args.columns.now) m (entry c.loop-i.sums m)) 4 7 (omega arith) (λ m low. c.loop-i.invariant.both m (omega arith)) i lt).1
