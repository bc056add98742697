use Rattle.std.proofs.Common.{◌^◌, ◌-◌, pos, arith, ◌∙◌}
use Rattle.std.proofs.Math.ListN.{length-set}
use Rattle.l3_base.specs.Lists.{entry}
use Rattle.l3_transform.proofs.BothEnds.{filled_both, from_both}
use Rattle.l3_transform.proofs.HalvingLaw.{IsEvenSum, even_low, even_high}
use Rattle.l3_transform.proofs.WrappedSums.{added, taken}
use Rattle.l3_transform.proofs.subbands.even_sums.Goals as goal

pub loop-i-preserved : goal.loop-i-preserved
loop-i-preserved c =
    let low = added (entry c.fourth_sums-fourth.result c.loop-i.i) c.part-second.result _ _ _ (2 ^ 54) (2 ^ 54) (c.fourth_sums-fourth.ensures.small c.loop-i.i c.loop-i-test.true) c.part-second.ensures.bound (omega arith) (omega arith)
    (c.fourth_sums-fourth.ensures.value c.loop-i.i c.loop-i-test.true) c.part-second.ensures.value (even_low (entry c.args.columns.now) c.loop-i.i) in
    let high = taken (entry c.fourth_sums-fourth.result c.loop-i.i) c.part-second.result _ _ _ (2 ^ 54) (2 ^ 54) (c.fourth_sums-fourth.ensures.small c.loop-i.i c.loop-i-test.true) c.part-second.ensures.bound (omega arith) (omega arith)
    (c.fourth_sums-fourth.ensures.value c.loop-i.i c.loop-i-test.true) c.part-second.ensures.value (even_high (entry c.args.columns.now) c.loop-i.i c.loop-i-test.true) in
    record {
      long = length-set _ (15 - c.loop-i.i) _ ∙ (length-set c.loop-i.sums c.loop-i.i _ ∙ c.loop-i.invariant.long);
      both = filled_both (IsEvenSum (entry c.args.columns.now)) 15 c.loop-i.sums c.loop-i.i _ _ (pos 0) c.loop-i.invariant.long (omega arith) c.loop-i.invariant.both
          low high;
    }

pub returns-clause-value : goal.returns-clause-value
returns-clause-value c = λ i lt.
    (from_both (λ m. IsEvenSum (entry c.args.columns.now) m (entry c.loop-i.sums m)) 8 15 (omega arith) (λ m low. c.loop-i.invariant.both m (omega arith)) i lt).0

pub returns-clause-small : goal.returns-clause-small
returns-clause-small c = λ i lt.
    (from_both (λ m. IsEvenSum (entry c.args.columns.now) m (entry c.loop-i.sums m)) 8 15 (omega arith) (λ m low. c.loop-i.invariant.both m (omega arith)) i lt).1
