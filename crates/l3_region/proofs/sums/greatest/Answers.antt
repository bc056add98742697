use Rattle.l3_region.proofs.Greatest.{greatest_more}
use Rattle.l3_region.proofs.sums.greatest.Goals as goal

pub loop-x-preserved : goal.loop-x-preserved
loop-x-preserved c =
    greatest_more c.args.values.now c.loop-x.x-index c.loop-x.greatest c.max-greatest.result c.loop-x-test.true c.loop-x.invariant c.max-greatest.ensures
