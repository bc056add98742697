use Rattle.std.proofs.Common.{subst}
use Rattle.l3_count.specs.Memo.{IsLane}
use Rattle.l3_count.proofs.Costs.{lane_with-is}
use Rattle.l3_count.proofs.lane.Lane.amp.Goals as goal

pub returns-clause-lane : goal.returns-clause-lane
returns-clause-lane c = subst IsLane c.self.view_is (lane_with-is c.self.inside.amp c.self.inside.used c.self.inside.costs c.self.invariant)
