use Rattle.std.proofs.Common.{subst}
use Rattle.l3_count.specs.Memo.{IsLane}
use Rattle.l3_count.proofs.Costs.{lane_with-is}
use Rattle.l3_count.proofs.lane.Lane.get.Goals as goal

pub of_cost-requires : goal.of_cost-requires
of_cost-requires c = (c.self.invariant.entries c.from.result c.in-Some.cost c.in-Some.is).counted

pub returns-in-Some-clause-lane : goal.returns-in-Some-clause-lane
returns-in-Some-clause-lane c = subst IsLane c.self.view_is (lane_with-is c.self.inside.amp c.self.inside.used c.self.inside.costs c.self.invariant)

pub returns-in-None-clause-lane : goal.returns-in-None-clause-lane
returns-in-None-clause-lane c = subst IsLane c.self.view_is (lane_with-is c.self.inside.amp c.self.inside.used c.self.inside.costs c.self.invariant)
