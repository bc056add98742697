use Rattle.std.proofs.Common.{◌≡◌, ap, ◌∙◌}
use Rattle.l3_count.specs.declared.lane.Lane.TheInside.{Inside}
use Rattle.l3_count.specs.Cost.{no_costs}
use Rattle.l3_count.proofs.Costs.{lane_with-empty, lane_with-is, no_costs-hold}
use Rattle.l3_count.proofs.lane.Lane.clear.Goals as goal
use Rattle.l3_count.proofs.lane.Lane.clear.Goals.{then-self, else-self}

pub invariant_of-self : goal.invariant_of-self
invariant_of-self c =
    let none : c.if-self.self-inside.costs ≡ no_costs = elim c.if-self.branch [
      | then-self w ↦ ap (λ (i : Inside). i.costs) w.self-inside-is ∙ w.none-costs.ensures
      | else-self w ↦ ap (λ (i : Inside). i.costs) w.self-inside-is ∙ c.self.invariant.unused w.if-self.false
    ] in
    no_costs-hold c.args.amp.now c.if-self.self-inside.used c.if-self.self-inside.costs c.get-first.ensures.amp none

pub returns-clause-value : goal.returns-clause-value
returns-clause-value c =
    let none : c.if-self.self-inside.costs ≡ no_costs = elim c.if-self.branch [
      | then-self w ↦ ap (λ (i : Inside). i.costs) w.self-inside-is ∙ w.none-costs.ensures
      | else-self w ↦ ap (λ (i : Inside). i.costs) w.self-inside-is ∙ c.self.invariant.unused w.if-self.false
    ] in
    lane_with-empty c.args.amp.now c.if-self.self-inside.costs none

pub returns-clause-lane : goal.returns-clause-lane
returns-clause-lane c = lane_with-is c.args.amp.now c.if-self.self-inside.used c.if-self.self-inside.costs (invariant_of-self c)
