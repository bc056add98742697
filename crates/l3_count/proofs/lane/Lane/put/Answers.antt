use Rattle.std.proofs.Common.{◌≡◌, ℕ, List, Option, Some, set, ap, sym, subst, ◌∙◌}
use Rattle.l3_count.specs.declared.count.Cost.{Cost}
use Rattle.l3_count.specs.Count.{Counted}
use Rattle.l3_count.specs.Memo.{LaneView, with_count}
use Rattle.l3_count.specs.Cost.{HoldsCosts, cost_in, lane_with}
use Rattle.l3_count.proofs.Costs.{costs-put, lane_with-is, lane_with-put}
use Rattle.l3_count.proofs.lane.Lane.put.Goals as goal

-- the entries after the count was put in
entries : (costs : List (Option Cost)) (at : ℕ) (x : Cost) (c : Counted) → x ≡ cost_in c →
    at ≡ x.gain →
    set costs at (Some x) ≡ set costs c.gain (Some (cost_in c))
entries costs at x c e f =
    ap (λ (k : ℕ). set costs k (Some x)) (f ∙ ap (λ (y : Cost). y.gain) e) ∙ ap (λ (y : Cost). set costs c.gain (Some y)) e

pub invariant_of-self : goal.invariant_of-self
invariant_of-self c =
    let own = ap (λ (l : LaneView). l.amp) c.self.view_is in
    let same = entries c.self.inside.costs c.from.result c.cost-cost.result c.args.count c.cost-cost.ensures.value c.from.ensures in
    subst (HoldsCosts c.self.inside.amp _) (sym same)
    (costs-put c.self.inside.amp c.self.inside.used c.self.inside.costs c.args.count c.self.invariant (c.requires ∙ sym own) c.cost-cost.ensures.counted)

pub returns-clause-value : goal.returns-clause-value
returns-clause-value c =
    let own = ap (λ (l : LaneView). l.amp) c.self.view_is in
    let same = entries c.self.inside.costs c.from.result c.cost-cost.result c.args.count c.cost-cost.ensures.value c.from.ensures in
    ap (lane_with c.self.inside.amp) same
    ∙ (lane_with-put c.self.inside.amp c.self.inside.costs c.args.count (c.requires ∙ sym own) ∙ ap (λ (l : LaneView). with_count l c.args.count) c.self.view_is)

pub returns-clause-lane : goal.returns-clause-lane
returns-clause-lane c = lane_with-is c.self.inside.amp _ _ (invariant_of-self c)
