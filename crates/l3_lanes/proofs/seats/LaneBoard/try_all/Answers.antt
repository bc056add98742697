use Rattle.std.proofs.Common.{◌∙◌, arith, subst}
use Rattle.l3_board.specs.declared.event.Event.TheVariants as event
use Rattle.l3_board.specs.declared.event.Answer.TheVariants as answer
use Rattle.l3_board.specs.declared.event.Claim.TheVariants.{Job}
use Rattle.l3_lanes.specs.declared.view.Past.{Past}
use Rattle.l3_lanes.specs.History.{Extends}
use Rattle.l3_lanes.proofs.SearchLemmas.{all_tried, lost_more, tried_more}
use Rattle.l3_lanes.proofs.seats.LaneBoard.try_all.Goals as goal

pub returns-in-Some-clause-tried : goal.returns-in-Some-clause-tried
returns-in-Some-clause-tried g c = λ k low.
    tried_more c.loop-cell.cell c.args.seat.now.token.me.0.view c.loop-cell.seat.token.me.0.view c.try_cell.new.seat.token.me.0.view c.loop-cell.invariant.lost c.loop-cell.invariant.others c.in-Some.ensures.others _ c.in-Some.ensures.claimed k

pub loop-cell-preserved : goal.loop-cell-preserved
loop-cell-preserved g c = record {
  seat = c.in_default.ensures.made;
  free = c.in_default.ensures.nothing;
  lost = lost_more c.loop-cell.cell c.args.seat.now.token.me.0.view c.loop-cell.seat.token.me.0.view c.try_cell.new.seat.token.me.0.view c.loop-cell.invariant.lost c.loop-cell.invariant.others c.in_default.ensures.others c.in_default.ensures.lost;
  past = c.in_default.ensures.unmoved ∙ c.loop-cell.invariant.past;
  others = λ k low. c.in_default.ensures.others k (λ same. let q : _ = same in absurd (omega arith)) ∙ c.loop-cell.invariant.others k (omega arith);
}

pub returns-clause-tried : goal.returns-clause-tried
returns-clause-tried g c = λ k low. all_tried c.loop-cell.cell c.args.seat.now.token.me.0.view c.loop-cell.seat.token.me.0.view c.loop-cell.seat.token.me.0.view c.loop-cell.invariant.lost c.loop-cell.invariant.others k

pub returns-clause-lost : goal.returns-clause-lost
returns-clause-lost g c = λ k low. c.loop-cell.invariant.lost k (let f = c.loop-cell-test.false in let e = c.from-cell-end.ensures in omega arith)

pub returns-in-Some-clause-moved : goal.returns-in-Some-clause-moved
returns-in-Some-clause-moved g c = subst (λ (v : Past). Extends c.args.self.now.cells v event.Claim (answer.Claim (Job (g.T.Numbered.number_of c.in-Some.job))) c.try_cell.new.seat.token.me.0.past) c.loop-cell.invariant.past c.in-Some.ensures.moved
