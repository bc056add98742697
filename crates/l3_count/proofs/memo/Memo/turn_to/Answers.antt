use Rattle.std.proofs.Common.{◌≢◌, List, ap, ◌∙◌, arith}
use Rattle.l3_count.specs.Memo.{LaneView, lane_of}
use Rattle.l3_count.proofs.Memos.{IsMemo-set, IsMemoOf-turned, lane_of-set_other, turned-amp}
use Rattle.l3_count.proofs.memo.Memo.turn_to.Goals as goal

pub invariant_of-self : goal.invariant_of-self
invariant_of-self c = IsMemo-set c.self.inside.lanes c.from.result _ (omega (arith, c.requires, c.from.ensures)) c.self.invariant c.clear.ensures.lane

pub returns-then-ne-clause-memo : goal.returns-then-ne-clause-memo
returns-then-ne-clause-memo c = IsMemo-set c.self.inside.lanes c.from.result _ (omega (arith, c.requires, c.from.ensures)) c.self.invariant c.clear.ensures.lane

pub returns-then-ne-clause-amp : goal.returns-then-ne-clause-amp
returns-then-ne-clause-amp c =
    turned-amp c.self.inside.lanes c.from.result c.args.lane _ c.args.amp.now c.self.invariant.long c.requires c.from.ensures c.clear.ensures.value

pub returns-then-ne-clause-kept : goal.returns-then-ne-clause-kept
returns-then-ne-clause-kept c = λ edges lines is.
    IsMemoOf-turned edges lines c.self.inside.lanes c.args.self.now c.from.result c.args.lane _ c.args.amp.now c.self.invariant.long c.requires c.from.ensures
    c.clear.ensures.value c.self.view_is is

pub returns-then-ne-clause-others : goal.returns-then-ne-clause-others
returns-then-ne-clause-others c = λ k ne.
    let other : k ≢ c.from.result = λ same. ne (same ∙ c.from.ensures) in
    lane_of-set_other c.self.inside.lanes c.from.result k _ other ∙ ap (λ (m : List LaneView). lane_of m k) c.self.view_is
