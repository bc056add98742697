use Rattle.std.proofs.Common.{◌∙◌, sym}
use Rattle.l3_count.proofs.Memos.{IsLaneOf-new, IsMemoOf-lane, amp-new}
use Rattle.l3_count_tests.proofs.search.picks_in_two_lanes.Goals as goal

pub pick-first-requires-clause-amp : goal.pick-first-requires-clause-amp
pick-first-requires-clause-amp g c = λ _ _. amp-new _ 0 c.new-memo.ensures ∙ sym c.zero-zero.ensures

pub pick-first-requires-clause-memo : goal.pick-first-requires-clause-memo
pick-first-requires-clause-memo g c = λ _ _. IsLaneOf-new _ _ _ 0 c.new-memo.ensures

pub pick-second-requires-clause-memo : goal.pick-second-requires-clause-memo
pick-second-requires-clause-memo g c = λ _ _.
    c.turn_to.ensures.kept _ _
    (IsMemoOf-lane _ _ c.new-memo.result c.pick-first.new.memo 0 (λ k. IsLaneOf-new _ _ c.new-memo.result k c.new-memo.ensures)
    c.pick-first.ensures.kept c.pick-first.ensures.memo.others)
    1
