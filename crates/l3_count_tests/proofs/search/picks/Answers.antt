use Rattle.std.proofs.Common.{◌∙◌, sym}
use Rattle.l3_count.proofs.Memos.{IsLaneOf-new, amp-new}
use Rattle.l3_count_tests.proofs.search.picks.Goals as goal

pub pick-first-requires-clause-amp : goal.pick-first-requires-clause-amp
pick-first-requires-clause-amp g c = λ _ _. amp-new _ 0 c.new-memo.ensures ∙ sym c.zero-amp.ensures

pub pick-first-requires-clause-memo : goal.pick-first-requires-clause-memo
pick-first-requires-clause-memo g c = λ _ _. IsLaneOf-new _ _ _ 0 c.new-memo.ensures
