use Rattle.std.proofs.Common.{arith}
use Rattle.l3_count.proofs.Memos.{emptied_memo}
use Rattle.l3_count.proofs.memo.Memo.clear.Goals as goal

pub returns : goal.returns
returns c = emptied_memo c.loop-lane.self-inside.lanes c.loop-lane.invariant.memo (λ k lt. c.loop-lane.invariant.emptied k (omega arith))
