use Rattle.std.proofs.Common.{◌≡◌, None}
use Rattle.l3_board.proofs.lock.LockBoardBoard.claim_wait.Given as goal

abbrev pub invariant-loop : goal.invariant-loop
invariant-loop g l =
    (goal.iterator-loop g).can_next l.iterator' × (goal.iterator-loop g).is_finite l.iterator' × (l.seat-inside.claim ≡ None)
