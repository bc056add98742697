use Rattle.std.proofs.Common.{◌≡◌, None}
use Rattle.l3_analysis.proofs.worker.work_counted.Given as goal

abbrev pub invariant-loop : goal.invariant-loop
invariant-loop g l =
    (goal.iterator-loop g).can_next l.iterator' × (goal.iterator-loop g).is_finite l.iterator' × g.B.Board.has_seat l.board l.seat × (g.B.Board.claimed l.seat ≡ None)
