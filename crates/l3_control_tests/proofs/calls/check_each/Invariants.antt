use Rattle.std.proofs.Common.{◌≡◌}
use Rattle.l3_control_tests.proofs.calls.check_each.Given as goal

abbrev pub invariant-loop-at : goal.invariant-loop-at
invariant-loop-at g l =
    g.B.Board.has_desk l.board l.desk × g.B.Board.has_seat l.board l.seat × (g.B.Board.claimed l.seat ≡ l.job)
