use Rattle.l3_control_tests.proofs.workers.offer_four.Given as goal

abbrev pub invariant-loop-n : goal.invariant-loop-n
invariant-loop-n g l = g.B.Board.has_desk l.board l.desk
