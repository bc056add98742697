use Rattle.l3_control_tests.proofs.sharing.offer_one_by_one.Given as goal

abbrev pub invariant-loop-number : goal.invariant-loop-number
invariant-loop-number g l = g.B.Board.has_desk l.board l.desk
