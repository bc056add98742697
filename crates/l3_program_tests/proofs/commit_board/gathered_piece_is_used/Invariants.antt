use Rattle.l3_program_tests.proofs.commit_board.gathered_piece_is_used.Given as goal

abbrev pub ghosts-first_of : goal.ghosts-first_of
ghosts-first_of g a = record { name = a.blank.name; parts = a.blank.parts }
