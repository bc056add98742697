use Rattle.l3_program_tests.proofs.commit.counts_of_a_presumed_piece.Given as goal

abbrev pub ghosts-silent_frame : goal.ghosts-silent_frame
ghosts-silent_frame g a = record { name = a.blank.name; parts = a.blank.parts }
