use Rattle.l3_program_tests.proofs.commit.second_frame_of_steps.Given as goal

abbrev pub ghosts-counted : goal.ghosts-counted
ghosts-counted a = record { name = a.blank.name; parts = a.blank.parts }
