use Rattle.l3_program_tests.proofs.commit.frames_of_impulse.Given as goal

abbrev pub ghosts-counted : goal.ghosts-counted
ghosts-counted a = record { name = a.blank.name; parts = a.blank.parts }
