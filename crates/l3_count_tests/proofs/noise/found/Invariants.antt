use Rattle.l3_count_tests.proofs.noise.found.Given as goal

abbrev pub ghosts-noises_of : goal.ghosts-noises_of
ghosts-noises_of a = record { name = a.blank.name; parts = a.blank.parts }
