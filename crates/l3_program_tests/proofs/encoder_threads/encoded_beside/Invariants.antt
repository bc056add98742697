use Rattle.l3_program_tests.proofs.encoder_threads.encoded_beside.Given as goal

abbrev pub ghosts-counted_beside : goal.ghosts-counted_beside
ghosts-counted_beside g a = record { name = a.blank.name; parts = a.blank.parts }
