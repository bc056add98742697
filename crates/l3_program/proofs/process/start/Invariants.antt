use Rattle.l3_program.proofs.process.start.Given as goal

abbrev pub ghosts-run_arguments : goal.ghosts-run_arguments
ghosts-run_arguments g a = record { name = a.blank.name; parts = a.blank.parts }
