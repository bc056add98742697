use Rattle.l3_control_tests.proofs.workers.makes_a_job.Given as goal

abbrev pub ghosts-make : goal.ghosts-make
ghosts-make g a = record { name = a.blank.name; parts = a.blank.parts }
