use Rattle.l3_control_tests.proofs.analysis.choose_from_counts.Given as goal

abbrev pub ghosts-choices : goal.ghosts-choices
ghosts-choices g a = record { name = a.blank.name; parts = a.blank.parts }
