use Rattle.l3_control_tests.proofs.analysis.piece_counts_then_load.Given as goal

abbrev pub ghosts-counts : goal.ghosts-counts
ghosts-counts g a = record { name = a.blank.name; parts = a.blank.parts }
