use Rattle.l3_count_tests.proofs.count.agree.Given as goal

abbrev pub ghosts-over_planes : goal.ghosts-over_planes
ghosts-over_planes a = record { name = a.blank.name; parts = a.blank.parts }
