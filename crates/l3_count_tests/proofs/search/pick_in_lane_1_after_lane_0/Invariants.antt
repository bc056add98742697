use Rattle.l3_count_tests.proofs.search.pick_in_lane_1_after_lane_0.Given as goal

abbrev pub ghosts-picks_in_two_lanes : goal.ghosts-picks_in_two_lanes
ghosts-picks_in_two_lanes g a = record { name = a.blank.name; parts = a.blank.parts }
