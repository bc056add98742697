use Rattle.l3_count_tests.proofs.search.pick_with_a_memo.Given as goal

abbrev pub ghosts-picks : goal.ghosts-picks
ghosts-picks g a = record { name = a.blank.name; parts = a.blank.parts }
