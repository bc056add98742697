use Rattle.l3_count_tests.proofs.count.a_cleared_memo.Given as goal

abbrev pub ghosts-count_one_line : goal.ghosts-count_one_line
ghosts-count_one_line g a = record { name = a.blank.name; parts = a.blank.parts }
