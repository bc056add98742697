use Rattle.std.proofs.Common.{◌≡◌, vec_len}
use Rattle.l3_program_tests.proofs.boards.blanks.Given as goal

abbrev pub invariant-loop : goal.invariant-loop
invariant-loop l = vec_len l.blanks ≡ l.counter
