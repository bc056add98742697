use Rattle.std.proofs.Common.{◌≡◌, vec_len}
use Rattle.l3_control_tests.proofs.workers.blanks.Given as goal

abbrev pub invariant-loop : goal.invariant-loop
invariant-loop l = vec_len l.blanks ≡ l.counter
