use Rattle.std.proofs.Common.{◌≡◌, vec_len}
use Rattle.l3_control_tests.proofs.item.blanks.Given as goal

abbrev pub invariant-loop-cell : goal.invariant-loop-cell
invariant-loop-cell l = vec_len l.blanks ≡ l.cell
