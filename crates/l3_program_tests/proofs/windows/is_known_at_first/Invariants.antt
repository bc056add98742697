use Rattle.std.proofs.Common.{◌≡◌, ◌+◌, ◌<◌, ◌⊎◌, false}
use Rattle.l3_program_tests.proofs.windows.is_known_at_first.Given as goal

abbrev pub invariant-loop-base : goal.invariant-loop-base
invariant-loop-base g l = record {
  turn : (l.base ≡ l.windows.base) ⊎ (l.base ≡ l.windows.base + 1);
  ahead : 0 < l.windows.ahead;
  sound : l.windows.samples.failed ≡ false;
}
