use Rattle.std.proofs.Common.{◌≤◌}
use Rattle.l3_stream_tests.proofs.frames.three_pushes.Given as goal

abbrev pub invariant-loop-push : goal.invariant-loop-push
invariant-loop-push l = record {
  frames : l.writer.frames ≤ l.push;
}
