use Rattle.std.proofs.Common.{◌≤◌}
use Rattle.l3_stream_tests.proofs.frames.writer_with.Given as goal

abbrev pub invariant-loop-begin : goal.invariant-loop-begin
invariant-loop-begin l = record {
  frames : l.writer.frames ≤ l.begin-index;
}
