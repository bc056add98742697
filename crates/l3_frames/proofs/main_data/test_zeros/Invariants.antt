use Rattle.std.proofs.Common.{◌≡◌, ◌+◌, ◌-◌, ◌≤◌}
use Rattle.l3_huff.specs.Words.{between}
use Rattle.l3_stream.specs.Faults.{clear}
use Rattle.l3_frames.proofs.main_data.test_zeros.Given as goal

abbrev pub invariant-loop-place : goal.invariant-loop-place
invariant-loop-place l = record {
  order : l.place ≤ l.end;
  read : clear (l.first + l.fn.at) (between l.bytes l.fn.at l.end) ≡ clear (l.first + l.place)
      (between l.bytes l.place l.end);
}

abbrev pub decreases-loop-place : goal.decreases-loop-place
decreases-loop-place l = l.end - l.place
