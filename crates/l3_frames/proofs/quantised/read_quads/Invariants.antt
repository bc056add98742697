use Rattle.std.proofs.Common.{◌≡◌, ◌+◌, ◌-◌, ◌*◌, ◌/◌, ◌≤◌, length, take, drop}
use Rattle.l3_huff.specs.Words.{between}
use Rattle.l3_stream.specs.Units.{zero_lines}
use Rattle.l3_stream.specs.UnitReading.{quads_at}
use Rattle.l3_frames.proofs.Loops.{with_quads}
use Rattle.l3_frames.proofs.quantised.read_quads.Given as goal

abbrev pub invariant-loop-place : goal.invariant-loop-place
invariant-loop-place l = record {
  order : l.place ≤ l.end;
  size : length l.lines ≡ length l.fn.lines;
  few : 4 * l.count ≤ length l.fn.lines;
  read : with_quads (take (4 * l.count) l.lines) (quads_at l.table (l.first + l.end)
      (length l.fn.lines / 4 - l.count) (between l.bytes l.place l.end))
      ≡ quads_at l.table (l.first + l.end) (length l.fn.lines / 4) (between l.bytes l.fn.at l.end);
  past : drop (4 * l.count) l.lines ≡ zero_lines (length l.fn.lines - 4 * l.count);
}

abbrev pub decreases-loop-place : goal.decreases-loop-place
decreases-loop-place l = length l.fn.lines - 4 * l.count
