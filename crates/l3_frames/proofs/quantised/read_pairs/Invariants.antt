use Rattle.std.proofs.Common.{◌≡◌, ◌+◌, ◌-◌, ◌*◌, ◌/◌, ◌≤◌, length, take}
use Rattle.l3_huff.specs.Words.{between}
use Rattle.l3_stream.specs.UnitReading.{pairs_at}
use Rattle.l3_stream.specs.Units.{table_by}
use Rattle.l3_frames.proofs.Loops.{with_front}
use Rattle.l3_frames.proofs.quantised.read_pairs.Given as goal

abbrev pub invariant-loop-k : goal.invariant-loop-k
invariant-loop-k l = record {
  order : l.place ≤ l.end;
  size : length l.lines ≡ length l.fn.lines;
  read : with_front (take (2 * l.k) l.lines) (pairs_at (table_by l.regions) (l.first + l.end)
      (2 * l.k) (length l.fn.lines / 2 - l.k) (between l.bytes l.place l.end))
      ≡ pairs_at (table_by l.regions) (l.first + l.end) 0 (length l.fn.lines / 2)
      (between l.bytes l.fn.at l.end);
}
