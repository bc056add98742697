use Rattle.std.proofs.Common.{◌≡◌, length}
use Rattle.l3_stream.specs.Units.{table_at}
use Rattle.l3_frames.proofs.CodeLemmas.{PairsLaid}
use Rattle.l3_frames.proofs.codes.write_pairs.Given as goal

abbrev pub invariant-loop-k : goal.invariant-loop-k
invariant-loop-k l = record {
  so_far : PairsLaid (table_at l.settings l.unit) l.lines l.k l.at l.place l.fn.out l.out;
  size : length l.out ≡ length l.fn.out;
}
