use Rattle.std.proofs.Common.{◌≡◌, length}
use Rattle.l3_frames.proofs.CodeLemmas.{QuadsLaid}
use Rattle.l3_frames.proofs.codes.write_quads.Given as goal

abbrev pub invariant-loop-k : goal.invariant-loop-k
invariant-loop-k l = record {
  so_far : QuadsLaid l.table l.lines l.k l.at l.place l.fn.out l.out;
  size : length l.out ≡ length l.fn.out;
}
