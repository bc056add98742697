use Rattle.l3_stream.proofs.Lines.{QuadsSoFar}
use Rattle.l3_stream.proofs.code_bits.bits_of_quads.Given as goal

abbrev pub invariant-loop-k : goal.invariant-loop-k
invariant-loop-k l = QuadsSoFar l.table l.lines l.k l.bits
