use Rattle.l3_stream.specs.Units.{table_at}
use Rattle.l3_stream.proofs.Lines.{PairsSoFar}
use Rattle.l3_stream.proofs.code_bits.bits_of_pairs.Given as goal

abbrev pub invariant-loop-k : goal.invariant-loop-k
invariant-loop-k l = PairsSoFar (table_at l.settings l.unit) l.lines l.k l.bits
