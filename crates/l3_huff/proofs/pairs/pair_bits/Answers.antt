use Rattle.std.proofs.Common.{arith}
use Rattle.std.specs.Prelude.{pos}
use Rattle.l3_huff.proofs.Lengths.{length-pair_code_of}
use Rattle.l3_huff.proofs.pairs.pair_bits.Goals as goal

pub returns-clause-value : goal.returns-clause-value
returns-clause-value c = omega (arith, length-pair_code_of c.args.table (pos c.args.x) (pos c.args.y), c.code_length.ensures.value, c.tail_bits.ensures.value, c.tail_bits-2.ensures.value)
