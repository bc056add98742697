use Rattle.std.proofs.Common.{arith}
use Rattle.std.specs.Prelude.{pos}
use Rattle.l3_huff.proofs.Lengths.{length-tail_code}
use Rattle.l3_huff.proofs.pairs.tail_bits.Goals as goal

pub returns-clause-value : goal.returns-clause-value
returns-clause-value c = omega (arith, length-tail_code c.args.table (pos c.args.value), c.linbits_bits.ensures.value, c.sign_bits.ensures)
