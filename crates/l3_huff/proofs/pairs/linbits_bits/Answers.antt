use Rattle.std.proofs.Common.{arith, sym}
use Rattle.l3_huff.proofs.Lengths.{length-linbits-large, length-linbits-small}
use Rattle.l3_huff.proofs.pairs.linbits_bits.Goals as goal

pub returns-then-value-ge-FIRST_LINBITS-clause-value : goal.returns-then-value-ge-FIRST_LINBITS-clause-value
returns-then-value-ge-FIRST_LINBITS-clause-value c = omega (arith, length-linbits-large c.args.table c.args.value c.if-value-ge-FIRST_LINBITS.true)

pub returns-else-value-ge-FIRST_LINBITS-clause-value : goal.returns-else-value-ge-FIRST_LINBITS-clause-value
returns-else-value-ge-FIRST_LINBITS-clause-value c = sym (length-linbits-small c.args.table c.args.value c.if-value-ge-FIRST_LINBITS.false)
