use Rattle.std.proofs.Common.{arith}
use Rattle.l3_wav.proofs.RangeLemmas.{decoded_fit}
use Rattle.l3_wav.proofs.samples.decode.Goals as goal

pub returns-clause-range : goal.returns-clause-range
returns-clause-range c =
    let inv = c.loop-slot.invariant in
    decoded_fit c.loop-slot.slot-index c.loop-slot.out c.loop-slot.rest.now c.args.bytes.now inv.0 (omega arith) inv.1 (λ i. omega (arith, c.type_inv.bytes i))
