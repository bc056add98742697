use Rattle.std.proofs.Common.{arith}
use Rattle.l3_region.proofs.Unpacked.{unpacked-is}
use Rattle.l3_region.proofs.pairs.pairs_of.Goals as goal

pub returns : goal.returns
returns c =
    let inv = c.loop-n.invariant in
    unpacked-is c.loop-n.pairs c.args.cut.now inv.long c.told-cut (λ i lt. c.requires i 0 (omega (arith, c.told-cut, lt))) (λ n lt. inv.packed n (omega arith))
