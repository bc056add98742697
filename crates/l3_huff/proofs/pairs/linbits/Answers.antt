use Rattle.std.proofs.Common.{◌≡◌, arith}
use Rattle.l3_huff.specs.Tables.{linbits_of}
use Rattle.l3_huff.proofs.Shapes.{IsTable-below, shape_of}
use Rattle.l3_huff.proofs.pairs.linbits.Goals as goal

pub linbits-requires : goal.linbits-requires
linbits-requires c = omega (arith, IsTable-below c.args.table c.requires)

pub returns-clause-limit : goal.returns-clause-limit
returns-clause-limit c =
    let is : c.linbits.result ≡ linbits_of c.args.table = cc in
    rw is (shape_of c.args.table c.requires).few
