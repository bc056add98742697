use Rattle.std.proofs.Common.{refl}
use Rattle.l3_huff.specs.Tables.{linbits_at}
use Rattle.l3_huff.proofs.pair_tables.linbits.Goals as goal

pub returns : goal.returns
unfolding linbits_at
returns c = refl
