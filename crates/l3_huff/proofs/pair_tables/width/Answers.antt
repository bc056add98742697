use Rattle.std.proofs.Common.{refl}
use Rattle.l3_huff.specs.Tables.{width_at}
use Rattle.l3_huff.proofs.pair_tables.width.Goals as goal

pub returns : goal.returns
unfolding width_at
returns c = refl
