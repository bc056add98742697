use Rattle.std.proofs.Common.{refl}
use Rattle.l3_huff.specs.Tables.{first_at}
use Rattle.l3_huff.proofs.pair_tables.first.Goals as goal

pub returns : goal.returns
unfolding first_at
returns c = refl
