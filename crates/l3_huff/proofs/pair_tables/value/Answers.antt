use Rattle.std.proofs.Common.{refl}
use Rattle.l3_huff.specs.Tables.{value_at}
use Rattle.l3_huff.proofs.pair_tables.value.Goals as goal

pub returns : goal.returns
unfolding value_at
returns c = refl
