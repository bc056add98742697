use Rattle.std.proofs.Common.{refl}
use Rattle.l3_huff.specs.Tables.{quad_value_at}
use Rattle.l3_huff.proofs.quad_tables.value.Goals as goal

pub returns : goal.returns
unfolding quad_value_at
returns c = refl
