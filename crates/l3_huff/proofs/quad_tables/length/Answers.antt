use Rattle.std.proofs.Common.{refl}
use Rattle.l3_huff.specs.Tables.{quad_length_at}
use Rattle.l3_huff.proofs.quad_tables.length.Goals as goal

pub returns : goal.returns
unfolding quad_length_at
returns c = refl
