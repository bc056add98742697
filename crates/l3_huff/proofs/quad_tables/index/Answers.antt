use Rattle.std.proofs.Common.{refl}
use Rattle.l3_huff.specs.ReadingTables.{quad_index_at}
use Rattle.l3_huff.proofs.quad_tables.index.Goals as goal

pub returns : goal.returns
unfolding quad_index_at
returns c = refl
