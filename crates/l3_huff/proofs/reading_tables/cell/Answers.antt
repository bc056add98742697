use Rattle.std.proofs.Common.{refl}
use Rattle.l3_huff.specs.ReadingTables.{cell_at}
use Rattle.l3_huff.proofs.reading_tables.cell.Goals as goal

pub returns : goal.returns
unfolding cell_at
returns c = refl
