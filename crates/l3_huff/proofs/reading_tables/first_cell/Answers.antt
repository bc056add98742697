use Rattle.std.proofs.Common.{refl}
use Rattle.l3_huff.specs.ReadingTables.{first_cell_at}
use Rattle.l3_huff.proofs.reading_tables.first_cell.Goals as goal

pub returns : goal.returns
unfolding first_cell_at
returns c = refl
