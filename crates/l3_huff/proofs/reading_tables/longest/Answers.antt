use Rattle.std.proofs.Common.{refl}
use Rattle.l3_huff.specs.ReadingTables.{longest_at}
use Rattle.l3_huff.proofs.reading_tables.longest.Goals as goal

pub returns : goal.returns
unfolding longest_at
returns c = refl
