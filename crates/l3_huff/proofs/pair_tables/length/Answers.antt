use Rattle.std.proofs.Common.{refl}
use Rattle.l3_huff.specs.Tables.{length_at}
use Rattle.l3_huff.proofs.pair_tables.length.Goals as goal

pub returns : goal.returns
unfolding length_at
returns c = refl
