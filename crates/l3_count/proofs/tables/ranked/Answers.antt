use Rattle.std.proofs.Common.{refl}
use Rattle.l3_count.specs.Planes.{ranked_at}
use Rattle.l3_count.proofs.tables.ranked.Goals as goal

pub returns : goal.returns
unfolding ranked_at
returns c = refl
