use Rattle.std.proofs.Common.{refl}
use Rattle.l3_count.specs.Planes.{less_at}
use Rattle.l3_count.proofs.tables.less.Goals as goal

pub returns : goal.returns
unfolding less_at
returns c = refl
