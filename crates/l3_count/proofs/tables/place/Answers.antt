use Rattle.std.proofs.Common.{refl}
use Rattle.l3_count.specs.Planes.{place_at}
use Rattle.l3_count.proofs.tables.place.Goals as goal

pub returns : goal.returns
unfolding place_at
returns c = refl
