use Rattle.std.proofs.Common.{refl}
use Rattle.l3_region.specs.Lanes.{quad_entry}
use Rattle.l3_region.proofs.quads.entry.Goals as goal

pub returns : goal.returns
unfolding quad_entry
returns c = refl
