use Rattle.std.proofs.Common.{refl}
use Rattle.l3_count.specs.Classes.{class_less_at}
use Rattle.l3_count.proofs.tables.class_less.Goals as goal

pub returns : goal.returns
unfolding class_less_at
returns c = refl
