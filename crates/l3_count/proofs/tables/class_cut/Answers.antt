use Rattle.std.proofs.Common.{refl}
use Rattle.l3_count.specs.Classes.{class_cut_at}
use Rattle.l3_count.proofs.tables.class_cut.Goals as goal

pub returns : goal.returns
unfolding class_cut_at
returns c = refl
