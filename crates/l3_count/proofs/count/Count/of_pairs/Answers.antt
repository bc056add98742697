use Rattle.std.proofs.Common.{refl}
use Rattle.l3_count.specs.Count.{counted}
use Rattle.l3_count.proofs.count.Count.of_pairs.Goals as goal

pub returns : goal.returns
unfolding counted
returns c = λ q are split. rw (← split, ← c.best_of_pairs-regions.ensures.value q are) refl
