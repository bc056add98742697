use Rattle.l3_guess.proofs.LastEight.{keeps_last_eight}
use Rattle.l3_guess.proofs.laws.last_eight_kept.Goals as goal

pub returns : goal.returns
returns c = keeps_last_eight
