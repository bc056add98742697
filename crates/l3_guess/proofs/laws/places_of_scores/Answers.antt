use Rattle.l3_guess.proofs.ScorePlaces.{best_place-first, worst_place-last}
use Rattle.l3_guess.proofs.laws.places_of_scores.Goals as goal

pub returns-clause-best : goal.returns-clause-best
returns-clause-best c = best_place-first

pub returns-clause-worst : goal.returns-clause-worst
returns-clause-worst c = worst_place-last
