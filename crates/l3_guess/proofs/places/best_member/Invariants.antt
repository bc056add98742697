use Rattle.std.proofs.Common.{map}
use Rattle.l3_guess.proofs.ScorePlaces.{LeastOf}
use Rattle.l3_guess.proofs.places.best_member.Given as goal

abbrev pub invariant-loop-place : goal.invariant-loop-place
invariant-loop-place g l = LeastOf (map (λ m. m.score) l.members) l.place l.best
