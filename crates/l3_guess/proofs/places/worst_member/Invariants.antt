use Rattle.std.proofs.Common.{map}
use Rattle.l3_guess.proofs.ScorePlaces.{GreatestOf}
use Rattle.l3_guess.proofs.places.worst_member.Given as goal

abbrev pub invariant-loop-place : goal.invariant-loop-place
invariant-loop-place g l = GreatestOf (map (λ m. m.score) l.members) l.place l.worst
