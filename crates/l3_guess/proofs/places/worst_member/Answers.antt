use Rattle.std.proofs.Common.{arith, inl, inr}
use Rattle.l3_guess.proofs.ScorePlaces.{greatest-more, worst_of_rows}
use Rattle.l3_guess.proofs.places.worst_member.Goals as goal
use Rattle.l3_guess.proofs.places.worst_member.Goals.{then-members-place, else-members-place}

pub loop-place-preserved : goal.loop-place-preserved
loop-place-preserved g c =
    greatest-more (λ m. m.score) c.args.members.now c.loop-place.place c.loop-place.worst c.if-members-place.worst c.index-members-place.result c.index-members-worst.result
    c.loop-place.invariant (omega arith)
    (elim c.if-members-place.branch [
      | then-members-place w ↦ inl (w.if-members-place.true, w.worst-is)
      | else-members-place w ↦ inr (w.if-members-place.false, w.worst-is)
    ])

pub returns-clause-place : goal.returns-clause-place
returns-clause-place g c = worst_of_rows (λ m. m.score) c.args.members.now c.loop-place.place c.loop-place.worst (omega arith) c.loop-place.invariant
