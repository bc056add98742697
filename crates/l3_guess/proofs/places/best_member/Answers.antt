use Rattle.std.proofs.Common.{arith, inl, inr}
use Rattle.l3_guess.proofs.ScorePlaces.{least-more, best_of_rows}
use Rattle.l3_guess.proofs.places.best_member.Goals as goal
use Rattle.l3_guess.proofs.places.best_member.Goals.{then-members-place, else-members-place}

pub loop-place-preserved : goal.loop-place-preserved
loop-place-preserved g c =
    least-more (λ m. m.score) c.args.members.now c.loop-place.place c.loop-place.best c.if-members-place.best c.index-members-place.result c.index-members-best.result
    c.loop-place.invariant (omega arith)
    (elim c.if-members-place.branch [
      | then-members-place w ↦ inl (w.if-members-place.true, w.best-is)
      | else-members-place w ↦ inr (w.if-members-place.false, w.best-is)
    ])

pub returns-clause-place : goal.returns-clause-place
returns-clause-place g c = best_of_rows (λ m. m.score) c.args.members.now c.loop-place.place c.loop-place.best (omega arith) c.loop-place.invariant
