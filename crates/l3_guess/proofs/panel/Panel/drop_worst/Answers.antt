use Rattle.l3_guess.proofs.Rows.{map-remove}
use Rattle.l3_guess.proofs.panel.Panel.drop_worst.Goals as goal

pub returns-clause-scores : goal.returns-clause-scores
returns-clause-scores g c = rw c.remove.ensures.items (map-remove _ c.args.self.now.members.items c.worst_member-place.result)

pub returns-clause-answers : goal.returns-clause-answers
returns-clause-answers g c = λ n. rw c.remove.ensures.items (map-remove _ c.args.self.now.members.items c.worst_member-place.result)
