use Rattle.std.proofs.Common.{◌∙◌}
use Rattle.l3_guess.proofs.Rows.{guess_of-rows}
use Rattle.l3_guess.proofs.panel.PanelGuesser.guess.Goals as goal

pub returns : goal.returns
returns g c =
    c.guess.ensures ∙ guess_of-rows (λ m. m.score) (λ m. (goal.Guesser-dyn g (m.guesser.vtable, m.guesser.value)).guesses m.guesser.value c.args.number)
    c.args.self.now.members.items c.deref.result.now c.best_member-best.result c.index.result.now
    c.deref.ensures.value c.best_member-best.ensures.place c.best_member-best.ensures.among c.index.ensures
