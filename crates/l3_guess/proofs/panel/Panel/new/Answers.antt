use Rattle.l3_guess.proofs.Rows.{map-part}
use Rattle.l3_guess.proofs.panel.Panel.new.Goals as goal

pub returns-clause-answers : goal.returns-clause-answers
returns-clause-answers g c = λ n.
    map-part (λ b. (goal.Guesser-dyn g (b.vtable, b.value)).guesses b.value n) (λ m. m.guesser) c.in_ok-members.members.items c.args.members.items c.in_ok-members.ensures.guessers
