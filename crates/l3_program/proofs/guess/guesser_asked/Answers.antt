use Rattle.std.proofs.Common.{◌-◌, ◌<◌, arith, length, refl}
use Rattle.l3_program.proofs.GuessLemmas.{get_is}
use Rattle.l3_program.proofs.guess.guesser_asked.Goals as goal

pub returns-else-number-eq0-clause-one : goal.returns-else-number-eq0-clause-one
returns-else-number-eq0-clause-one g c = λ low.
    let there : c.args.number - 1 < length c.args.guessers.items = omega (arith, low, c.requires.there, c.args.guessers.ok.0) in
    (_, refl, get_is c.args.guessers.items (c.args.number - 1) c.swap_remove.result there (rw c.from.ensures at c.swap_remove.ensures.value))
