use Rattle.std.proofs.Common.{refl, sym, ◌∙◌}
use Rattle.l3_board.specs.Offers.{placed_at}
use Rattle.l3_board.proofs.OfferLemmas.{own-or-none}
use Rattle.l3_board.proofs.placed.Offers.has.Goals as goal

pub returns-clause-there : goal.returns-clause-there
returns-clause-there c some =
    own-or-none c.args.self.now c.args.number (placed_at c.args.self.now.placed c.args.number) c.next-next.ensures.ahead c.requires.near refl (sym c.is_taken.ensures ∙ some)
