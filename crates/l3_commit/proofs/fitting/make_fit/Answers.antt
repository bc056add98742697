use Rattle.std.proofs.Common.{rules, ◌∙◌}
use Rattle.l3_commit.specs.Ahead.{IsFitTo}
use Rattle.l3_commit.proofs.fitting.make_fit.Goals as goal

pub returns-then-not-is_fit-clause-of : goal.returns-then-not-is_fit-clause-of
returns-then-not-is_fit-clause-of c = λ bytes left right h.
    let both = c.window.ensures.of bytes left right h in
    (c.renew.ensures.fit.left_is ∙ both.0, c.renew.ensures.fit.right_is ∙ both.1)

pub returns-else-not-is_fit-clause-of : goal.returns-else-not-is_fit-clause-of
returns-else-not-is_fit-clause-of c = λ bytes left right h.
    let both = c.window.ensures.of bytes left right h in
    let fit : IsFitTo c.args.settings c.args.number c.window.new.out c.args.piece.now = search rules in
    (fit.left_is ∙ both.0, fit.right_is ∙ both.1)
