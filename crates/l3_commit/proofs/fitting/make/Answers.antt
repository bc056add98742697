use Rattle.std.proofs.Common.{◌∙◌}
use Rattle.l3_commit.proofs.fitting.make.Goals as goal

pub returns-clause-of : goal.returns-clause-of
returns-clause-of c = λ bytes left right h.
    let both = c.window.ensures.of bytes left right h in
    (c.renew.ensures.fit.left_is ∙ both.0, c.renew.ensures.fit.right_is ∙ both.1)
