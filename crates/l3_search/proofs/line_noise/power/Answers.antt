use Rattle.std.proofs.Common.{◌∙◌}
use Rattle.l3_search.proofs.Rebuilt.{reconstructed-power}
use Rattle.l3_search.proofs.line_noise.power.Goals as goal

pub returns-clause-value : goal.returns-clause-value
returns-clause-value c = c.reconstruct.ensures.value ∙ reconstructed-power c.args.n
