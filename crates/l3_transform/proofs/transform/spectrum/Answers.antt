use Rattle.std.proofs.Common.{◌∙◌}
use Rattle.l3_transform.proofs.Reduction.{lines_are}
use Rattle.l3_transform.proofs.transform.spectrum.Goals as goal

pub returns-clause-value : goal.returns-clause-value
returns-clause-value c = c.reduce.ensures.value ∙ lines_are c.transform.new.out c.args.slots.now c.transform.ensures.value
