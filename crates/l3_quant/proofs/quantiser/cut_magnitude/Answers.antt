use Rattle.std.proofs.Common.{min, ap, ◌∙◌}
use Rattle.l3_quant.specs.Quantiser.{scaled, greatest_reached}
use Rattle.l3_quant.proofs.ReachedLemmas.{greatest_reached-cut}
use Rattle.l3_quant.proofs.quantiser.cut_magnitude.Goals as goal

pub returns : goal.returns
returns c = c.reached.ensures ∙ (ap (λ y. min (greatest_reached y) 8192) c.scaled_line.ensures ∙ greatest_reached-cut (scaled c.args.x c.args.h))
