use Rattle.std.proofs.Common.{◌∙◌, ap}
use Rattle.l3_base.specs.Bands.{edge_at}
use Rattle.l3_stream.specs.Units.{edge}
use Rattle.l3_stream.proofs.regions.first_line.Goals as goal

pub returns : goal.returns
unfolding edge
returns c = c.from.ensures ∙ (c.edge.ensures.value ∙ ap (λ rate. edge_at rate c.args.band) c.index.ensures)
