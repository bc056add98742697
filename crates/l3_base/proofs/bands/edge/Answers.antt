use Rattle.std.proofs.Common.{refl}
use Rattle.l3_base.specs.Bands.{edges_at, edge_at}
use Rattle.l3_base.proofs.Edges.{edge_within}
use Rattle.l3_base.proofs.bands.edge.Goals as goal

pub returns-clause-value : goal.returns-clause-value
unfolding edge_at edges_at
returns-clause-value c = refl

pub returns-clause-bound : goal.returns-clause-bound
unfolding edge_at edges_at
returns-clause-bound c = edge_within c.args.rate c.args.band c.requires.rate c.requires.band
