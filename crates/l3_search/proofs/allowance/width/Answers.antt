use Rattle.std.proofs.Common.{arith}
use Rattle.l3_base.proofs.Edges.{edge_rises}
use Rattle.l3_search.proofs.allowance.width.Goals as goal

pub overflow_sub-edge : goal.overflow_sub-edge
overflow_sub-edge c = omega (arith, c.edge.ensures.value, c.edge-2.ensures.value, edge_rises c.args.rate c.args.band c.requires.rate c.requires.band)
