use Rattle.std.proofs.Common.{arith}
use Rattle.l3_base.proofs.Edges.{edge_rises}
use Rattle.l3_transform.proofs.band.band_lines.Goals as goal

pub slice_bounds-result-count : goal.slice_bounds-result-count
slice_bounds-result-count c = omega (arith, edge_rises c.args.rate c.args.band c.requires.rate c.requires.band)

pub slice_bounds-result-start : goal.slice_bounds-result-start
slice_bounds-result-start c = omega (arith, edge_rises c.args.rate c.args.band c.requires.rate c.requires.band)

pub returns-clause-some : goal.returns-clause-some
returns-clause-some c = omega (arith, edge_rises c.args.rate c.args.band c.requires.rate c.requires.band)
