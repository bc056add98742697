use Rattle.std.proofs.Common.{arith}
use Rattle.l3_base.proofs.Edges.{edge_rises}
use Rattle.l3_quant.proofs.peaks.band_peak.Goals as goal

pub slice_bounds-peak-count : goal.slice_bounds-peak-count
slice_bounds-peak-count c = omega (arith, edge_rises c.args.rate c.args.band c.requires.rate c.requires.band)

pub slice_bounds-peak-start : goal.slice_bounds-peak-start
slice_bounds-peak-start c = omega (arith, edge_rises c.args.rate c.args.band c.requires.rate c.requires.band)
