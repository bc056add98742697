use Rattle.std.proofs.Common.{◌≡◌, ◌*◌, ◌≤◌}
use Rattle.std.specs.List.{sum}
use Rattle.l3_base.specs.Bands.{edge_at}
use Rattle.l3_base.specs.Lists.{tabulate}
use Rattle.l3_transform.specs.Demand.{eighths_of}
use Rattle.l3_transform.proofs.energy.demand.Given as goal

abbrev pub invariant-loop-band : goal.invariant-loop-band
invariant-loop-band l = record {
  value : l.eighths ≡ sum (tabulate l.band (eighths_of l.frequency l.lines));
  bound : l.eighths ≤ 42 * edge_at l.frequency l.band;
}
