use Rattle.std.proofs.Common.{◌≡◌, ◌-◌, ◌*◌, ◌^◌, ◌≤◌, take}
use Rattle.std.specs.List.{sum_by}
use Rattle.l3_transform.specs.Demand.{energy_of_line}
use Rattle.l3_transform.proofs.band.sum_of_energies.Given as goal

abbrev pub invariant-loop-x : goal.invariant-loop-x
invariant-loop-x l = record {
  value : l.sum ≡ sum_by energy_of_line (take l.x-index l.lines);
  bound : l.sum ≤ l.x-index * (2 ^ 42 - 1);
}
