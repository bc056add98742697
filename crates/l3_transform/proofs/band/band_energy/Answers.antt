use Rattle.std.proofs.Common.{ap, ◌∙◌}
use Rattle.std.specs.List.{sum_by}
use Rattle.l3_transform.specs.Demand.{energy_of_line, energy_of}
use Rattle.l3_transform.proofs.band.band_energy.Goals as goal

pub returns : goal.returns
unfolding energy_of
returns c = c.sum_of_energies.ensures.value ∙ ap (sum_by energy_of_line) c.band_lines.ensures.value
