use Rattle.std.proofs.Common.{arith, ap, ◌∙◌}
use Rattle.l3_base.proofs.ListLemmas.{tabulate-entries}
use Rattle.l3_transform.specs.Demand.{energy_of, energies_of}
use Rattle.l3_transform.proofs.energy.energies.Goals as goal

pub returns : goal.returns
unfolding energies_of
returns c =
    let lines = c.lines-lines.result.now in
    tabulate-entries 22 (energy_of c.index-frequency.result lines) 0 c.loop-band.out c.loop-band.invariant.long (λ k lt. c.loop-band.invariant.value k (omega arith))
    ∙ (ap (λ f. energies_of f lines) c.index-frequency.ensures ∙ ap (energies_of _) c.lines-lines.ensures.value)
