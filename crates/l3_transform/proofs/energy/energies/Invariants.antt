use Rattle.std.proofs.Common.{◌≡◌, ℕ, ◌<◌, get_or, length}
use Rattle.l3_transform.specs.Demand.{energy_of}
use Rattle.l3_transform.proofs.energy.energies.Given as goal

abbrev pub invariant-loop-band : goal.invariant-loop-band
invariant-loop-band l = record {
  long : length l.out ≡ 22;
  value : (k : ℕ) → k < l.band → get_or l.out k 0 ≡ energy_of l.frequency l.lines k;
}
