use Rattle.std.proofs.Common.{◌≡◌, ◌*◌, ◌≤◌, ◌^◌, take}
use Rattle.std.specs.List.{sum_by}
use Rattle.l3_search.specs.Noise.{noise_of_line}
use Rattle.l3_search.proofs.band_noise.sum_of_noise.Given as goal

abbrev pub invariant-loop-i : goal.invariant-loop-i
invariant-loop-i l = record {
  value : l.sum ≡ sum_by (noise_of_line l.gain) (take l.i l.lines);
  bound : l.sum ≤ l.i * 2 ^ 92;
}
