use Rattle.std.proofs.Common.{◌≡◌, ℕ, ◌<◌, ◌^◌, get_or, length}
use Rattle.l3_search.specs.Noise.{noise_of}
use Rattle.l3_search.proofs.band_noise.noise.Given as goal

abbrev pub invariant-loop-band : goal.invariant-loop-band
invariant-loop-band l = record {
  long : length l.out ≡ 22;
  value : (k : ℕ) → k < l.band → get_or l.out k 0 ≡ noise_of l.index l.amp l.gain l.lines k;
  bound : (k : ℕ) → k < l.band → get_or l.out k 0 < 2 ^ 102;
}
