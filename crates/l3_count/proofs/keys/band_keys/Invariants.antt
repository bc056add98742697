use Rattle.std.proofs.Common.{◌≡◌, ℕ, ◌<◌, get_or, length}
use Rattle.l3_count.specs.Planes.{key_at}
use Rattle.l3_count.specs.Marks.{band_steps}
use Rattle.l3_count.proofs.keys.band_keys.Given as goal

abbrev pub invariant-loop-band : goal.invariant-loop-band
invariant-loop-band l = record {
  long : length l.keys ≡ 32;
  are : (b : ℕ) → b < l.band → get_or l.keys b 0 ≡ key_at (band_steps l.amp l.gain b);
  some : (b : ℕ) → b < l.band → 0 < get_or l.keys b 0;
}
