use Rattle.std.proofs.Common.{◌≡◌, ℕ, ◌+◌, ◌<◌, ◌≤◌, ◌^◌, min, pos, get_or}
use Rattle.std.specs.Prelude.{unsigned_abs}
use Rattle.l3_base.specs.Bands.{edge_at}
use Rattle.l3_quant.specs.Quantiser.{scaled, steps_of}
use Rattle.l3_quant.specs.Amplified.{band_gain}
use Rattle.l3_quant.proofs.bands.scale_bands.Given as goal

abbrev pub invariant-loop-band : goal.invariant-loop-band
invariant-loop-band l = record {
  value : (b k : ℕ) → b < l.band → edge_at l.rate b ≤ k → k < edge_at l.rate (b + 1) →
      get_or l.out k 0 ≡ min (scaled (unsigned_abs (get_or l.lines k (pos 0))) (steps_of (band_gain l.amp (pos l.gain) b))) (2 ^ 30);
}
