use Rattle.std.proofs.Common.{◌≡◌, ℕ, ◌<◌, ◌≤◌, ◌^◌, min, pos, get_or, length}
use Rattle.std.specs.Prelude.{unsigned_abs}
use Rattle.l3_quant.specs.Quantiser.{scaled}
use Rattle.l3_quant.proofs.bands.scale_band.Given as goal

abbrev pub invariant-loop-i : goal.invariant-loop-i
invariant-loop-i l = record {
  long : length l.out ≡ 576;
  value : (k : ℕ) → l.from ≤ k → k < l.i →
      get_or l.out k 0 ≡ min (scaled (unsigned_abs (get_or l.lines k (pos 0))) l.h) (2 ^ 30);
  before : (k : ℕ) → k < l.from → get_or l.out k 0 ≡ get_or l.fn.out k 0;
}
