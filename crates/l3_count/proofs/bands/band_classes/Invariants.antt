use Rattle.std.proofs.Common.{◌≡◌, ℕ, List, ◌<◌, ◌≤◌, get_or, length}
use Rattle.l3_quant.specs.Quantiser.{magnitude_at}
use Rattle.l3_region.proofs.Tables.{AreLess}
use Rattle.l3_count.specs.Planes.{key_at}
use Rattle.l3_count.specs.Classes.{AreClassPlanes}
use Rattle.l3_count.proofs.bands.band_classes.Given as goal

abbrev pub invariant-loop-class : goal.invariant-loop-class
invariant-loop-class l = record {
  long : length l.classes ≡ 32;
  value : (peaks : List ℕ) (steps : ℕ → ℕ) → AreClassPlanes peaks l.planes → (b : ℕ) → b < 22 → get_or l.keys b 0 ≡ key_at (steps b) → AreLess (magnitude_at (get_or peaks b 0) (steps b)) (get_or l.classes b 0) l.class;
  small : (b : ℕ) → b < 32 → get_or l.classes b 0 ≤ l.class;
}
