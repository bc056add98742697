use Rattle.std.proofs.Common.{◌≡◌, ℕ, ◌<◌, ◌*◌, ◌+◌, get_or, length}
use Rattle.l3_count.specs.Planes.{IsPlane}
use Rattle.l3_count.specs.Classes.{least_at}
use Rattle.l3_count.proofs.bands.write_classes.Given as goal

abbrev pub invariant-loop-band : goal.invariant-loop-band
invariant-loop-band l = record {
  long : length l.out ≡ 448;
  is : (class : ℕ) → class < 14 → (b : ℕ) → b < l.band → IsPlane (least_at class) (get_or l.peaks b 0) (get_or l.out (32 * class + b) 0);
}
