use Rattle.std.proofs.Common.{◌≡◌, ℕ, ◌<◌, ◌*◌, ◌+◌, get_or, length}
use Rattle.l3_count.specs.Planes.{IsPlane}
use Rattle.l3_count.specs.Classes.{least_at}
use Rattle.l3_count.proofs.bands.write_band.Given as goal

abbrev pub invariant-loop-class : goal.invariant-loop-class
invariant-loop-class l = record {
  long : length l.out ≡ 448;
  value : (class : ℕ) → class < l.class → IsPlane (least_at class) l.peak (get_or l.out (32 * class + l.band) 0);
  others : (class other : ℕ) → class < 14 → other < l.band → get_or l.out (32 * class + other) 0 ≡ get_or l.fn.out (32 * class + other) 0;
}
