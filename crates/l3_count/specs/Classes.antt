-- The planes of the classes of bands.
use Rattle.std.specs.Prelude.{◌≡◌, ◌<◌, ◌+◌, ◌*◌, ℕ, List, [], length, slice_index, slice_index_or}
use Rattle.l3_count.specs.declared.tables.TheConstants.{LEASTS, CLASS_LESS, CLASS_CUTS}
use Rattle.l3_count.specs.Planes.{IsMantissa, IsPlane}

-- the tables
unfoldable pub least_at : ℕ → ℕ
least_at class = slice_index LEASTS class

unfoldable pub class_less_at : ℕ → ℕ
class_less_at class = slice_index CLASS_LESS class

unfoldable pub class_cut_at : ℕ → ℕ → ℕ
class_cut_at class j = slice_index (slice_index_or CLASS_CUTS class []) j

-- four times the place of x's highest digit and 130, and its mantissa; both are 0 for 0
pub record IsWide (x octave mantissa : ℕ) : Type 0 where
  pub zero : x ≡ 0 → (octave ≡ 0) × (mantissa ≡ 0)
  pub some : 0 < x → (e : ℕ) × IsMantissa x e mantissa × (octave ≡ 4 * e + 130)

-- rows of 32, the first 22 of each the planes of the bands: for 13 classes those of the least
-- values above them, and then those of the least value that cannot be coded
pub record AreClassPlanes (peaks planes : List ℕ) : Type 0 where
  pub long : length planes ≡ 448
  pub is : (class : ℕ) → class < 14 → (b : ℕ) → b < 22 → IsPlane (least_at class) (slice_index peaks b) (slice_index planes (32 * class + b))
