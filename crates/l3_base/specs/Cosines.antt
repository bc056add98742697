-- Cosines of whole steps round a circle, from a table of its first quarter.
use Rattle.std.specs.Prelude.{◌≡◌, ℕ, ◌-◌, ◌*◌, ◌/◌, ◌%◌, ◌≤◌, min, nat_le, List, ℤ, pos, ◌+ℤ◌, ◌-ℤ◌, neg_ℤ, unsigned_abs, if◌then◌else◌}
use Rattle.l3_base.specs.declared.cosines.TheConstants.{K64, K72}
use Rattle.l3_base.specs.Lists.{entry}

-- r steps into a half circle: the table over its first half, the table backwards with the other
-- sign over the rest
abbrev pub on_half_circle : List ℤ → ℕ → ℕ → ℤ
on_half_circle table half r = if nat_le r (half / 2) then entry table r else neg_ℤ (entry table (half - r))

-- how far m steps are from the start, the shorter way round
abbrev pub steps_apart : ℕ → ℤ → ℕ
steps_apart half m = min (unsigned_abs m % (2 * half)) (2 * half - unsigned_abs m % (2 * half))

-- the cosine of m steps, 64 to the half circle, times 2^15
unfoldable pub cosine64 : ℤ → ℤ
cosine64 m = on_half_circle K64 64 (steps_apart 64 m)

-- the cosine of m steps, 72 to the half circle, times 2^15
unfoldable pub cosine72 : ℤ → ℤ
cosine72 m = on_half_circle K72 72 (steps_apart 72 m)

-- a table of a quarter circle goes on so: odd about the quarter, even about the start, and anew
-- after each circle
pub record IsExtended (table : List ℤ) (half : ℕ) (f : ℤ → ℤ) : Type 0 where
  pub printed : (m : ℕ) → m ≤ half / 2 → f (pos m) ≡ entry table m
  pub turned : (m : ℤ) → f (pos half -ℤ m) ≡ neg_ℤ (f m)
  pub even : (m : ℤ) → f (neg_ℤ m) ≡ f m
  pub periodic : (m : ℤ) → f (m +ℤ pos (2 * half)) ≡ f m
