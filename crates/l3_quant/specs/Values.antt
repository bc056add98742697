-- The values of scaled lines, where each line has quarter steps of its own. Only the inside of this
-- crate speaks of these.
use Rattle.std.specs.Prelude.{◌≡◌, ◌<◌, ◌^◌, ℕ, List, ℤ, pos, min, slice_index, slice_index_or, unsigned_abs}
use Rattle.l3_quant.specs.Quantiser.{scaled, magnitude_at, with_sign_of}

-- 576 lines are scaled, each by its own quarter steps, and cut at 2^30
abbrev pub AreScaled : (ℕ → ℕ) → List ℤ → List ℕ → Type 0
AreScaled steps lines ys = (k : ℕ) → k < 576 →
    slice_index ys k ≡ min (scaled (unsigned_abs (slice_index_or lines k (pos 0))) (steps k)) (2 ^ 30)

-- these are the quantised values of 576 lines, each so many quarter steps below 258
abbrev pub AreValues : (ℕ → ℕ) → List ℤ → List ℤ → Type 0
AreValues steps lines values = (k : ℕ) → k < 576 →
    slice_index_or values k (pos 0) ≡ with_sign_of (slice_index_or lines k (pos 0))
    (magnitude_at (unsigned_abs (slice_index_or lines k (pos 0))) (steps k))

-- some of 576 lines is quantised to more than 8191
abbrev pub IsAboveAt : (ℕ → ℕ) → List ℤ → Type 0
IsAboveAt steps lines =
    (k : ℕ) × (k < 576) × (8191 < magnitude_at (unsigned_abs (slice_index_or lines k (pos 0))) (steps k))
