-- Where the last values above 0 and above 1 stand.
use Rattle.std.specs.Prelude.{◌≡◌, ◌↔◌, ◌<◌, ◌≤◌, ◌+◌, ◌*◌, ℕ, List, ℤ, length, slice_index}
use Rattle.l3_quant.specs.Quantiser.{magnitude_at}
use Rattle.l3_count.specs.Planes.{key_at}
use Rattle.l3_count.specs.Rows.{size_at}

-- no line from a pair on is quantised to more than k, so many quarter steps below 258
abbrev pub IsAtMostFrom : List ℤ → ℕ → ℕ → ℕ → Type 0
IsAtMostFrom lines k h pair = (i : ℕ) → 2 * pair ≤ i → i < 576 → magnitude_at (size_at lines i) h ≤ k

-- p is below the keys of those gains alone at which no line from the pair on is quantised to more
-- than k
abbrev pub IsEnd : List ℤ → ℕ → ℕ → ℕ → Type 0
IsEnd lines k pair p = (h : ℕ) → (p < key_at h) ↔ IsAtMostFrom lines k h pair

-- p is below the keys of those gains alone at which neither line of a pair is quantised to more than
-- k
abbrev pub IsPairPlane : List ℤ → ℕ → ℕ → ℕ → Type 0
IsPairPlane lines k pair p = (h : ℕ) → (p < key_at h) ↔
    ((magnitude_at (size_at lines (2 * pair)) h ≤ k) × (magnitude_at (size_at lines (2 * pair + 1)) h ≤ k))

-- the ends of all pairs
pub record AreEnds (lines : List ℤ) (k : ℕ) (ends : List ℕ) : Type 0 where
  pub long : length ends ≡ 288
  pub is : (pair : ℕ) → pair < 288 → IsEnd lines k pair (slice_index ends pair)

-- q has the absolute values of the quantised values of 576 lines
pub record IsQuantised (lines : List ℤ) (h : ℕ) (q : List ℤ) : Type 0 where
  pub long : length q ≡ 576
  pub is : (i : ℕ) → i < 576 → size_at q i ≡ magnitude_at (size_at lines i) h
