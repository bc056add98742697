-- The pairs of a unit's values, packed, and the classes of its bands: all that the choice of
-- regions needs to know of 576 quantised values.
use Rattle.std.specs.Prelude.{◌≡◌, ◌≤◌, ◌<◌, ◌+◌, ◌*◌, ◌/◌, ◌%◌, ℕ, List, [], ◌∷◌, length, min, slice_index, slice_range, ℤ, unsigned_abs, All}
use Rattle.l3_base.specs.Lists.{entry}
use Rattle.l3_base.specs.Bands.{edge_at, edges_at}
use Rattle.l3_region.specs.Cut.{as_lines}
use Rattle.l3_region.specs.Lanes.{IsClass, place_of}

-- of 576 values of at most 8191 either way: each pair, cut at 15 and packed, and the class of each
-- whole band
pub record ArePairsOf (edges : List ℕ) (q : List ℤ) (pairs classes : List ℕ) : Type 0 where
  pub long : length q ≡ 576
  pub codable : All (λ x. unsigned_abs x ≤ 8191) q
  pub pairs_are : (i : ℕ) → i < 288 → slice_index pairs i ≡ place_of (entry q (2 * i)) (entry q (2 * i + 1))
  pub classed : (b : ℕ) → b < 22 → IsClass (slice_range q (slice_index edges b) (slice_index edges (b + 1))) (slice_index classes b)
  pub few : (b : ℕ) → b < 22 → slice_index classes b < 14

-- ---- only the inside of this crate speaks of these

-- the values of packed pairs, one after the other
unfoldable pub unpacked : List ℕ → List ℕ
unpacked [] = []
unpacked (pair ∷ pairs) = pair / 16 ∷ pair % 16 ∷ unpacked pairs

-- the same as whole numbers
abbrev pub lines_in : List ℕ → List ℤ
lines_in pairs = as_lines (unpacked pairs)

-- the class of a band's values before a line, of whatever values there are that are packed so
unfoldable pub IsBandClass : List ℕ → List ℕ → ℕ → ℕ → ℕ → ℕ → Type 0
IsBandClass pairs classes rate end band class = (q : List ℤ) → ArePairsOf (edges_at rate) q pairs classes →
    IsClass (slice_range q (min (edge_at rate band) end) (min (edge_at rate (band + 1)) end)) class
