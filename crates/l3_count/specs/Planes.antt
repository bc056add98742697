-- Planes: the greatest gains at which a line is still quantised to at least so much.
use Rattle.std.specs.Prelude.{◌≡◌, ◌↔◌, ◌<◌, ◌≤◌, ◌+◌, ◌-◌, ◌*◌, ◌^◌, ℕ, [], min, max, slice_index, slice_index_or}
use Rattle.l3_count.specs.declared.tables.TheConstants.{RANKED, BUCKET, RANKS, LESS}
use Rattle.l3_quant.specs.Quantiser.{magnitude_at}

-- the key of a gain that is so many quarter steps below 258: the gain and 8, cut to 1 to 255
abbrev pub key_at : ℕ → ℕ
key_at h = 266 - max 11 (min h 265)

-- p is the greatest key at which the absolute value x is quantised to at least n, or 0 where there
-- is none
pub record IsPlane (n x p : ℕ) : Type 0 where
  pub small : p ≤ 254
  pub reaches : (h : ℕ) → (key_at h ≤ p) ↔ (n ≤ magnitude_at x h)

-- the tables
unfoldable pub ranked_at : ℕ → ℕ
ranked_at i = slice_index RANKED i

unfoldable pub bucket_at : ℕ → ℕ
bucket_at i = slice_index BUCKET i

unfoldable pub place_at : ℕ → ℕ → ℕ
place_at k j = slice_index (slice_index_or RANKS k []) j

unfoldable pub less_at : ℕ → ℕ
less_at k = slice_index LESS k

-- x has its highest digit at place e, and m is x with that digit at place 28
pub record IsMantissa (x e m : ℕ) : Type 0 where
  pub low : 2 ^ e ≤ x
  pub high : x < 2 ^ (e + 1)
  pub small : e ≤ 28
  pub value : m ≡ x * 2 ^ (28 - e)

-- r is the number of the 60 mantissas of the table that are at most m
pub record IsRank (m r : ℕ) : Type 0 where
  pub within : r ≤ 60
  pub counts : (i : ℕ) → i < 60 → (i < r) ↔ (ranked_at i ≤ m)

-- four times the place of x's highest digit and 130, and the rank of its mantissa; both are 0 for 0
pub record IsRanked (x octave rank : ℕ) : Type 0 where
  pub line : x < 2 ^ 29
  pub zero : x ≡ 0 → (octave ≡ 0) × (rank ≡ 0)
  pub some : 0 < x → (e : ℕ) × (m : ℕ) × IsMantissa x e m × IsRank m rank × (octave ≡ 4 * e + 130)
