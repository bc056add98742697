-- The code tables side by side, a lane each, and sums over them. Other crates speak of places of
-- pairs and of classes of values alone.
use Rattle.std.specs.Prelude.{◌≡◌, ◌≢◌, ◌<◌, ◌≤◌, ◌+◌, ◌-◌, ◌*◌, ◌/◌, ◌%◌, ◌^◌, ℕ, zero, suc, nat_le, Bool, true, false, if◌then◌else◌, ◌⊎◌, List, [], max, min, slice_index, slice_index_or, ℤ, unsigned_abs, All, length, slice_range}
use Rattle.l3_base.specs.Lists.{entry, tabulate}
use Rattle.l3_base.specs.Bands.{edge_at}
use Rattle.l3_region.specs.Regions.{holds_all}
use Rattle.l3_region.specs.declared.lanes.TheConstants.{TABLES, CLASSES, BOUNDS}
use Rattle.l3_region.specs.declared.rows.TheConstants.{ROWS}
use Rattle.l3_region.specs.declared.quads.TheConstants.{QUAD_BITS}

-- the table of a lane
unfoldable pub lane_table : ℕ → ℕ
lane_table k = slice_index TABLES k

-- the class of the greatest value that its table holds
unfoldable pub lane_class : ℕ → ℕ
lane_class k = slice_index CLASSES k

-- the greatest value of a class
unfoldable pub bound_at : ℕ → ℕ
bound_at class = slice_index BOUNDS class

-- what a lane costs besides its bits where the greatest value is of a class: more than any pairs
-- take, where the lane does not hold it
unfoldable pub mask_at : ℕ → ℕ → ℕ
mask_at class k = if nat_le class (lane_class k) then 0 else 16384

-- the linbits of the tables of a class beyond those of table 24
unfoldable pub extra_of : ℕ → ℕ
extra_of class = class - 6 + (if nat_le 12 class then 1 else 0) + (if nat_le 13 class then 1 else 0)

-- a lane from those that are kept: lanes of tables with linbits are that of table 24 and, for each
-- value of 15 and more, the linbits beyond its own
unfoldable pub lane_of : (ℕ → ℕ) → ℕ → ℕ
lane_of kept k = if nat_le 12 k then kept 12 + extra_of (lane_class k) * kept 13 else kept k

-- what is kept of the pair at a place
unfoldable pub short_at : ℕ → ℕ → ℕ
short_at place t = slice_index (slice_index_or ROWS place []) t

-- the bits of the pair at a place in a lane
unfoldable pub row_at : ℕ → ℕ → ℕ
row_at place k = lane_of (short_at place) k

-- the entry of both tables of quadruples at a place
unfoldable pub quad_entry : ℕ → ℕ
quad_entry place = slice_index QUAD_BITS place

-- the bits of a quadruple by its index 8 * v + 4 * w + 2 * x + y, in each table
unfoldable pub quad_place : ℕ → ℕ
quad_place index = 64 * (index / 8) + 4 * (index / 4 % 2) + 16 * (index / 2 % 2) + index % 2

unfoldable pub bits_in_a : ℕ → ℕ
bits_in_a index = quad_entry (quad_place index) % 65536

unfoldable pub bits_in_b : ℕ → ℕ
bits_in_b index = quad_entry (quad_place index) / 65536

-- the place of a pair, by its absolute values cut at 15
unfoldable pub place_of : ℤ → ℤ → ℕ
place_of x y = 16 * min (unsigned_abs x) 15 + min (unsigned_abs y) 15

-- the bits of the first n pairs in a lane
unfoldable pub lane_sum : List ℤ → ℕ → ℕ → ℕ
lane_sum q k zero = 0
lane_sum q k (suc n) = lane_sum q k n + row_at (place_of (entry q (2 * n)) (entry q (2 * n + 1))) k

-- what is kept of the first n pairs
unfoldable pub short_sum : List ℤ → ℕ → ℕ → ℕ
short_sum q t zero = 0
short_sum q t (suc n) = short_sum q t n + short_at (place_of (entry q (2 * n)) (entry q (2 * n + 1))) t

-- the values are of a class: the tables that hold them are those of at least this class
abbrev pub IsClass : List ℤ → ℕ → Type 0
IsClass values class = (k : ℕ) → k < 24 → holds_all (lane_table k) values ≡ nat_le class (lane_class k)

-- lane k of the sums up to band b
abbrev pub sum_at : List (List ℕ) → ℕ → ℕ → ℕ
sum_at rows b k = slice_index (slice_index_or rows b []) k

-- the greatest class of n bands from band i on
unfoldable pub class_from : List ℕ → ℕ → ℕ → ℕ
class_from classes i zero = 0
class_from classes i (suc n) = max (class_from classes i n) (slice_index classes (i + n))

-- what a lane costs between two rows of sums
abbrev pub lane_cost : List ℕ → List ℕ → ℕ → ℕ → ℕ
lane_cost low high class k = slice_index high k - slice_index low k + mask_at class k

-- the least of f 0 .. f (n - 1)
unfoldable pub least_below : (ℕ → ℕ) → ℕ → ℕ
least_below f zero = 2 ^ 16 - 1
least_below f (suc n) = min (least_below f n) (f n)

-- what n bands from band i on cost in the cheapest lane
unfoldable pub range_cost : List (List ℕ) → List ℕ → ℕ → ℕ → ℕ
range_cost rows classes i n = least_below (lane_cost (slice_index_or rows i []) (slice_index_or rows (i + n) []) (class_from classes i n)) 24

-- what the regions cost for pair i of region0_count and region1_count, that is (i / 8, i % 8)
unfoldable pub pair_cost : List (List ℕ) → List ℕ → ℕ → ℕ
pair_cost rows classes i =
    range_cost rows classes 0 (i / 8 + 1) + range_cost rows classes (i / 8 + 1) (i % 8 + 1) + range_cost rows classes (i / 8 + i % 8 + 2) (20 - (i / 8 + i % 8))

-- region 1 ends within the 22 bands
abbrev pub IsPair : ℕ → Type 0
IsPair i = i / 8 + i % 8 + 2 ≤ 22

-- lane r is the first of those of least cost
pub record IsFirstLane (f : ℕ → ℕ) (n r : ℕ) : Type 0 where
  pub below : r < n
  pub least : (j : ℕ) → j < n → f r ≤ f j
  pub first : (j : ℕ) → j < r → f r < f j

-- pair r is the first of those of least cost among the first n, and costs so many bits; of no
-- pairs, more than any costs
pub record IsBestPair (f : ℕ → ℕ) (n r bits : ℕ) : Type 0 where
  pub lower : (j : ℕ) → j < n → IsPair j → bits ≤ f j
  pub earlier : (j : ℕ) → j < n → j < r → IsPair j → bits < f j
  pub found : 0 < n → (r < n) × IsPair r × (bits ≡ f r)
  pub none : n ≡ 0 → bits ≡ 2 ^ 32 - 1

-- between two rows the bits grow from lane to lane where the tables have linbits
unfoldable pub LinbitsGrow : List ℕ → List ℕ → Type 0
LinbitsGrow low high = (k l : ℕ) → 12 ≤ k → k ≤ l → l < 24 → slice_index high k + slice_index low l ≤ slice_index high l + slice_index low k

-- rows of sums that rise lane by lane and stay small, without bits in the lane of table 0, and
-- classes that there are
pub record AreSums (rows : List (List ℕ)) (classes : List ℕ) : Type 0 where
  pub rising : (i j k : ℕ) → i ≤ j → j ≤ 22 → k < 24 → sum_at rows i k ≤ sum_at rows j k
  pub small : (i k : ℕ) → i ≤ 22 → k < 24 → sum_at rows i k ≤ 9216
  pub zero_bits : (i : ℕ) → i ≤ 22 → sum_at rows i 0 ≡ 0
  pub linbits : (i j : ℕ) → i ≤ j → j ≤ 22 → LinbitsGrow (slice_index_or rows i []) (slice_index_or rows j [])
  pub classed : (i n : ℕ) → i + n ≤ 22 → class_from classes i n < 14

-- 1 where a value is above a bound, and else 0
abbrev pub one_above : ℕ → ℕ → ℕ
one_above bound value = if nat_le value bound then 0 else 1

-- the values between two edges, cut at the line where the pairs end
abbrev pub values_between : List ℤ → ℕ → ℕ → ℕ → ℕ → List ℤ
values_between q rate end i j = slice_range q (min (edge_at rate i) end) (min (edge_at rate j) end)

-- rows and classes are those of the values up to a line: between two bands the sums of each lane that
-- holds the values there grow by their bits, and the class of each band
pub record AreSumsOf (q : List ℤ) (rate end : ℕ) (rows : List (List ℕ)) (classes : List ℕ) : Type 0 where
  pub rate_small : rate < 3
  pub even : end % 2 ≡ 0
  pub within : end ≤ 576
  pub long : length q ≡ 576
  pub codable : All (λ x. unsigned_abs x ≤ 8191) q
  pub ready : AreSums rows classes
  pub sums : (i n k : ℕ) → i + n ≤ 22 → k < 24 → class_from classes i n ≤ lane_class k →
      sum_at rows (i + n) k + lane_sum q k (min (edge_at rate i) end / 2) ≡ sum_at rows i k + lane_sum q k (min (edge_at rate (i + n)) end / 2)
  pub classed : (b : ℕ) → b < 22 → IsClass (values_between q rate end b (b + 1)) (slice_index classes b)
  pub few : (b : ℕ) → b < 22 → slice_index classes b < 14

-- ---- sums that are kept lane by lane, up to each of 25 edges

-- lane t up to edge b
abbrev pub cell_at : List (List ℕ) → ℕ → ℕ → ℕ
cell_at sums t b = slice_index (slice_index_or sums t []) b

-- the rows of all lanes, band by band
unfoldable pub rows_of : List (List ℕ) → List (List ℕ)
rows_of sums = tabulate 23 (λ b. tabulate 24 (lane_of (λ t. cell_at sums t b)))

-- sixteen lanes that rise and stay small, with no bits in the lane of table 0
pub record AreKept (sums : List (List ℕ)) : Type 0 where
  pub lanes : length sums ≡ 16
  pub edges : (t : ℕ) → t < 16 → length (slice_index_or sums t []) ≡ 32
  pub rising : (t i j : ℕ) → t < 16 → i ≤ j → j < 25 → cell_at sums t i ≤ cell_at sums t j
  pub small : (t b : ℕ) → t < 16 → b < 25 → cell_at sums t b ≤ 9216
  pub linbits : (b : ℕ) → b < 25 → cell_at sums 12 b + 9 * cell_at sums 13 b ≤ 9216

-- the number of pairs up to an edge, the last edge thrice
abbrev pub pairs_at : ℕ → ℕ → ℕ → ℕ
pairs_at rate end b = min (edge_at rate (min b 22)) end / 2

-- all lanes have the sums of what is kept up to each edge
pub record AreAllSums (lines : List ℤ) (rate end : ℕ) (sums : List (List ℕ)) : Type 0 where
  pub lanes : length sums ≡ 16
  pub edges : (t : ℕ) → t < 16 → length (slice_index_or sums t []) ≡ 32
  pub summed : (t b : ℕ) → t < 16 → b < 25 → cell_at sums t b ≡ short_sum lines t (pairs_at rate end b)

-- lanes 12 and 13 have these sums, and the others zeros
pub record AreLongSums (lines : List ℤ) (rate end : ℕ) (sums : List (List ℕ)) : Type 0 where
  pub lanes : length sums ≡ 16
  pub edges : (t : ℕ) → t < 16 → length (slice_index_or sums t []) ≡ 32
  pub summed : (t b : ℕ) → 12 ≤ t → t < 14 → b < 25 → cell_at sums t b ≡ short_sum lines t (pairs_at rate end b)
  pub zeros : (t b : ℕ) → t < 16 → t ≢ 12 → t ≢ 13 → cell_at sums t b ≡ 0

-- only tables with linbits hold the values of each band that begins before the end
abbrev pub NeedLinbits : ℕ → ℕ → List ℕ → Type 0
NeedLinbits rate end classes = (b : ℕ) → b < 22 → edge_at rate b < end → 6 ≤ slice_index classes b

-- sums that are enough for the choice: of all lanes, or of those with linbits where others hold no
-- region with values
abbrev pub AreLaneSums : List ℤ → ℕ → ℕ → List ℕ → List (List ℕ) → Type 0
AreLaneSums lines rate end classes sums = AreAllSums lines rate end sums ⊎ (NeedLinbits rate end classes × AreLongSums lines rate end sums)

-- the edge of one of sixteen regions: they begin or end at one edge, or at one after the other
abbrev pub edge_in : ℕ → Bool → ℕ → ℕ
edge_in at false j = at
edge_in at true j = at + j

-- what a kept lane costs between two edges
abbrev pub kept_cost : List (List ℕ) → ℕ → ℕ → ℕ → ℕ → ℕ
kept_cost sums i j class t = cell_at sums t j - cell_at sums t i + mask_at class t

-- what the first lane costs that has linbits enough for a class
abbrev pub long_cost : List (List ℕ) → ℕ → ℕ → ℕ → ℕ
long_cost sums i j class = cell_at sums 12 j - cell_at sums 12 i + extra_of class * (cell_at sums 13 j - cell_at sums 13 i)

-- what a region between two edges costs in the cheapest lane
unfoldable pub cost_between : List (List ℕ) → ℕ → ℕ → ℕ → ℕ
cost_between sums i j class = min (long_cost sums i j class) (least_below (kept_cost sums i j class) 12)

-- so much is reckoned for pair i: its cost, and more than any cost where region 1 ends beyond the
-- 22 bands
pub record IsReckoned (f : ℕ → ℕ) (i bits : ℕ) : Type 0 where
  pub pair : IsPair i → bits ≡ f i
  pub beyond : 22 < i / 8 + i % 8 + 2 → 30000 ≤ bits

-- a key is none so far, or what is reckoned for a pair and after it, as digits below 128, the pair
pub record IsKey (f : ℕ → ℕ) (pair bits : ℕ) (key : ℕ) : Type 0 where
  pub place : pair < 128
  pub reckoned : IsReckoned f pair bits
  pub key_is : key ≡ 128 * bits + pair

-- key j is the least of those of pairs 8 * j to 8 * j + n
pub record AreKeys (f : ℕ → ℕ) (n : ℕ) (keys : List ℕ) : Type 0 where
  pub long : length keys ≡ 16
  pub lower : (j k : ℕ) → j < 16 → k < n → IsPair (8 * j + k) → slice_index keys j ≤ 128 * f (8 * j + k) + (8 * j + k)
  pub found : (j : ℕ) → j < 16 → (slice_index keys j ≡ 2 ^ 32 - 1) ⊎ ((p v : ℕ) × IsKey f p v (slice_index keys j))
