-- Steps of the words for lanes.
use Rattle.std.proofs.Common.{◌≡◌, ℕ, zero, suc, ◌+◌, ◌-◌, ◌*◌, ◌<◌, ◌≤◌, List, get_or, cond, leb, true, refl, ap, ◌∙◌, arith, inl, inr, add-one}
use Rattle.std.specs.Prelude.{ℤ, min, max}
use Rattle.std.proofs.lemmas.Bool.{cases_lt, le-leb, lt-ltb, le-ltb}
use Rattle.l3_base.specs.Lists.{entry}
use Rattle.l3_region.specs.Lanes.{IsFirstLane, LinbitsGrow, lane_class, mask_at, least_below, class_from, lane_cost, lane_sum, row_at, place_of}
use Rattle.l3_region.proofs.Tables.{mask_is, mask_linbits, mask_none, row_rises, row_small, row_zero}

-- ---- the least

pub least_below-none : (f : ℕ → ℕ) → least_below f 0 ≡ 65535
unfolding least_below
least_below-none f = refl

pub least_below-more : (f : ℕ → ℕ) (n : ℕ) → least_below f (n + 1) ≡ min (least_below f n) (f n)
unfolding least_below
least_below-more f n = rw add-one

pub least_below-le : (f : ℕ → ℕ) (n : ℕ) → least_below f n ≤ 65535
unfolding least_below
least_below-le f zero = omega arith
least_below-le f (suc n) = omega (arith, least_below-le f n)

pub least_below-lower : (f : ℕ → ℕ) (n j : ℕ) → j < n → least_below f n ≤ f j
unfolding least_below
least_below-lower f zero j lt = absurd (omega arith)
least_below-lower f (suc n) j lt = elim (cases_lt j n) [
  | inl before ↦ omega (arith, least_below-lower f n j before)
  | inr here ↦ (let same : n ≡ j = omega arith in let e : f n ≡ f j = ap f same in omega arith)
]

pub above : (f : ℕ → ℕ) (n b : ℕ) → b ≤ 65535 → ((j : ℕ) → j < n → b ≤ f j) → b ≤ least_below f n
unfolding least_below
above f zero b small le = omega arith
above f (suc n) b small le = omega (arith, above f n b small (λ j lt. le j (omega arith)), le n (omega arith))

-- the least is that of a place which is no more than any
pub least_below-is : (f : ℕ → ℕ) (n r : ℕ) → r < n → f r ≤ 65535 → ((j : ℕ) → j < n → f r ≤ f j) → least_below f n ≡ f r
least_below-is f n r lt small le = omega (arith, least_below-lower f n r lt, above f n (f r) small le)

-- ---- classes

pub class_from-none : (classes : List ℕ) (i : ℕ) → class_from classes i 0 ≡ 0
unfolding class_from
class_from-none classes i = refl

pub class_from-more : (classes : List ℕ) (i n : ℕ) → class_from classes i (n + 1) ≡ max (class_from classes i n) (get_or classes (i + n) 0)
unfolding class_from
class_from-more classes i n = rw add-one

pub class_from-front : (classes : List ℕ) (i n : ℕ) → class_from classes i (n + 1) ≡ max (class_from classes (i + 1) n) (get_or classes i 0)
class_from-front classes i zero =
    let same : i + 0 ≡ i = omega arith in
    let e = ap (λ k. get_or classes k 0) same in
    omega (arith, e, class_from-more classes i 0, class_from-none classes i, class_from-none classes (i + 1))
class_from-front classes i (suc n) =
    let one : suc n ≡ n + 1 = omega arith in
    let before = class_from-front classes i n in
    let left = class_from-more classes i (n + 1) in
    let right = class_from-more classes (i + 1) n in
    let same : i + (n + 1) ≡ i + 1 + n = omega arith in
    let e : get_or classes (i + (n + 1)) 0 ≡ get_or classes (i + 1 + n) 0 = ap (λ k. get_or classes k 0) same in
    rw one (omega (arith, before, left, right, e))

pub class_from-lt : (classes : List ℕ) (i n : ℕ) → ((b : ℕ) → b < i + n → get_or classes b 0 < 14) → class_from classes i n < 14
class_from-lt classes i zero small = omega (arith, class_from-none classes i)
class_from-lt classes i (suc n) small =
    let one : suc n ≡ n + 1 = omega arith in
    rw one (omega (arith, class_from-more classes i n, class_from-lt classes i n (λ b lt. small b (omega arith)), small (i + n) (omega arith)))

-- ---- sums

pub lane_sum-none : (q : List ℤ) (k : ℕ) → lane_sum q k 0 ≡ 0
unfolding lane_sum
lane_sum-none q k = refl

pub lane_sum-more : (q : List ℤ) (k n : ℕ) → lane_sum q k (n + 1) ≡ lane_sum q k n + row_at (place_of (entry q (2 * n)) (entry q (2 * n + 1))) k
unfolding lane_sum
lane_sum-more q k n = rw add-one

pub place_small : (x y : ℤ) → place_of x y < 256
unfolding place_of
place_small x y = omega arith

-- a pair takes at most 32 bits
pub lane_sum-le : (q : List ℤ) (k n : ℕ) → k < 24 → lane_sum q k n ≤ 32 * n
lane_sum-le q k zero lt = omega (arith, lane_sum-none q k)
lane_sum-le q k (suc n) lt =
    let one : suc n ≡ n + 1 = omega arith in
    let x = entry q (2 * n) in
    let y = entry q (2 * n + 1) in
    rw one (omega (arith, lane_sum-more q k n, lane_sum-le q k n lt, row_small (place_of x y) k (place_small x y) lt))

pub lane_sum-zero : (q : List ℤ) (n : ℕ) → lane_sum q 0 n ≡ 0
lane_sum-zero q zero = lane_sum-none q 0
lane_sum-zero q (suc n) =
    let one : suc n ≡ n + 1 = omega arith in
    let x = entry q (2 * n) in
    let y = entry q (2 * n + 1) in
    rw one (omega (arith, lane_sum-more q 0 n, lane_sum-zero q n, row_zero (place_of x y) (place_small x y)))

rises-by : (q : List ℤ) (k i n : ℕ) → lane_sum q k i ≤ lane_sum q k (i + n)
rises-by q k i zero = let same : i + 0 ≡ i = omega arith in rw same (omega arith)
rises-by q k i (suc n) =
    let same : i + suc n ≡ i + n + 1 = omega arith in
    rw same (omega (arith, rises-by q k i n, lane_sum-more q k (i + n)))

pub lane_sum-rises : (q : List ℤ) (k i j : ℕ) → i ≤ j → lane_sum q k i ≤ lane_sum q k j
lane_sum-rises q k i j le =
    let same : i + (j - i) ≡ j = omega arith in
    let grows = rises-by q k i (j - i) in
    rw same at grows

-- lanes of tables with linbits grow
linbits-one : (q : List ℤ) (k i n : ℕ) → 12 ≤ k → k < 23 → lane_sum q k (i + n) + lane_sum q (k + 1) i ≤ lane_sum q (k + 1) (i + n) + lane_sum q k i
linbits-one q k i zero from to = let same : i + 0 ≡ i = omega arith in rw same (omega arith)
linbits-one q k i (suc n) from to =
    let more : i + suc n ≡ i + n + 1 = omega arith in
    let place = place_of (entry q (2 * (i + n))) (entry q (2 * (i + n) + 1)) in
    let rises = row_rises place k (place_small (entry q (2 * (i + n))) (entry q (2 * (i + n) + 1))) from to in
    rw more (omega (arith, linbits-one q k i n from to, lane_sum-more q k (i + n), lane_sum-more q (k + 1) (i + n), rises))

linbits-by : (q : List ℤ) (k m i n : ℕ) → 12 ≤ k → k + m < 24 → lane_sum q k (i + n) + lane_sum q (k + m) i ≤ lane_sum q (k + m) (i + n) + lane_sum q k i
linbits-by q k zero i n from to = let same : k + 0 ≡ k = omega arith in rw same (omega arith)
linbits-by q k (suc m) i n from to =
    let more : k + suc m ≡ k + m + 1 = omega arith in
    rw more (omega (arith, linbits-by q k m i n from (omega arith), linbits-one q (k + m) i n (omega arith) (omega arith)))

pub lane_sum-linbits : (q : List ℤ) (k l i j : ℕ) → 12 ≤ k → k ≤ l → l < 24 → i ≤ j → lane_sum q k j + lane_sum q l i ≤ lane_sum q l j + lane_sum q k i
lane_sum-linbits q k l i j from order to le =
    let lane : k + (l - k) ≡ l = omega arith in
    let end : i + (j - i) ≡ j = omega arith in
    let grows = linbits-by q k (l - k) i (j - i) from (omega arith) in
    rw (lane, end) at grows

-- ---- the cheapest lane

-- lanes further on that cost no less
least_below-front : (f : ℕ → ℕ) (n m : ℕ) → ((j : ℕ) → n ≤ j → j < n + m → least_below f n ≤ f j) → least_below f (n + m) ≡ least_below f n
least_below-front f n zero le = let same : n + 0 ≡ n = omega arith in ap (least_below f) same
least_below-front f n (suc m) le =
    let more : n + suc m ≡ n + m + 1 = omega arith in
    omega (arith, ap (least_below f) more, least_below-more f (n + m), least_below-front f n m (λ j from lt. le j from (omega arith)), le (n + m) (omega arith) (omega arith))

-- the lane of the class is the first one of least cost where only tables with linbits hold the
-- values
pub first_of_long : (low high : List ℕ) (class : ℕ) → 6 ≤ class → class < 14 → LinbitsGrow low high → ((k : ℕ) → k < 24 → get_or low k 0 ≤ get_or high k 0) → ((k : ℕ) → k < 24 → get_or high k 0 ≤ 9216) →
    (mask_at class (class + 6) ≡ 0) × IsFirstLane (lane_cost low high class) 24 (class + 6)
unfolding LinbitsGrow
first_of_long low high class from to grow rising small =
    let lane = class + 6 in
    let here : mask_at class lane ≡ 0 = mask_linbits class lane from to (omega arith) ∙ ap (λ t. cond {A = ℕ} t 16384 0) (le-ltb lane lane (omega arith)) in
    let over : (j : ℕ) → j < lane → mask_at class j ≡ 16384 = λ j before. mask_linbits class j from to (omega arith) ∙ ap (λ t. cond {A = ℕ} t 16384 0) (lt-ltb j lane before) in (
      here,
      record {
        below = omega arith;
        least = λ j lt. elim (cases_lt j lane) [
          | inl before ↦ omega (arith, here, over j before, small lane (omega arith))
          | inr after ↦ omega (arith, here, grow lane j (omega arith) after lt, rising lane (omega arith), rising j lt)
        ];
        first = λ j before. omega (arith, here, over j before, small lane (omega arith));
      },
    )

-- thirteen lanes are enough for the first one where a table without linbits holds the values
pub first_of_short : (low high : List ℕ) (class r : ℕ) → class < 6 → LinbitsGrow low high → ((k : ℕ) → k < 24 → get_or low k 0 ≤ get_or high k 0) →
    IsFirstLane (lane_cost low high class) 13 r → IsFirstLane (lane_cost low high class) 24 r
unfolding LinbitsGrow
first_of_short low high class r small grow rising is = record {
  below = omega (arith, is.below);
  least = λ j lt. elim (cases_lt j 13) [
    | inl front ↦ is.least j front
    | inr back ↦
        omega (
          arith,
          is.least 12 (omega arith),
          mask_none class 12 small (omega arith) (omega arith),
          mask_none class j small (omega arith) lt,
          grow 12 j (omega arith) (omega arith) lt,
          rising 12 (omega arith),
          rising j lt,
        )
  ];
  first = is.first;
}

-- zeros cost nothing in lane 0
pub first_of_zeros : (low high : List ℕ) → get_or high 0 0 ≡ 0 → IsFirstLane (lane_cost low high 0) 24 0
first_of_zeros low high none =
    let low_class : leb 0 (lane_class 0) ≡ true = le-leb 0 (lane_class 0) (omega arith) in
    let mask : mask_at 0 0 ≡ 0 = mask_is 0 0 (omega arith) (omega arith) ∙ ap (λ t. cond {A = ℕ} t 0 16384) low_class in
    record { below = omega arith; least = λ j lt. omega (arith, mask, none); first = λ j lt. absurd (omega (arith, lt)) }

-- ---- floors
