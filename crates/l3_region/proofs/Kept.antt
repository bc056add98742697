-- Sums that are kept lane by lane, and the rows of all lanes.
use Rattle.std.proofs.Common.{◌≡◌, ◌≢◌, ℕ, zero, suc, ◌+◌, ◌-◌, ◌*◌, ◌/◌, ◌<◌, ◌≤◌, List, [], length, get_or, refl, sym, ap, ◌∙◌, arith, inl, inr, add-one, mul-add}
use Rattle.std.specs.Prelude.{ℤ, min}
use Rattle.std.proofs.lemmas.Bool.{cases_lt, le-leb, lt-leb}
use Rattle.l3_base.specs.Lists.{entry}
use Rattle.l3_base.proofs.ListLemmas.{get_or-tabulate}
use Rattle.l3_base.specs.Bands.{edge_at}
use Rattle.l3_region.specs.Lanes.{AreKept, cell_at, extra_of, lane_class, lane_of, lane_sum, pairs_at, place_of, row_at, rows_of, short_at, short_sum, sum_at}
use Rattle.l3_base.proofs.Edges.{edge_order}
use Rattle.l3_region.proofs.LaneLemmas.{lane_sum-le, lane_sum-more, lane_sum-none, place_small}
use Rattle.l3_region.proofs.Tables.{short_small}

pub lane_of-short : (kept : ℕ → ℕ) (k : ℕ) → k < 12 → lane_of kept k ≡ kept k
unfolding lane_of
lane_of-short kept k lt = rw (lt-leb 12 k lt) refl

pub lane_of-long : (kept : ℕ → ℕ) (k : ℕ) → 12 ≤ k → lane_of kept k ≡ kept 12 + extra_of (lane_class k) * kept 13
unfolding lane_of
lane_of-long kept k le = rw (le-leb 12 k le) refl

pub lane_of-same : (f g : ℕ → ℕ) (k : ℕ) → k < 24 → ((t : ℕ) → t < 16 → f t ≡ g t) → lane_of f k ≡ lane_of g k
lane_of-same f g k lt same = elim (cases_lt k 12) [
  | inl short ↦ lane_of-short f k short ∙ (same k (omega arith) ∙ sym (lane_of-short g k short))
  | inr long ↦
      (let a = same 12 (omega arith) in
      let b = same 13 (omega arith) in
      let x = lane_of-long f k long in
      let y = lane_of-long g k long in
      cc)
]

pub short_sum-none : (q : List ℤ) (t : ℕ) → short_sum q t 0 ≡ 0
unfolding short_sum
short_sum-none q t = refl

pub short_sum-more : (q : List ℤ) (t n : ℕ) → short_sum q t (n + 1) ≡ short_sum q t n + short_at (place_of (entry q (2 * n)) (entry q (2 * n + 1))) t
unfolding short_sum
short_sum-more q t n = rw add-one

pub short_sum-le : (q : List ℤ) (t n : ℕ) → t < 16 → short_sum q t n ≤ 14 * n
short_sum-le q t zero lt = omega (arith, short_sum-none q t)
short_sum-le q t (suc n) lt =
    let one : suc n ≡ n + 1 = omega arith in
    let x = entry q (2 * n) in
    let y = entry q (2 * n + 1) in
    rw one (omega (arith, short_sum-more q t n, short_sum-le q t n lt, short_small (place_of x y) t (place_small x y) lt))

pub row_at-is : (place k : ℕ) → row_at place k ≡ lane_of (short_at place) k
unfolding row_at
row_at-is place k = refl

-- a lane's sum from those that are kept
pub lane_sum-is : (q : List ℤ) (k n : ℕ) → lane_sum q k n ≡ lane_of (λ t. short_sum q t n) k
lane_sum-is q k zero = elim (cases_lt k 12) [
  | inl short ↦ omega (arith, lane_of-short (λ t. short_sum q t 0) k short, lane_sum-none q k, short_sum-none q k)
  | inr long ↦
      (let e = extra_of (lane_class k) in
      let none : e * short_sum q 13 0 ≡ 0 = rw (short_sum-none q 13) (omega arith) in
      omega (arith, lane_of-long (λ t. short_sum q t 0) k long, lane_sum-none q k, short_sum-none q 12, none))
]
lane_sum-is q k (suc n) =
    let one : suc n ≡ n + 1 = omega arith in
    let place = place_of (entry q (2 * n)) (entry q (2 * n + 1)) in
    let before = lane_sum-is q k n in
    let more = lane_sum-more q k n in
    rw one (elim (cases_lt k 12) [
      | inl short ↦
          omega (
            arith,
            before,
            more,
            row_at-is place k,
            lane_of-short (short_at place) k short,
            lane_of-short (λ t. short_sum q t n) k short,
            lane_of-short (λ t. short_sum q t (n + 1)) k short,
            short_sum-more q k n,
          )
      | inr long ↦
          (let e = extra_of (lane_class k) in
          let apart : e * short_sum q 13 (n + 1) ≡ e * short_sum q 13 n + e * short_at place 13 = ap (λ x. e * x) (short_sum-more q 13 n) ∙ mul-add e (short_sum q 13 n) (short_at place 13) in
          omega (
            arith,
            before,
            more,
            row_at-is place k,
            lane_of-long (short_at place) k long,
            lane_of-long (λ t. short_sum q t n) k long,
            lane_of-long (λ t. short_sum q t (n + 1)) k long,
            short_sum-more q 12 n,
            apart,
          ))
    ])

-- a row's entry from the lanes that are kept
pub sum_at-is : (sums : List (List ℕ)) (b k : ℕ) → b < 23 → k < 24 → sum_at (rows_of sums) b k ≡ lane_of (λ t. cell_at sums t b) k
unfolding rows_of
sum_at-is sums b k lb lk =
    ap (λ r. get_or r k 0) (get_or-tabulate 23 b _ [] lb) ∙ get_or-tabulate 24 k (lane_of (λ t. cell_at sums t b)) 0 lk

-- ---- sums up to bands

short_rises-by : (q : List ℤ) (t i n : ℕ) → short_sum q t i ≤ short_sum q t (i + n)
short_rises-by q t i zero = let same : i + 0 ≡ i = omega arith in rw same (omega arith)
short_rises-by q t i (suc n) =
    let same : i + suc n ≡ i + n + 1 = omega arith in
    rw same (omega (arith, short_rises-by q t i n, short_sum-more q t (i + n)))

pub short_rises : (q : List ℤ) (t i j : ℕ) → i ≤ j → short_sum q t i ≤ short_sum q t j
short_rises q t i j le =
    let same : i + (j - i) ≡ j = omega arith in
    let grows = short_rises-by q t i (j - i) in
    rw same at grows

-- each cell is the sum up to its edge
abbrev pub AreCells : List ℤ → ℕ → ℕ → List (List ℕ) → Type 0
AreCells lines rate end sums = (t b : ℕ) → t < 16 → b < 25 → cell_at sums t b ≡ short_sum lines t (pairs_at rate end b)

extra_last : extra_of (lane_class 19) ≡ 9
unfolding extra_of lane_class
extra_last = refl

-- in the lane of most linbits pairs take at most 32 bits each
pub long_small : (lines : List ℤ) (n : ℕ) → n ≤ 288 → short_sum lines 12 n + 9 * short_sum lines 13 n ≤ 9216
long_small lines n within =
    let whole = lane_sum-is lines 19 n ∙ lane_of-long (λ t. short_sum lines t n) 19 (omega arith) in
    let nine : extra_of (lane_class 19) * short_sum lines 13 n ≡ 9 * short_sum lines 13 n = ap (λ e. e * short_sum lines 13 n) extra_last in
    omega (arith, within, whole, nine, lane_sum-le lines 19 n (omega arith))

pub kept_from : (lines : List ℤ) (rate end : ℕ) (sums : List (List ℕ)) → rate < 3 → end ≤ 576 → length sums ≡ 16 → ((t : ℕ) → t < 16 → length (get_or sums t []) ≡ 32) → AreCells lines rate end sums → AreKept sums
kept_from lines rate end sums lt within lanes edges cells = record {
  lanes = lanes;
  edges = edges;
  rising = λ t i j small le few.
      omega (
        arith,
        cells t i small (omega arith),
        cells t j small few,
        short_rises lines t (pairs_at rate end i) (pairs_at rate end j) (omega (arith, edge_order rate (min i 22) (min j 22) lt (omega arith) (omega arith))),
      );
  small = λ t b small few. omega (arith, within, cells t b small few, short_sum-le lines t (pairs_at rate end b) (omega arith));
  linbits = λ b few. omega (arith, cells 12 b (omega arith) few, cells 13 b (omega arith) few, long_small lines (pairs_at rate end b) (omega (arith, within)));
}

pub rows_from : (lines : List ℤ) (rate end : ℕ) (sums : List (List ℕ)) → AreCells lines rate end sums → (b k : ℕ) → b < 23 → k < 24 → sum_at (rows_of sums) b k ≡ lane_sum lines k (min (edge_at rate b) end / 2)
rows_from lines rate end sums cells b k lb lk =
    let n = pairs_at rate end b in
    let same : min b 22 ≡ b = omega arith in
    sum_at-is sums b k lb lk
    ∙ (lane_of-same (λ t. cell_at sums t b) (λ t. short_sum lines t n) k lk (λ t lt. cells t b lt (omega arith))
    ∙ (sym (lane_sum-is lines k n) ∙ ap (λ i. lane_sum lines k (min (edge_at rate i) end / 2)) same))

-- the last edge is written thrice
pub cells_last : (lines : List ℤ) (rate end : ℕ) (before one two last : List (List ℕ)) (bits : List ℕ) →
    ((t b : ℕ) → t < 16 → b < 22 → cell_at before t b ≡ short_sum lines t (min (edge_at rate b) end / 2)) →
    ((t : ℕ) → t < 16 → get_or bits t 0 ≡ short_sum lines t (min (edge_at rate 22) end / 2)) →
    ((t : ℕ) → t < 16 → cell_at one t 22 ≡ get_or bits t 0) → ((t b : ℕ) → t < 16 → b ≢ 22 → cell_at one t b ≡ cell_at before t b) →
    ((t : ℕ) → t < 16 → cell_at two t 23 ≡ get_or bits t 0) → ((t b : ℕ) → t < 16 → b ≢ 23 → cell_at two t b ≡ cell_at one t b) →
    ((t : ℕ) → t < 16 → cell_at last t 24 ≡ get_or bits t 0) → ((t b : ℕ) → t < 16 → b ≢ 24 → cell_at last t b ≡ cell_at two t b) → AreCells lines rate end last
cells_last lines rate end before one two last bits cells sum here1 others1 here2 others2 here3 others3 t b lt small = elim (cases_lt b 22) [
  | inl band ↦
      (let same : min b 22 ≡ b = omega arith in
      let a : b ≢ 22 = omega arith in
      let c : b ≢ 23 = omega arith in
      let d : b ≢ 24 = omega arith in
      others3 t b lt d ∙ (others2 t b lt c ∙ (others1 t b lt a ∙ (cells t b lt band ∙ ap (λ i. short_sum lines t (min (edge_at rate i) end / 2)) (sym same)))))
  | inr past ↦
      (let same : min b 22 ≡ 22 = omega arith in
      let sum_is = sum t lt ∙ ap (λ i. short_sum lines t (min (edge_at rate i) end / 2)) (sym same) in
      let twenty_two : cell_at last t 22 ≡ get_or bits t 0 = others3 t 22 lt (omega arith) ∙ (others2 t 22 lt (omega arith) ∙ here1 t lt) in
      let twenty_three : cell_at last t 23 ≡ get_or bits t 0 = others3 t 23 lt (omega arith) ∙ here2 t lt in
      elim (cases_lt b 23) [
        | inl first ↦ (let at : b ≡ 22 = omega arith in ap (cell_at last t) at ∙ (twenty_two ∙ sum_is))
        | inr more ↦ elim (cases_lt b 24) [
          | inl second ↦ (let at : b ≡ 23 = omega arith in ap (cell_at last t) at ∙ (twenty_three ∙ sum_is))
          | inr third ↦ (let at : b ≡ 24 = omega arith in ap (cell_at last t) at ∙ (here3 t lt ∙ sum_is))
        ]
      ])
]
