-- The tables of lanes, by tests that compute.
use Rattle.std.proofs.Common.{◌≡◌, ℕ, zero, suc, ◌+◌, ◌*◌, ◌-◌, ◌<◌, ◌≤◌, true, List, [], length, get_or, cond, eqb, ltb, leb, refl, sym, ap, ◌∙◌, arith, inl, inr, ◌⊎◌}
use Rattle.std.proofs.lemmas.Bool.{agree_below, agree_below_at, eqb-true, ltb-true, leb-true, cases_lt, le-leb, lt-leb}
use Rattle.l3_huff.specs.Tables.{IsTable, is_table, greatest_of, linbits_at, width_at}
use Rattle.l3_region.specs.declared.rows.TheConstants.{ROWS}
use Rattle.l3_region.specs.declared.long.TheConstants.{LONG}
use Rattle.std.specs.List.{list_all}
use Rattle.std.specs.Prelude.{max, slice_index}
use Rattle.l3_region.proofs.AllPass.{true_all}
use Rattle.l3_region.specs.Lanes.{lane_table, lane_class, bound_at, extra_of, lane_of, mask_at, row_at, short_at}

-- ---- rows

-- the bits in a lane from what is kept of a pair
row_of : List ℕ → ℕ → ℕ
row_of row k = lane_of (slice_index row) k

-- each row is tested once, as it comes: the list is walked and no place is looked up
rows_small : list_all (λ row. agree_below (λ k. leb (row_of row k) 32) (λ _. true) 24) ROWS ≡ true
unfolding row_of lane_of extra_of lane_class
rows_small = refl

pub row_small : (place k : ℕ) → place < 256 → k < 24 → row_at place k ≤ 32
unfolding row_at short_at row_of
row_small place k a b =
    leb-true _ _ (agree_below_at (λ j. leb (row_at place j) 32) (λ _. true) 24 k
    (true_all (λ row. agree_below (λ j. leb (row_of row j) 32) (λ _. true) 24) ROWS rows_small place [] a) b)

rows_zero : list_all (λ row. eqb (row_of row 0) 0) ROWS ≡ true
unfolding row_of lane_of extra_of lane_class
rows_zero = refl

-- table 0 has no bits
pub row_zero : (place : ℕ) → place < 256 → row_at place 0 ≡ 0
unfolding row_at short_at row_of
row_zero place a = eqb-true _ _ (true_all (λ row. eqb (row_of row 0) 0) ROWS rows_zero place [] a)

rows_rise : list_all (λ row. agree_below (λ i. leb (row_of row (i + 12)) (row_of row (i + 13))) (λ _. true) 11) ROWS ≡ true
unfolding row_of lane_of extra_of lane_class
rows_rise = refl

-- in the lanes of tables with linbits a pair takes no fewer bits from lane to lane
pub row_rises : (place k : ℕ) → place < 256 → 12 ≤ k → k < 23 → row_at place k ≤ row_at place (k + 1)
unfolding row_at short_at row_of
row_rises place k a from to =
    let j = k - 12 in
    let back : j + 12 ≡ k = omega arith in
    let tested : row_at place (j + 12) ≤ row_at place (j + 13) =
    leb-true _ _ (agree_below_at (λ i. leb (row_at place (i + 12)) (row_at place (i + 13))) (λ _. true) 11 j
    (true_all (λ row. agree_below (λ i. leb (row_of row (i + 12)) (row_of row (i + 13))) (λ _. true) 11) ROWS rows_rise place [] a) (omega arith)) in
    let next : j + 13 ≡ k + 1 = omega arith in
    omega (arith, tested, ap (row_at place) back, ap (row_at place) next)

rows_long : list_all (λ row. eqb (length row) 16) ROWS ≡ true
rows_long = refl

pub row_long : (place : ℕ) → place < 256 → length (get_or ROWS place []) ≡ 16
row_long place a = eqb-true _ _ (true_all (λ row. eqb (length row) 16) ROWS rows_long place [] a)

-- what is kept of a pair in lanes 12 and 13, in one number
pub long_value : (place : ℕ) → place < 256 → get_or LONG place 0 ≡ short_at place 12 + 65536 * short_at place 13
unfolding short_at
long_value place a = eqb-true _ _ (agree_below_at (λ p. eqb (get_or LONG p 0) (short_at p 12 + 65536 * short_at p 13)) (λ _. true) 256 place refl a)

pub long_small : (place : ℕ) → place < 256 → get_or LONG place 0 ≤ 131086
long_small place a = leb-true _ _ (agree_below_at (λ p. leb (get_or LONG p 0) 131086) (λ _. true) 256 place refl a)

rows_short : list_all (λ row. agree_below (λ t. leb (slice_index row t) 14) (λ _. true) 16) ROWS ≡ true
rows_short = refl

-- what is kept of a pair is at most 14, and of values of 15 there are at most two
pub short_small : (place t : ℕ) → place < 256 → t < 16 → short_at place t ≤ 14
unfolding short_at
short_small place t a b =
    leb-true _ _ (agree_below_at (λ j. leb (short_at place j) 14) (λ _. true) 16 t
    (true_all (λ row. agree_below (λ j. leb (slice_index row j) 14) (λ _. true) 16) ROWS rows_short place [] a) b)

-- ---- the linbits beyond those of table 24

-- the first lane that has linbits enough for a class
abbrev pub first_long : ℕ → ℕ
first_long class = max (class + 6) 12

pub extra_first : (class : ℕ) → class < 14 → extra_of (lane_class (first_long class)) ≡ extra_of class
unfolding extra_of lane_class
extra_first class lt = eqb-true _ _ (agree_below_at (λ c. eqb (extra_of (lane_class (first_long c))) (extra_of c)) (λ _. true) 14 class refl lt)

pub extra_none : extra_of (lane_class 12) ≡ 0
unfolding extra_of lane_class
extra_none = refl

pub mask_first : (class : ℕ) → class < 14 → mask_at class (first_long class) ≡ 0
unfolding mask_at lane_class
mask_first class lt = eqb-true _ _ (agree_below_at (λ c. eqb (mask_at c (first_long c)) 0) (λ _. true) 14 class refl lt)

-- ---- masks and classes

-- a lane costs more exactly where its class is below the values'
pub mask_is : (class k : ℕ) → class < 14 → k < 24 → mask_at class k ≡ cond (leb class (lane_class k)) 0 16384
unfolding mask_at
mask_is class k a b = refl

-- values that only tables with linbits hold are held from the lane of their class on
pub mask_linbits : (class k : ℕ) → 6 ≤ class → class < 14 → k < 24 → mask_at class k ≡ cond (ltb k (class + 6)) 16384 0
unfolding mask_at lane_class
mask_linbits class k from to lt =
    let i = class - 6 in
    let back : i + 6 ≡ class = omega arith in
    let tested : mask_at (i + 6) k ≡ cond (ltb k (i + 6 + 6)) 16384 0 =
    eqb-true _ _ (agree_below_at (λ j. eqb (mask_at (i + 6) j) (cond (ltb j (i + 6 + 6)) 16384 0)) (λ _. true) 24 k
    (agree_below_at (λ p. agree_below (λ j. eqb (mask_at (p + 6) j) (cond (ltb j (p + 6 + 6)) 16384 0)) (λ _. true) 24) (λ _. true) 8 i refl (omega arith)) lt) in
    ap (λ c. mask_at c k) (sym back) ∙ (tested ∙ ap (λ c. cond {A = ℕ} (ltb k (c + 6)) 16384 0) back)

-- others are held by all of these
pub mask_none : (class k : ℕ) → class < 6 → 12 ≤ k → k < 24 → mask_at class k ≡ 0
unfolding mask_at lane_class
mask_none class k small from to =
    let j = k - 12 in
    let back : j + 12 ≡ k = omega arith in
    ap (mask_at class) (sym back)
    ∙ eqb-true _ _ (agree_below_at (λ i. eqb (mask_at class (i + 12)) 0) (λ _. true) 12 j
    (agree_below_at (λ p. agree_below (λ i. eqb (mask_at p (i + 12)) 0) (λ _. true) 12) (λ _. true) 6 class refl small) (omega arith))

-- the tables of lanes are of the profile and hold values up to the bound of their class
pub lane_is_table : (k : ℕ) → k < 24 → IsTable (lane_table k)
unfolding is_table lane_table
lane_is_table k lt = agree_below_at (λ j. is_table (lane_table j)) (λ _. true) 24 k refl lt

pub greatest_is : (k : ℕ) → k < 24 → greatest_of (lane_table k) ≡ bound_at (lane_class k)
unfolding greatest_of lane_table bound_at lane_class linbits_at width_at
greatest_is k lt = eqb-true _ _ (agree_below_at (λ j. eqb (greatest_of (lane_table j)) (bound_at (lane_class j))) (λ _. true) 24 k refl lt)

pub lane_class-lt : (k : ℕ) → k < 24 → lane_class k < 14
unfolding lane_class
lane_class-lt k lt = ltb-true _ _ (agree_below_at (λ j. ltb (lane_class j) 14) (λ _. true) 24 k refl lt)

-- tables without linbits hold no class above 5
pub lane_class-short : (k : ℕ) → k < 12 → lane_class k ≤ 5
unfolding lane_class
lane_class-short k lt = leb-true _ _ (agree_below_at (λ j. leb (lane_class j) 5) (λ _. true) 12 k refl lt)

pub bound_last : bound_at 13 ≡ 8206
unfolding bound_at
bound_last = refl

bound_rises-one : (i : ℕ) → i < 13 → bound_at i < bound_at (i + 1)
unfolding bound_at
bound_rises-one i lt = ltb-true _ _ (agree_below_at (λ j. ltb (bound_at j) (bound_at (j + 1))) (λ _. true) 13 i refl lt)

bound_rises-by : (i n : ℕ) → i + n < 14 → bound_at i ≤ bound_at (i + n)
bound_rises-by i zero lt = let same : i + 0 ≡ i = omega arith in rw same (omega arith)
bound_rises-by i (suc n) lt =
    let same : i + suc n ≡ i + n + 1 = omega arith in
    rw same (omega (arith, bound_rises-by i n (omega arith), bound_rises-one (i + n) (omega arith)))

pub bound_rises : (i j : ℕ) → i ≤ j → j < 14 → bound_at i ≤ bound_at j
bound_rises i j le lt =
    let same : i + (j - i) ≡ j = omega arith in
    let grows = bound_rises-by i (j - i) (omega arith) in
    rw same at grows

-- the class of a value tells which lanes hold it
pub class_is : (value class k : ℕ) → class < 14 → k < 24 → (class ≡ 0) ⊎ (bound_at (class - 1) < value) → value ≤ bound_at class →
    leb value (greatest_of (lane_table k)) ≡ leb class (lane_class k)
class_is value class k lt lk above within =
    let own = greatest_is k lk in
    elim (cases_lt (lane_class k) class) [
      | inl less ↦
          (let beyond : bound_at (lane_class k) < value = elim above [
            | inl none ↦ absurd (omega arith)
            | inr over ↦ omega (arith, over, bound_rises (lane_class k) (class - 1) (omega arith) (omega arith))
          ] in
          rw own (lt-leb value (bound_at (lane_class k)) beyond ∙ sym (lt-leb class (lane_class k) less)))
      | inr more ↦
          (let held : value ≤ bound_at (lane_class k) = omega (arith, bound_rises class (lane_class k) more (lane_class-lt k lk)) in
          rw own (le-leb value (bound_at (lane_class k)) held ∙ sym (le-leb class (lane_class k) more)))
    ]

-- ---- counting bounds

-- so many of the first bounds are less than a value, and they come first
pub record AreLess (value class k : ℕ) : Type 0 where
  pub within : class ≤ k
  pub less : (j : ℕ) → j < class → bound_at j < value
  pub others : (j : ℕ) → class ≤ j → j < k → value ≤ bound_at j

-- one bound more
pub AreLess-more : (value class k n : ℕ) → k < 14 → AreLess value class k → (bound_at k < value → n ≡ 1) → (value ≤ bound_at k → n ≡ 0) → AreLess value (class + n) (k + 1)
AreLess-more value class k n lt is one none = elim (cases_lt (bound_at k) value) [
  | inl over ↦
      (let more = one over in
      let all : class ≡ k = elim (cases_lt class k) [
        | inl early ↦ absurd (omega (arith, over, is.others class (omega arith) early, bound_rises class k is.within lt))
        | inr same ↦ omega (arith, is.within, same)
      ] in
      record {
        within = omega (arith, more, all);
        less = λ j before. elim (cases_lt j class) [
          | inl front ↦ is.less j front
          | inr here ↦ (let e : bound_at j ≡ bound_at k = ap bound_at (omega (arith, before, here, all, more)) in omega (arith, e, over))
        ];
        others = λ j from to. absurd (omega (arith, from, to, all, more));
      })
  | inr held ↦
      (let same = none held in
      record {
        within = omega (arith, same, is.within);
        less = λ j before. is.less j (omega (arith, before, same));
        others = λ j from to. elim (cases_lt j k) [
          | inl front ↦ is.others j (omega (arith, from, same)) front
          | inr here ↦ (let e : bound_at j ≡ bound_at k = ap bound_at (omega (arith, here, to)) in omega (arith, e, held))
        ];
      })
]

-- the number of bounds below a value is its class; the last one is never less
pub class_by_count : (value class k : ℕ) → value ≤ 8191 → AreLess value class 13 → k < 24 → leb value (greatest_of (lane_table k)) ≡ leb class (lane_class k)
class_by_count value class k small is lt =
    let within : value ≤ bound_at class = elim (cases_lt class 13) [
      | inl early ↦ is.others class (omega arith) early
      | inr last ↦ (let e : bound_at class ≡ bound_at 13 = ap bound_at (omega (arith, is.within, last)) in omega (arith, e, bound_last, small))
    ] in
    let above : (class ≡ 0) ⊎ (bound_at (class - 1) < value) = elim (cases_lt 0 class) [
      | inl some ↦ inr (is.less (class - 1) (omega (arith, some)))
      | inr none ↦ inl (omega (arith, none))
    ] in
    class_is value class k (omega (arith, is.within)) lt above within
