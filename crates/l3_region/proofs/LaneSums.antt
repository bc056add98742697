-- Sums of lanes that are enough for the choice.
use Rattle.std.proofs.Common.{◌≡◌, ◌≢◌, ℕ, zero, suc, ◌+◌, ◌*◌, ◌/◌, ◌<◌, ◌≤◌, ◌⊎◌, List, get_or, sym, ap, ◌∙◌, arith, inl, inr, [], length, replicate}
use Rattle.std.specs.Prelude.{ℤ, min}
use Rattle.std.proofs.lemmas.Bool.{cases_lt}
use Rattle.std.proofs.lemmas.List.{get_or-replicate, get_or_past}
use Rattle.l3_base.specs.Bands.{edge_at}
use Rattle.l3_base.proofs.Edges.{edge_order}
use Rattle.l3_region.specs.Lanes.{AreKept, AreLaneSums, AreLongSums, AreSums, LinbitsGrow, NeedLinbits, cell_at, class_from, extra_of, lane_class, lane_sum, pairs_at, rows_of, short_sum, sum_at}
use Rattle.l3_region.proofs.Kept.{kept_from, lane_of-long, lane_of-short, lane_sum-is, long_small, rows_from, short_rises, short_sum-le, sum_at-is}
use Rattle.l3_region.proofs.LaneLemmas.{class_from-front, class_from-lt, lane_sum-le, lane_sum-linbits, lane_sum-rises, lane_sum-zero}
use Rattle.l3_region.proofs.Tables.{lane_class-short}

-- the pairs before the line where a band begins
abbrev pub before : ℕ → ℕ → ℕ → ℕ
before rate end b = min (edge_at rate b) end / 2

-- sums of nothing
pub none_here : (sums : List (List ℕ)) → sums ≡ replicate 16 (replicate 32 0) → (length sums ≡ 16) × ((t : ℕ) → t < 16 → length (get_or sums t []) ≡ 32)
none_here sums is = (ap length is, λ t lt. ap (λ s. length (get_or s t [])) is ∙ ap length (get_or-replicate 16 t (replicate 32 0) [] lt))

zeros_at : (b : ℕ) → get_or {A = ℕ} (replicate 32 0) b 0 ≡ 0
zeros_at b = elim (cases_lt b 32) [
  | inl lt ↦ get_or-replicate 32 b 0 0 lt
  | inr past ↦ get_or_past (replicate 32 0) b 0 past
]

pub none_cells : (sums : List (List ℕ)) → sums ≡ replicate 16 (replicate 32 0) → (t b : ℕ) → t < 16 → cell_at sums t b ≡ 0
none_cells sums is t b lt =
    let row : get_or sums t [] ≡ replicate 32 0 = ap (λ s. get_or s t []) is ∙ get_or-replicate 16 t (replicate 32 0) [] lt in
    ap (λ r. get_or r b 0) row ∙ zeros_at b

-- ---- each lane is summed, or is one without linbits and has zeros

abbrev pub IsSummedOrNone : List ℤ → ℕ → ℕ → List (List ℕ) → ℕ → Type 0
IsSummedOrNone q rate end rows k =
    ((b : ℕ) → b < 23 → sum_at rows b k ≡ lane_sum q k (before rate end b)) ⊎ ((k < 12) × ((b : ℕ) → b < 23 → sum_at rows b k ≡ 0))

pub sums_ready : (q : List ℤ) (rate end : ℕ) (rows : List (List ℕ)) (classes : List ℕ) → rate < 3 → end ≤ 576 → ((b : ℕ) → b < 22 → get_or classes b 0 < 14) →
    ((k : ℕ) → k < 24 → IsSummedOrNone q rate end rows k) → AreSums rows classes
unfolding LinbitsGrow
sums_ready q rate end rows classes lt within few lanes = record {
  rising = λ i j k le small lk. elim (lanes k lk) [
    | inl sums ↦ omega (arith, sums i (omega arith), sums j (omega arith), lane_sum-rises q k (before rate end i) (before rate end j) (omega (arith, edge_order rate i j lt le (omega arith))))
    | inr none ↦ omega (arith, none.1 i (omega arith))
  ];
  small = λ i k small lk. elim (lanes k lk) [
    | inl sums ↦ omega (arith, sums i (omega arith), within, lane_sum-le q k (before rate end i) lk)
    | inr none ↦ omega (arith, none.1 i (omega arith))
  ];
  zero_bits = λ i le. elim (lanes 0 (omega arith)) [
    | inl sums ↦ sums i (omega arith) ∙ lane_sum-zero q (before rate end i)
    | inr none ↦ none.1 i (omega arith)
  ];
  linbits = λ i j le small k l from order ll. elim (lanes k (omega arith)) [
    | inl first ↦ elim (lanes l ll) [
      | inl second ↦
          omega (
            arith,
            first i (omega arith),
            second i (omega arith),
            first j (omega arith),
            second j (omega arith),
            lane_sum-linbits q k l (before rate end i) (before rate end j) from order ll (omega (arith, edge_order rate i j lt le (omega arith))),
          )
      | inr none ↦ absurd (omega (arith, none.0, from, order))
    ]
    | inr none ↦ absurd (omega (arith, none.0, from))
  ];
  classed = λ i n le. class_from-lt classes i n (λ b small. few b (omega arith));
}

-- ---- the lanes with linbits

cases_long : (t : ℕ) → ((12 ≤ t) × (t < 14)) ⊎ ((t ≢ 12) × (t ≢ 13))
cases_long t = elim (cases_lt t 12) [
  | inl low ↦ inr (omega arith, omega arith)
  | inr over ↦ elim (cases_lt t 14) [
    | inl both ↦ inl (over, both)
    | inr high ↦ inr (omega arith, omega arith)
  ]
]

kept_long : (lines : List ℤ) (rate end : ℕ) (sums : List (List ℕ)) → rate < 3 → end ≤ 576 → AreLongSums lines rate end sums → AreKept sums
kept_long lines rate end sums lt within is = record {
  lanes = is.lanes;
  edges = is.edges;
  rising = λ t i j small le few. elim (cases_long t) [
    | inl long ↦
        omega (
          arith,
          is.summed t i long.0 long.1 (omega arith),
          is.summed t j long.0 long.1 few,
          short_rises lines t (pairs_at rate end i) (pairs_at rate end j) (omega (arith, edge_order rate (min i 22) (min j 22) lt (omega arith) (omega arith))),
        )
    | inr other ↦ omega (arith, is.zeros t i small other.0 other.1)
  ];
  small = λ t b small few. elim (cases_long t) [
    | inl long ↦ omega (arith, within, is.summed t b long.0 long.1 few, short_sum-le lines t (pairs_at rate end b) small)
    | inr other ↦ omega (arith, is.zeros t b small other.0 other.1)
  ];
  linbits = λ b few. omega (arith, is.summed 12 b (omega arith) (omega arith) few, is.summed 13 b (omega arith) (omega arith) few, long_small lines (pairs_at rate end b) (omega (arith, within)));
}

rows_long : (lines : List ℤ) (rate end : ℕ) (sums : List (List ℕ)) → AreLongSums lines rate end sums → (b k : ℕ) → b < 23 → 12 ≤ k → k < 24 → sum_at (rows_of sums) b k ≡ lane_sum lines k (before rate end b)
rows_long lines rate end sums is b k lb from lk =
    let n = pairs_at rate end b in
    let same : min b 22 ≡ b = omega arith in
    let x = is.summed 12 b (omega arith) (omega arith) (omega arith) in
    let y = is.summed 13 b (omega arith) (omega arith) (omega arith) in
    let row = sum_at-is sums b k lb lk ∙ lane_of-long (λ t. cell_at sums t b) k from in
    let sum = lane_sum-is lines k n ∙ lane_of-long (λ t. short_sum lines t n) k from in
    let f : ℕ → ℕ → ℕ = λ u v. u + extra_of (lane_class k) * v in
    row ∙ (ap (λ u. f u (cell_at sums 13 b)) x ∙ (ap (f (short_sum lines 12 n)) y ∙ (sym sum ∙ ap (λ i. lane_sum lines k (before rate end i)) same)))

zeros_long : (lines : List ℤ) (rate end : ℕ) (sums : List (List ℕ)) → AreLongSums lines rate end sums → (b k : ℕ) → b < 23 → k < 12 → sum_at (rows_of sums) b k ≡ 0
zeros_long lines rate end sums is b k lb lt =
    sum_at-is sums b k lb (omega arith) ∙ (lane_of-short (λ t. cell_at sums t b) k lt ∙ is.zeros k b (omega arith) (omega arith) (omega arith))

-- where a lane without linbits holds bands, there are no pairs in them
none_between : (rate end i n k : ℕ) (classes : List ℕ) → rate < 3 → NeedLinbits rate end classes → i + n ≤ 22 → k < 12 → class_from classes i n ≤ lane_class k → before rate end (i + n) ≡ before rate end i
none_between rate end i zero k classes lt need within short held = let same : i + 0 ≡ i = omega arith in ap (before rate end) same
none_between rate end i (suc n) k classes lt need within short held =
    let one : suc n ≡ n + 1 = omega arith in
    let first = class_from-front classes i n in
    let class : class_from classes i (suc n) ≡ class_from classes i (n + 1) = ap (class_from classes i) one in
    let low : get_or classes i 0 ≤ 5 = omega (arith, first, class, held, lane_class-short k short) in
    elim (cases_lt (edge_at rate i) end) [
      | inl starts ↦ absurd (omega (arith, low, need i (omega arith) starts))
      | inr ends ↦ omega (arith, ends, edge_order rate i (i + suc n) lt (omega arith) (omega arith))
    ]

-- ---- both

pub kept_lanes : (lines : List ℤ) (rate end : ℕ) (classes : List ℕ) (sums : List (List ℕ)) → rate < 3 → end ≤ 576 → AreLaneSums lines rate end classes sums → AreKept sums
kept_lanes lines rate end classes sums lt within is = elim is [
  | inl all ↦ kept_from lines rate end sums lt within all.lanes all.edges all.summed
  | inr long ↦ kept_long lines rate end sums lt within long.1
]

pub ready_lanes : (lines : List ℤ) (rate end : ℕ) (classes : List ℕ) (sums : List (List ℕ)) → rate < 3 → end ≤ 576 → ((b : ℕ) → b < 22 → get_or classes b 0 < 14) → AreLaneSums lines rate end classes sums →
    AreSums (rows_of sums) classes
ready_lanes lines rate end classes sums lt within few is = elim is [
  | inl all ↦ sums_ready lines rate end (rows_of sums) classes lt within few (λ k lk. inl (λ b lb. rows_from lines rate end sums all.summed b k lb lk))
  | inr long ↦ sums_ready lines rate end (rows_of sums) classes lt within few (λ k lk. elim (cases_lt k 12) [
    | inl short ↦ inr (short, λ b lb. zeros_long lines rate end sums long.1 b k lb short)
    | inr from ↦ inl (λ b lb. rows_long lines rate end sums long.1 b k lb from lk)
  ])
]

-- between two bands the sums of a lane that holds them grow by their bits
pub grow_lanes : (lines : List ℤ) (rate end : ℕ) (classes : List ℕ) (sums : List (List ℕ)) → rate < 3 → AreLaneSums lines rate end classes sums →
    (i n k : ℕ) → i + n ≤ 22 → k < 24 → class_from classes i n ≤ lane_class k →
    sum_at (rows_of sums) (i + n) k + lane_sum lines k (before rate end i) ≡ sum_at (rows_of sums) i k + lane_sum lines k (before rate end (i + n))
grow_lanes lines rate end classes sums lt is i n k le lk held = elim is [
  | inl all ↦ omega (arith, rows_from lines rate end sums all.summed i k (omega arith) lk, rows_from lines rate end sums all.summed (i + n) k (omega arith) lk)
  | inr long ↦ elim (cases_lt k 12) [
    | inl short ↦
        omega (
          arith,
          zeros_long lines rate end sums long.1 i k (omega arith) short,
          zeros_long lines rate end sums long.1 (i + n) k (omega arith) short,
          ap (lane_sum lines k) (none_between rate end i n k classes lt long.0 le short held),
        )
    | inr from ↦ omega (arith, rows_long lines rate end sums long.1 i k (omega arith) from lk, rows_long lines rate end sums long.1 (i + n) k (omega arith) from lk)
  ]
]
