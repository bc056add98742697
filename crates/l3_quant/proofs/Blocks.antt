-- The tables of the values that blocks begin with.
use Rattle.std.proofs.Common.{◌≡◌, ℕ, zero, suc, ◌+◌, ◌-◌, ◌*◌, ◌/◌, ◌<◌, ◌≤◌, true, Bool, ◌&&◌, leb, ltb, List, [], ◌∷◌, length, get_or, drop, refl, sym, ap, ◌∙◌, subst, arith}
use Rattle.std.specs.List.{list_all}
use Rattle.std.proofs.lemmas.List.{get_or-drop}
use Rattle.std.proofs.lemmas.Bool.{and_parts, leb-true, ltb-true}
use Rattle.l3_quant.specs.declared.thresholds.TheConstants.{THRESHOLDS, FIRST, MIDDLE}
use Rattle.l3_quant.specs.Quantiser.{greatest_reached}
use Rattle.l3_quant.specs.Thresholds.{threshold_at, low_at, middle_at}
use Rattle.l3_quant.proofs.Entries.{between_is}

pub record IsBlock (low high n : ℕ) : Type 0 where
  pub begins : threshold_at n ≤ low
  pub ends : high ≤ threshold_at (n + 2)
  pub small : n < 1000

-- the thresholds from the one of n on
record AreFrom (n : ℕ) (ys : List ℕ) : Type 0 where
  pub at : (i : ℕ) → get_or ys i 0 ≡ threshold_at (n + i)

-- block b has one threshold at most above the one of n, the first of the thresholds here
abbrev block_test : ℕ → ℕ → ℕ → ℕ → List ℕ → Bool
block_test limit width b n ys = leb (get_or ys 0 0) (width * b) && (leb (width * (b + 1)) (get_or ys 2 0) && ltb n limit)

-- the test of each block, from block b on: one walk along both tables, with the thresholds from the
-- one of n on
abbrev blocks_from : ℕ → ℕ → ℕ → ℕ → List ℕ → List ℕ → Bool
blocks_from limit width b n ys [] = true
blocks_from limit width b n ys (m ∷ ms) =
    leb n m && (block_test limit width b m (drop (m - n) ys) && blocks_from limit width (b + 1) m (drop (m - n) ys) ms)

-- further along the table
further : (n m : ℕ) (ys : List ℕ) → n ≤ m → AreFrom n ys → AreFrom m (drop (m - n) ys)
further n m ys le from =
    record {
      at = λ i.
          let same : n + (m - n + i) ≡ m + i = omega arith in
          get_or-drop (m - n) ys i 0 ∙ (from.at (m - n + i) ∙ ap threshold_at same);
    }

-- what one test says
tested : (limit width b n : ℕ) (ys : List ℕ) → limit ≤ 1000 → AreFrom n ys → block_test limit width b n ys ≡ true → IsBlock (width * b) (width * (b + 1)) n × (n < limit)
tested limit width b n ys le from t =
    let p = and_parts (leb (get_or ys 0 0) (width * b)) (leb (width * (b + 1)) (get_or ys 2 0) && ltb n limit) t in
    let q = and_parts (leb (width * (b + 1)) (get_or ys 2 0)) (ltb n limit) p.1 in
    let none : n + 0 ≡ n = omega arith in
    let here : get_or ys 0 0 ≡ threshold_at n = from.at 0 ∙ ap threshold_at none in
    let below : n < limit = ltb-true _ _ q.1 in
    (record { begins = rw (← here) (leb-true _ _ p.0); ends = rw (← from.at 2) (leb-true _ _ q.0); small = omega arith }, below)

-- what the walk says of each block
blocks_at : (limit width b n k place : ℕ) (ys ms : List ℕ) → limit ≤ 1000 → AreFrom n ys → blocks_from limit width b n ys ms ≡ true → k < length ms → b + k ≡ place → IsBlock (width * place) (width * (place + 1)) (get_or ms k 0) × (get_or ms k 0 < limit)
blocks_at limit width b n k place ys [] le from t lt same = absurd (omega arith)
blocks_at limit width b n zero place ys (m ∷ ms) le from t lt same =
    let here : b ≡ place = omega arith in
    let p = and_parts (leb n m) (block_test limit width b m (drop (m - n) ys) && blocks_from limit width (b + 1) m (drop (m - n) ys) ms) t in
    let q = and_parts (block_test limit width b m (drop (m - n) ys)) (blocks_from limit width (b + 1) m (drop (m - n) ys) ms) p.1 in
    let P : ℕ → Type 0 = λ c. IsBlock (width * c) (width * (c + 1)) m × (m < limit) in
    subst P here (tested limit width b m (drop (m - n) ys) le (further n m ys (leb-true _ _ p.0) from) q.0)
blocks_at limit width b n (suc k) place ys (m ∷ ms) le from t lt same =
    let p = and_parts (leb n m) (block_test limit width b m (drop (m - n) ys) && blocks_from limit width (b + 1) m (drop (m - n) ys) ms) t in
    let q = and_parts (block_test limit width b m (drop (m - n) ys)) (blocks_from limit width (b + 1) m (drop (m - n) ys) ms) p.1 in
    blocks_at limit width (b + 1) m k place (drop (m - n) ys) ms le (further n m ys (leb-true _ _ p.0) from) q.1 (omega arith) (omega arith)

-- the table from its first entry on
from_first : (ys : List ℕ) → ((i : ℕ) → threshold_at i ≡ get_or ys i 0) → AreFrom 0 ys
from_first ys are = record { at = λ i. let same : i ≡ 0 + i = omega arith in sym (are i) ∙ ap threshold_at same }

-- the walk begins at the first threshold
all_thresholds : AreFrom 0 THRESHOLDS
unfolding threshold_at
all_thresholds = from_first THRESHOLDS (λ i. refl)

pub first_is : (b : ℕ) → b < 256 → IsBlock (1024 * b) (1024 * (b + 1)) (low_at b) × (low_at b < 100)
unfolding low_at
first_is b lt = blocks_at 100 1024 0 0 b b THRESHOLDS FIRST (omega arith) all_thresholds refl lt (omega arith)

-- of the blocks of 8192 from number 32 on
middle_blocks : (b : ℕ) → b < 2016 → IsBlock (8192 * (b + 32)) (8192 * (b + 32 + 1)) (get_or (drop 32 MIDDLE) b 0) × (get_or (drop 32 MIDDLE) b 0 < 1000)
middle_blocks b lt = blocks_at 1000 8192 32 0 b (b + 32) THRESHOLDS (drop 32 MIDDLE) (omega arith) all_thresholds refl lt (omega arith)

-- the same by the block's own number
middle_from : (b : ℕ) → 32 ≤ b → b < 2048 → IsBlock (8192 * b) (8192 * (b + 1)) (middle_at b)
unfolding middle_at
middle_from b low high =
    let back : b - 32 + 32 ≡ b = omega arith in
    let front : 32 + (b - 32) ≡ b = omega arith in
    let P : ℕ → ℕ → Type 0 = λ c m. IsBlock (8192 * c) (8192 * (c + 1)) m in
    subst (P b) (get_or-drop 32 MIDDLE (b - 32) 0 ∙ ap middle_at front) (subst (λ c. P c (get_or (drop 32 MIDDLE) (b - 32) 0)) back (middle_blocks (b - 32) (omega arith)).0)

-- the value of y's block is the greatest, or the next one is
pub block_greatest : (low high y n : ℕ) → IsBlock low high n → low ≤ y → y < high → y < threshold_at (n + 1) → greatest_reached y ≡ n
block_greatest low high y n block from to under = between_is n y (omega (arith, block.small)) (omega (arith, block.begins)) under

pub block_next : (low high y n : ℕ) → IsBlock low high n → low ≤ y → y < high → threshold_at (n + 1) ≤ y → greatest_reached y ≡ n + 1
block_next low high y n block from to over =
    let twice : n + 2 ≡ n + 1 + 1 = omega arith in
    let ends : high ≤ threshold_at (n + 1 + 1) = (let R : ℕ → Type 0 = λ m. high ≤ threshold_at m in subst R twice block.ends) in
    between_is (n + 1) y (omega (arith, block.small)) over (omega (arith, ends))

-- the block of a number
pub first_of : (y n : ℕ) → y < 262144 → n ≡ low_at (y / 1024) → IsBlock (1024 * (y / 1024)) (1024 * (y / 1024 + 1)) n
first_of y n small same =
    let P : ℕ → Type 0 = λ m. IsBlock (1024 * (y / 1024)) (1024 * (y / 1024 + 1)) m in
    subst P (sym same) (first_is (y / 1024) (omega arith)).0

pub middle_of : (y n : ℕ) → 262144 ≤ y → y < 16777216 → n ≡ middle_at (y / 8192) → IsBlock (8192 * (y / 8192)) (8192 * (y / 8192 + 1)) n
middle_of y n low high same =
    let P : ℕ → Type 0 = λ m. IsBlock (8192 * (y / 8192)) (8192 * (y / 8192 + 1)) m in
    subst P (sym same) (middle_from (y / 8192) (omega arith) (omega arith))

-- where all of a list is below a limit, each of its numbers is
below_all : (limit k : ℕ) (ms : List ℕ) → list_all (λ m. ltb m limit) ms ≡ true → k < length ms → get_or ms k 0 < limit
below_all limit k [] t lt = absurd (omega arith)
below_all limit zero (m ∷ ms) t lt = ltb-true _ _ (and_parts (ltb m limit) (list_all (λ i. ltb i limit) ms) t).0
below_all limit (suc k) (m ∷ ms) t lt = below_all limit k ms (and_parts (ltb m limit) (list_all (λ i. ltb i limit) ms) t).1 (omega arith)

pub middle_small : (b : ℕ) → b < 2048 → middle_at b < 1000
unfolding middle_at
middle_small b lt = below_all 1000 b MIDDLE refl lt
