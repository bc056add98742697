-- Stretches of pairs that have one table, and quadruples: their
-- codes are as long as the bits that are counted for them.
use Rattle.std.proofs.Common.{◌≡◌, ℕ, zero, suc, ◌+◌, ◌*◌, ◌<◌, ◌≤◌, List, [], ◌∷◌, ◌++◌, length, refl, ap, subst, arith, length-append}
use Rattle.std.specs.Prelude.{ℤ, All, unsigned_abs}
use Rattle.l3_huff.specs.declared.quads.QuadTable.{QuadTable}
use Rattle.l3_huff.specs.Tables.{greatest_of}
use Rattle.l3_huff.specs.Codes.{pair_code_of, quad_code_of}
use Rattle.l3_region.specs.Regions.{pair_bits_in, quad_bits_in}
use Rattle.l3_region.specs.Laws.{HoldsAll}
use Rattle.l3_stream.specs.Units.{pairs_code, PairsHold, quads_code, QuadsHold}

-- pairs from a line on are held by their tables, and their codes have so many bits
pub record ArePairs (table : ℕ → ℕ) (at : ℕ) (xs : List ℤ) (bits : ℕ) : Type 0 where
  pub counted : length (pairs_code table at xs) ≡ bits
  pub held : PairsHold table at xs

-- one table for all lines of a stretch
abbrev pub HasTable : (ℕ → ℕ) → ℕ → ℕ → ℕ → Type 0
HasTable table from to t = (line : ℕ) → from ≤ line → line < to → table line ≡ t

same_pair : (table : ℕ → ℕ) (t at : ℕ) (x y : ℤ) → table at ≡ t → length (pair_code_of (table at) x y) ≡ length (pair_code_of t x y)
same_pair table t at x y e = ap (λ k. length (pair_code_of k x y)) e

pub pairs_in_table : (table : ℕ → ℕ) (t at k to : ℕ) (xs : List ℤ) → length xs ≡ 2 * k → at + 2 * k ≤ to → HasTable table at to t → HoldsAll t xs →
    ArePairs table at xs (pair_bits_in t xs)
unfolding pairs_code PairsHold pair_bits_in
pairs_in_table table t at k to [] even within same holds = record { counted = refl; held = tt }
pairs_in_table table t at k to (x ∷ []) even within same holds = absurd (omega arith)
pairs_in_table table t at zero to (x ∷ y ∷ xs) even within same holds = absurd (omega arith)
pairs_in_table table t at (suc k) to (x ∷ y ∷ xs) even within same holds =
    let here : table at ≡ t = same at (omega arith) (omega arith) in
    let is = holds.table_is in
    let first : unsigned_abs x ≤ greatest_of t = holds.held 0 x (omega arith) in
    let second : unsigned_abs y ≤ greatest_of t = holds.held 1 x (omega arith) in
    let more : ArePairs table (at + 2) xs (pair_bits_in t xs) =
    pairs_in_table table t (at + 2) k to xs (omega arith) (omega arith) (λ line from lt. same line (omega arith) lt) (record {
      table_is = is;
      held = λ i d lt. holds.held (suc (suc i)) d (omega arith);
    }) in
    let counts = more.counted in
    record {
      counted = omega (arith, counts, same_pair table t at x y here, length-append (pair_code_of (table at) x y) (pairs_code table (at + 2) xs));
      held = (rw here ((is, first), (is, second)), more.held);
    }

pub pairs_joined : (table : ℕ → ℕ) (at k next : ℕ) (xs ys : List ℤ) (a b : ℕ) → length xs ≡ 2 * k → next ≡ at + 2 * k → ArePairs table at xs a → ArePairs table next ys b →
    ArePairs table at (xs ++ ys) (a + b)
unfolding pairs_code PairsHold
pairs_joined table at zero next [] ys a b even place one two =
    let here : next ≡ at = omega arith in
    let counts = one.counted in
    let later : ArePairs table at ys b = subst (λ n. ArePairs table n ys b) here two in
    let more = later.counted in
    record { counted = omega arith; held = later.held }
pairs_joined table at (suc k) next [] ys a b even place one two = absurd (omega arith)
pairs_joined table at k next (x ∷ []) ys a b even place one two = absurd (omega arith)
pairs_joined table at zero next (x ∷ y ∷ xs) ys a b even place one two = absurd (omega arith)
pairs_joined table at (suc k) next (x ∷ y ∷ xs) ys a b even place one two =
    let code = pair_code_of (table at) x y in
    let rest = length (pairs_code table (at + 2) xs) in
    let held = one.held in
    let tail : ArePairs table (at + 2) xs rest = record { counted = refl; held = held.1 } in
    let more : ArePairs table (at + 2) (xs ++ ys) (rest + b) = pairs_joined table (at + 2) k next xs ys rest b (omega arith) (omega arith) tail two in
    let counts = one.counted in
    let sum = more.counted in
    record {
      counted = omega (arith, counts, sum, length-append code (pairs_code table (at + 2) xs), length-append code (pairs_code table (at + 2) (xs ++ ys)));
      held = (held.0, more.held);
    }

-- quadruples of at most 1 are held, and their codes have the bits that are counted
pub record AreQuads (table : QuadTable) (xs : List ℤ) : Type 0 where
  pub counted : length (quads_code table xs) ≡ quad_bits_in table xs
  pub held : QuadsHold xs

pub quads_of_ones : (table : QuadTable) (k : ℕ) (xs : List ℤ) → length xs ≡ 4 * k → All (λ x. unsigned_abs x ≤ 1) xs → AreQuads table xs
unfolding quads_code QuadsHold quad_bits_in
quads_of_ones table k [] even ones = record { counted = refl; held = tt }
quads_of_ones table k (v ∷ []) even ones = absurd (omega arith)
quads_of_ones table k (v ∷ w ∷ []) even ones = absurd (omega arith)
quads_of_ones table k (v ∷ w ∷ x ∷ []) even ones = absurd (omega arith)
quads_of_ones table zero (v ∷ w ∷ x ∷ y ∷ xs) even ones = absurd (omega arith)
quads_of_ones table (suc k) (v ∷ w ∷ x ∷ y ∷ xs) even ones =
    let quad = v ∷ w ∷ x ∷ y ∷ [] in
    let more : AreQuads table xs = quads_of_ones table k xs (omega arith) (λ i d lt. ones (suc (suc (suc (suc i)))) d (omega arith)) in
    let counts = more.counted in
    record {
      counted = omega (arith, counts, length-append (quad_code_of table quad) (quads_code table xs));
      held = ((refl, four_ones v w x y (ones 0 v (omega arith)) (ones 1 v (omega arith)) (ones 2 v (omega arith)) (ones 3 v (omega arith))), more.held);
    }
  where
    four_ones : (v w x y : ℤ) → unsigned_abs v ≤ 1 → unsigned_abs w ≤ 1 → unsigned_abs x ≤ 1 → unsigned_abs y ≤ 1 → All (λ z. unsigned_abs z ≤ 1) (v ∷ w ∷ x ∷ y ∷ [])
    four_ones v w x y a b c d zero e lt = a
    four_ones v w x y a b c d (suc zero) e lt = b
    four_ones v w x y a b c d (suc (suc zero)) e lt = c
    four_ones v w x y a b c d (suc (suc (suc zero))) e lt = d
    four_ones v w x y a b c d (suc (suc (suc (suc i)))) e lt = absurd (omega arith)
