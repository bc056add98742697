-- The table of the values that the blocks from 2^24 on begin with.
use Rattle.std.proofs.Common.{◌≡◌, ℕ, zero, suc, ◌+◌, ◌-◌, ◌*◌, ◌/◌, ◌^◌, ◌<◌, ◌≤◌, true, Bool, List, [], ◌∷◌, length, get_or, ◌&&◌, ◌||◌, ◌⊎◌, leb, ltb, refl, sym, subst, arith, inl, inr}
use Rattle.std.proofs.Math.Nat.{pow-le-pow_left}
use Rattle.std.proofs.lemmas.Bool.{and_parts, or_cases, cases_lt, leb-true, ltb-true}
use Rattle.l3_quant.specs.declared.thresholds.TheConstants.{HIGH}
use Rattle.l3_quant.specs.Thresholds.{threshold_at, high_at}
use Rattle.l3_quant.proofs.Powers.{Passes}
use Rattle.l3_quant.proofs.Entries.{threshold_is, above_is}

-- the first number of block b passes n, and the last one does not pass n + 16, or n is the last
-- that has 16 behind it
abbrev high_test : ℕ → ℕ → Bool
high_test b n =
    leb ((32 * n - 13) ^ 4 * 2 ^ 16) ((16777216 + 524288 * b) ^ 3) && ((leb 8176 n || ltb ((16777215 + 524288 * (b + 1)) ^ 3) ((32 * (n + 16) - 13) ^ 4 * 2 ^ 16)) && leb n 8176)

-- the test of each entry, from block b on
abbrev high_from : ℕ → List ℕ → Bool
high_from b [] = true
high_from b (n ∷ ns) = high_test b n && high_from (b + 1) ns

record IsHighBlock (b n : ℕ) : Type 0 where
  pub begins : Passes (16777216 + 524288 * b) n
  pub ends : (8176 ≤ n) ⊎ ((16777215 + 524288 * (b + 1)) ^ 3 < (32 * (n + 16) - 13) ^ 4 * 2 ^ 16)
  pub room : n ≤ 8176

tested : (b n : ℕ) → high_test b n ≡ true → IsHighBlock b n
tested b n t =
    let p = and_parts (leb ((32 * n - 13) ^ 4 * 2 ^ 16) ((16777216 + 524288 * b) ^ 3)) ((leb 8176 n || ltb ((16777215 + 524288 * (b + 1)) ^ 3) ((32 * (n + 16) - 13) ^ 4 * 2 ^ 16)) && leb n 8176) t in
    let q = and_parts (leb 8176 n || ltb ((16777215 + 524288 * (b + 1)) ^ 3) ((32 * (n + 16) - 13) ^ 4 * 2 ^ 16)) (leb n 8176) p.1 in
    record {
      begins = leb-true _ _ p.0;
      ends = elim (or_cases (leb 8176 n) (ltb ((16777215 + 524288 * (b + 1)) ^ 3) ((32 * (n + 16) - 13) ^ 4 * 2 ^ 16)) q.0) [
        | inl last ↦ inl (leb-true _ _ last)
        | inr below ↦ inr (ltb-true _ _ below)
      ];
      room = leb-true _ _ q.1;
    }

high_blocks : (b i : ℕ) (ns : List ℕ) → high_from b ns ≡ true → i < length ns → IsHighBlock (b + i) (get_or ns i 0)
high_blocks b i [] h lt = absurd (omega arith)
high_blocks b zero (n ∷ ns) h lt =
    let P : ℕ → Type 0 = λ m. IsHighBlock m n in
    let same : b ≡ b + 0 = omega arith in
    subst P same (tested b n (and_parts (high_test b n) (high_from (b + 1) ns) h).0)
high_blocks b (suc i) (n ∷ ns) h lt =
    let P : ℕ → Type 0 = λ m. IsHighBlock m (get_or ns i 0) in
    let same : b + 1 + i ≡ b + suc i = omega arith in
    subst P same (high_blocks (b + 1) i ns (and_parts (high_test b n) (high_from (b + 1) ns) h).1 (omega arith))

-- the same from block 0 on
high_all : (i : ℕ) (ns : List ℕ) → high_from 0 ns ≡ true → i < length ns → IsHighBlock i (get_or ns i 0)
high_all i ns h lt =
    let P : ℕ → Type 0 = λ m. IsHighBlock m (get_or ns i 0) in
    let same : 0 + i ≡ i = omega arith in
    subst P same (high_blocks 0 i ns h lt)

high_is : (b : ℕ) → b < 1259 → IsHighBlock b (high_at b)
unfolding high_at
high_is b lt = high_all b HIGH refl lt

pub last_threshold : threshold_at 8192 ≡ 676370238
unfolding threshold_at
last_threshold = refl

-- y is at the threshold of n or above, and below the one of n + 16
pub record IsWithin (y n : ℕ) : Type 0 where
  pub begins : threshold_at n ≤ y
  pub ends : y < threshold_at (n + 16)
  pub room : n + 16 ≤ 8192

within : (b y n : ℕ) → IsHighBlock b n → 16777216 + 524288 * b ≤ y → y < 16777216 + 524288 * (b + 1) → y < threshold_at 8192 → IsWithin y n
within b y n block from to under =
    let least : threshold_at n ≤ 16777216 + 524288 * b = (threshold_is n (omega (arith, block.room))).least (16777216 + 524288 * b) (inr block.begins) in
    record {
      begins = omega (arith, least);
      ends = elim (cases_lt y (threshold_at (n + 16))) [
        | inl lt ↦ lt
        | inr le ↦ elim block.ends [
          | inl last ↦
              (let same : n + 16 ≡ 8192 = omega (arith, last, block.room) in
              let R : ℕ → Type 0 = λ m. y < threshold_at m in
              subst R (sym same) under)
          | inr below ↦
              (let cube : y ^ 3 ≤ (16777215 + 524288 * (b + 1)) ^ 3 = pow-le-pow_left (omega arith) 3 in
              let p : Passes y (n + 16) = above_is (n + 16) y (omega (arith, block.room)) le in
              absurd (omega (arith, cube, p, below)))
        ]
      ];
      room = omega (arith, block.room);
    }

pub high_of : (y n : ℕ) → 16777216 ≤ y → y < threshold_at 8192 → n ≡ high_at ((y - 16777216) / 524288) → IsWithin y n
high_of y n low under same =
    let P : ℕ → Type 0 = λ m. IsWithin y m in
    subst P (sym same) (within ((y - 16777216) / 524288) y (high_at ((y - 16777216) / 524288)) (high_is ((y - 16777216) / 524288) (omega (arith, last_threshold))) (omega arith) (omega arith) under)
