-- Planes that are filled in and counted.
use Rattle.std.proofs.Common.{◌≡◌, ◌↔◌, ℕ, zero, suc, ◌+◌, ◌-◌, ◌*◌, ◌/◌, ◌%◌, ◌<◌, ◌≤◌, ◌<ℤ◌, ◌≤ℤ◌, ◌-ℤ◌, ◌⊎◌, min, ℤ, pos, negsuc, List, length, get_or, set, arith, refl, sym, subst, ap, ◌∙◌, inl, inr, below_more, get_or-set_other, get_or-set_same, ◌≢◌}
use Rattle.std.proofs.lemmas.Bool.{cases_lt}
use Rattle.std.proofs.lemmas.Int.{ints}
use Rattle.l3_quant.specs.Quantiser.{magnitude_at}
use Rattle.l3_count.specs.Planes.{key_at}
use Rattle.l3_count.specs.Rows.{IsStored, AreRows, line_at, size_at}
use Rattle.l3_count.specs.Marks.{cut_at, AreCounted}
use Rattle.std.specs.Prelude.{replicate, unsigned_abs}

-- two lists that are filled by index
pub filled_both : (P : ℕ → ℕ → ℕ → Type 0) (xs ys : List ℕ) (i v w : ℕ) → i < length xs → i < length ys →
    ((m : ℕ) → m < i → P m (get_or xs m 0) (get_or ys m 0)) → P i v w → (m : ℕ) → m < i + 1 → P m (get_or (set xs i v) m 0) (get_or (set ys i w) m 0)
filled_both P xs ys i v w room room' before here =
    below_more _ _
    (λ m h. let ne : m ≢ i = omega arith in rw (get_or-set_other, get_or-set_other) (before m h))
    (rw (get_or-set_same, get_or-set_same) here)

-- a stored plane is above a key, 129 less, exactly where the value is reached
reaches : (n x h : ℕ) (row below : ℤ) → IsStored n x row → below ≡ pos (key_at h) -ℤ pos 129 → (below <ℤ row) ↔ (n ≤ magnitude_at x h)
reaches n x h row below is key =
    let p = is.plane in
    let stored : row ≡ pos p -ℤ pos 128 = is.stored in (
      λ above. (is.is.reaches h).0 (let le : key_at h ≤ p = omega (arith, ints, above, stored, key) in le),
      λ reached. let le : key_at h ≤ p = (is.is.reaches h).1 reached in omega (arith, ints, le, stored, key),
    )

above_or_not : (a b : ℤ) → (a <ℤ b) ⊎ (b ≤ℤ a)
above_or_not (pos m) (pos n) = elim (cases_lt m n) [ inl lt ↦ inl (omega (arith, ints)) | inr le ↦ inr (omega (arith, ints)) ]
above_or_not (pos m) (negsuc n) = inr (omega (arith, ints))
above_or_not (negsuc m) (pos n) = inl (omega (arith, ints))
above_or_not (negsuc m) (negsuc n) = elim (cases_lt n m) [ inl lt ↦ inl (omega (arith, ints)) | inr le ↦ inr (omega (arith, ints)) ]

-- the count after one row more
pub counted_row : (c d k h x : ℕ) (row below : ℤ) → IsStored (k + 1) x row → below ≡ pos (key_at h) -ℤ pos 129 → c ≡ min (magnitude_at x h) k →
    (below <ℤ row → d ≡ c + 1) → (row ≤ℤ below → d ≡ c) → d ≡ min (magnitude_at x h) (k + 1)
counted_row c d k h x row below is key before above others =
    let r = reaches (k + 1) x h row below is key in
    elim (above_or_not below row) [
      | inl over ↦ (let reached : k + 1 ≤ magnitude_at x h = r.0 over in omega (arith, before, above over))
      | inr under ↦
          (let few : magnitude_at x h ≤ k = elim (cases_lt k (magnitude_at x h)) [
            | inl more ↦ (let over : below <ℤ row = r.1 (omega arith) in absurd (omega (arith, ints, over, under)))
            | inr le ↦ le
          ] in
          omega (arith, before, others under))
    ]

-- and how great it may be
pub counted_most : (c d k : ℕ) (mark plane : ℤ) → c ≤ k → (mark <ℤ plane → d ≡ c + 1) → (plane ≤ℤ mark → d ≡ c) → d ≤ k + 1
counted_most c d k mark plane le above others =
    elim (above_or_not mark plane) [ inl over ↦ omega (arith, le, above over) | inr under ↦ omega (arith, le, others under) ]

-- where the top of a row is not above, the count stays
pub counted_all : (c k h x : ℕ) (row top least below : ℤ) → k < 15 → IsStored (k + 1) x row → below ≡ pos (key_at h) -ℤ pos 129 → least ≤ℤ below → row ≤ℤ top → top ≤ℤ least →
    c ≡ min (magnitude_at x h) k → c ≡ min (magnitude_at x h) 15
counted_all c k h x row top least below room is key lower low under before =
    let r = reaches (k + 1) x h row below is key in
    let few : magnitude_at x h ≤ k = elim (cases_lt k (magnitude_at x h)) [
      | inl more ↦ (let over : below <ℤ row = r.1 (omega arith) in absurd (omega (arith, ints, over, under, low, lower)))
      | inr le ↦ le
    ] in
    omega (arith, before)

-- the number of values that are counted, by another name
pub counted_as : (lines : List ℤ) (steps : ℕ → ℕ) (block k n : ℕ) (counts : List ℕ) → k ≡ n → AreCounted lines steps block k counts → AreCounted lines steps block n counts
counted_as lines steps block k n counts e counted j lt = counted j lt ∙ ap (min (magnitude_at (size_at lines (line_at (32 * block + j))) (steps (line_at (32 * block + j))))) e

-- no counts yet
pub zero_counts : (xs : List ℕ) (j : ℕ) → xs ≡ replicate 32 0 → get_or xs j 0 ≡ 0
zero_counts xs j e = rw e (zeros 32 j)
  where
    zeros : (n j : ℕ) → get_or {A = ℕ} (replicate n 0) j 0 ≡ 0
    zeros zero j = refl
    zeros (suc n) zero = refl
    zeros (suc n) (suc j) = zeros n j

-- the row of a block and a value
pub row_at : (lines rows : List ℤ) (block k j : ℕ) → block < 18 → k < 15 → j < 32 → AreRows lines rows →
    IsStored (k + 1) (unsigned_abs (get_or lines (line_at (32 * block + j)) (pos 0))) (get_or rows (32 * (15 * block + k) + j) (pos 0))
row_at lines rows block k j room value lt are =
    let row = 15 * block + k in
    let part : row % 15 ≡ k = omega arith in
    let whole : row / 15 ≡ block = omega arith in
    let is = are.is row (omega arith) j lt in
    subst (λ (v : ℕ). IsStored (v + 1) (unsigned_abs (get_or lines (line_at (32 * block + j)) (pos 0))) (get_or rows (32 * row + j) (pos 0))) part
    (subst (λ (b : ℕ). IsStored (row % 15 + 1) (unsigned_abs (get_or lines (line_at (32 * b + j)) (pos 0))) (get_or rows (32 * row + j) (pos 0))) whole is)

-- one block of pairs more
pub pairs_more : (lines : List ℤ) (steps : ℕ → ℕ) (block : ℕ) (old new counts : List ℕ) →
    ((i : ℕ) → i < 16 * block → get_or old i 0 ≡ 16 * cut_at lines steps (2 * i) + cut_at lines steps (2 * i + 1)) →
    ((i : ℕ) → i < 16 * block → get_or new i 0 ≡ get_or old i 0) →
    ((j : ℕ) → j < 16 → get_or new (16 * block + j) 0 ≡ 16 * get_or counts j 0 + get_or counts (16 + j) 0) →
    ((j : ℕ) → j < 32 → get_or counts j 0 ≡ cut_at lines steps (line_at (32 * block + j))) →
    (i : ℕ) → i < 16 * (block + 1) → get_or new i 0 ≡ 16 * cut_at lines steps (2 * i) + cut_at lines steps (2 * i + 1)
pairs_more lines steps block old new counts before same written here i lt =
    elim (cases_lt i (16 * block)) [
      | inl early ↦ same i early ∙ before i early
      | inr late ↦
          (let j = i - 16 * block in
          let place : 16 * block + j ≡ i = omega arith in
          let one : line_at (32 * block + j) ≡ 2 * i = omega arith in
          let two : line_at (32 * block + (16 + j)) ≡ 2 * i + 1 = omega arith in
          let first : get_or counts j 0 ≡ cut_at lines steps (2 * i) = here j (omega arith) ∙ ap (cut_at lines steps) one in
          let second : get_or counts (16 + j) 0 ≡ cut_at lines steps (2 * i + 1) = here (16 + j) (omega arith) ∙ ap (cut_at lines steps) two in
          let there : get_or new (16 * block + j) 0 ≡ 16 * get_or counts j 0 + get_or counts (16 + j) 0 = written j (omega arith) in
          ap (λ k. get_or new k 0) (sym place) ∙ (there ∙ (ap (λ a. 16 * a + get_or counts (16 + j) 0) first ∙ ap (λ b. 16 * cut_at lines steps (2 * i) + b) second)))
    ]
