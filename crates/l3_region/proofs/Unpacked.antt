-- Packed pairs, and the values that they have.
use Rattle.std.proofs.Common.{◌≡◌, ℕ, zero, suc, ◌+◌, ◌-◌, ◌*◌, ◌/◌, ◌%◌, ◌<◌, ◌≤◌, Bool, true, false, ◌&&◌, ◌==◌, List, [], ◌∷◌, length, get_or, take, drop, leb, map, refl, sym, ap, ◌∙◌, arith, inl, inr}
use Rattle.std.specs.Prelude.{ℤ, pos, slice_range}
use Rattle.std.specs.List.{list_all}
use Rattle.std.proofs.Math.ListN.{get_or-map}
use Rattle.std.proofs.lemmas.Bool.{cases_eq, cases_lt, le-leb, lt-leb, ne_eqb}
use Rattle.std.proofs.lemmas.Grind.{same_number_lists}
use Rattle.std.proofs.lemmas.List.{length-map}
use Rattle.l3_base.specs.Lists.{entry}
use Rattle.l3_region.specs.Lanes.{place_of}
use Rattle.l3_region.specs.Pairs.{ArePairsOf, lines_in, unpacked}
use Rattle.l3_region.proofs.CutLines.{cut_value, place_read}
use Rattle.l3_region.proofs.Slices.{slice_range-more, slice_range-none}

pub unpacked-first : (pairs : List ℕ) (n : ℕ) → get_or (unpacked pairs) (2 * n) 0 ≡ get_or pairs n 0 / 16
unfolding unpacked
unpacked-first [] n = refl
unpacked-first (p ∷ ps) zero = refl
unpacked-first (p ∷ ps) (suc n) = let two : 2 * suc n ≡ suc (suc (2 * n)) = omega arith in rw two (unpacked-first ps n)

pub unpacked-second : (pairs : List ℕ) (n : ℕ) → get_or (unpacked pairs) (2 * n + 1) 0 ≡ get_or pairs n 0 % 16
unfolding unpacked
unpacked-second [] n = refl
unpacked-second (p ∷ ps) zero = refl
unpacked-second (p ∷ ps) (suc n) = let two : 2 * suc n + 1 ≡ suc (suc (2 * n + 1)) = omega arith in rw two (unpacked-second ps n)

pub length-unpacked : (pairs : List ℕ) → length (unpacked pairs) ≡ 2 * length pairs
unfolding unpacked
length-unpacked [] = refl
length-unpacked (p ∷ ps) = omega (arith, length-unpacked ps)

drop-unpacked : (n : ℕ) (pairs : List ℕ) → drop (2 * n) (unpacked pairs) ≡ unpacked (drop n pairs)
unfolding unpacked
drop-unpacked zero pairs = refl
drop-unpacked (suc n) [] = let two : 2 * suc n ≡ suc (suc (2 * n)) = omega arith in rw two refl
drop-unpacked (suc n) (p ∷ ps) = let two : 2 * suc n ≡ suc (suc (2 * n)) = omega arith in rw two (drop-unpacked n ps)

take-unpacked : (n : ℕ) (pairs : List ℕ) → take (2 * n) (unpacked pairs) ≡ unpacked (take n pairs)
unfolding unpacked
take-unpacked zero pairs = refl
take-unpacked (suc n) [] = let two : 2 * suc n ≡ suc (suc (2 * n)) = omega arith in rw two refl
take-unpacked (suc n) (p ∷ ps) = let two : 2 * suc n ≡ suc (suc (2 * n)) = omega arith in rw two (ap (λ xs. p / 16 ∷ p % 16 ∷ xs) (take-unpacked n ps))

pub slice_range-unpacked : (pairs : List ℕ) (a b : ℕ) → slice_range (unpacked pairs) (2 * a) (2 * b) ≡ unpacked (slice_range pairs a b)
slice_range-unpacked pairs a b =
    let size : 2 * b - 2 * a ≡ 2 * (b - a) = omega arith in
    ap (λ k. take k (drop (2 * a) (unpacked pairs))) size ∙ (ap (take (2 * (b - a))) (drop-unpacked a pairs) ∙ take-unpacked (b - a) (drop a pairs))

-- ---- pairs of zeros and of ones

zero_both : (p : ℕ) (t : Bool) → (leb (p / 16) 0 && (leb (p % 16) 0 && t)) ≡ (leb p 0 && t)
zero_both p t = elim (cases_lt 0 p) [
  | inl some ↦ elim (cases_lt 0 (p / 16)) [
    | inl high ↦ rw (lt-leb (p / 16) 0 high, lt-leb p 0 some) refl
    | inr low ↦
        (let first : leb (p / 16) 0 ≡ true = le-leb (p / 16) 0 low in
        let second : leb (p % 16) 0 ≡ false = lt-leb (p % 16) 0 (omega arith) in
        rw (first, second, lt-leb p 0 some) refl)
  ]
  | inr none ↦
      (let first : leb (p / 16) 0 ≡ true = le-leb (p / 16) 0 (omega arith) in
      let second : leb (p % 16) 0 ≡ true = le-leb (p % 16) 0 (omega arith) in
      rw (first, second, le-leb p 0 none) refl)
]

pub zeros-unpacked : (pairs : List ℕ) → list_all (λ x. leb x 0) (unpacked pairs) ≡ list_all (λ x. leb x 0) pairs
unfolding unpacked
zeros-unpacked [] = refl
zeros-unpacked (p ∷ ps) = zero_both p (list_all (λ x. leb x 0) (unpacked ps)) ∙ ap (λ t. leb p 0 && t) (zeros-unpacked ps)

-- two values of a pair
pub two_values : (pairs : List ℕ) (n : ℕ) → n + 1 ≤ length pairs → slice_range (unpacked pairs) (2 * n) (2 * n + 2) ≡ get_or pairs n 0 / 16 ∷ get_or pairs n 0 % 16 ∷ []
unfolding unpacked
two_values pairs n le =
    let next : 2 * n + 2 ≡ 2 * (n + 1) = omega arith in
    ap (slice_range (unpacked pairs) (2 * n)) next
    ∙ (slice_range-unpacked pairs n (n + 1)
    ∙ ap unpacked (slice_range-more pairs n (n + 1) 0 (omega arith) le ∙ ap (λ xs. get_or pairs n 0 ∷ xs) (slice_range-none pairs (n + 1))))

-- four values of two pairs
pub four_values : (pairs : List ℕ) (n : ℕ) → n + 2 ≤ length pairs →
    slice_range (unpacked pairs) (2 * n) (2 * n + 4) ≡ get_or pairs n 0 / 16 ∷ get_or pairs n 0 % 16 ∷ get_or pairs (n + 1) 0 / 16 ∷ get_or pairs (n + 1) 0 % 16 ∷ []
unfolding unpacked
four_values pairs n le =
    let next : 2 * n + 4 ≡ 2 * (n + 2) = omega arith in
    let one : n + 1 + 1 ≡ n + 2 = omega arith in
    let last = slice_range-more pairs (n + 1) (n + 2) 0 (omega arith) le ∙ ap (λ xs. get_or pairs (n + 1) 0 ∷ xs) (ap (λ i. slice_range pairs i (n + 2)) one ∙ slice_range-none pairs (n + 2)) in
    ap (slice_range (unpacked pairs) (2 * n)) next
    ∙ (slice_range-unpacked pairs n (n + 2) ∙ ap unpacked (slice_range-more pairs n (n + 2) 0 (omega arith) le ∙ ap (λ xs. get_or pairs n 0 ∷ xs) last))

zero_pair-is : (p : ℕ) → list_all (λ x. x == 0) (p / 16 ∷ p % 16 ∷ []) ≡ (p == 0)
zero_pair-is p = elim (cases_eq p 0) [
  | inl none ↦ rw none refl
  | inr some ↦ elim (cases_eq (p / 16) 0) [
    | inl low ↦
        (let other : p % 16 ≡ 0 → ⊥ = λ e. some (omega arith) in
        rw (low, ne_eqb (p % 16) 0 other, ne_eqb p 0 some) refl)
    | inr high ↦ rw (ne_eqb (p / 16) 0 high, ne_eqb p 0 some) refl
  ]
]

pub zero_pair-unpacked : (pairs : List ℕ) (n : ℕ) → n + 1 ≤ length pairs → list_all (λ x. x == 0) (slice_range (unpacked pairs) (2 * n) (2 * n + 2)) ≡ (get_or pairs n 0 == 0)
zero_pair-unpacked pairs n le = ap (list_all (λ x. x == 0)) (two_values pairs n le) ∙ zero_pair-is (get_or pairs n 0)

-- ---- pairs of values

-- a packed pair by its values
pub pair_read : (pairs : List ℕ) (n : ℕ) → get_or pairs n 0 ≡ 16 * get_or (unpacked pairs) (2 * n) 0 + get_or (unpacked pairs) (2 * n + 1) 0
pair_read pairs n = omega (arith, unpacked-first pairs n, unpacked-second pairs n)

-- values of at most 15 are those that are packed
pub unpacked-is : (pairs cut : List ℕ) → length pairs ≡ 288 → length cut ≡ 576 → ((i : ℕ) → i < 576 → get_or cut i 0 ≤ 15) →
    ((n : ℕ) → n < 288 → get_or pairs n 0 ≡ 16 * get_or cut (2 * n) 0 + get_or cut (2 * n + 1) 0) → unpacked pairs ≡ cut
unpacked-is pairs cut long size small packed =
    let both : length (unpacked pairs) ≡ length cut = omega (arith, length-unpacked pairs, long, size) in
    same_number_lists (unpacked pairs) cut both (λ i lt.
    let n = i / 2 in
    let within : i < 576 = omega (arith, both, size, lt) in
    let room : n < 288 = omega arith in
    let low : get_or cut (2 * n + 1) 0 ≤ 15 = small (2 * n + 1) (omega arith) in
    elim (cases_lt (2 * n) i) [
      | inl odd ↦
          (let there : 2 * n + 1 ≡ i = omega arith in
          ap (λ k. get_or (unpacked pairs) k 0) (sym there) ∙ (omega (arith, unpacked-second pairs n, packed n room, low) ∙ ap (λ k. get_or cut k 0) there))
      | inr even ↦
          (let there : 2 * n ≡ i = omega arith in
          ap (λ k. get_or (unpacked pairs) k 0) (sym there) ∙ (omega (arith, unpacked-first pairs n, packed n room, low) ∙ ap (λ k. get_or cut k 0) there))
    ])

entry_cut : (q : List ℤ) (i : ℕ) → get_or (map cut_value q) i 0 ≡ cut_value (entry q i)
entry_cut q i = get_or-map cut_value q i (pos 0)

place_is : (x y : ℤ) → place_of x y ≡ 16 * cut_value x + cut_value y
unfolding place_of
place_is x y = refl

-- the packed values are the cut ones
pub unpacked_same : {edges : List ℕ} (q : List ℤ) (pairs classes : List ℕ) → length pairs ≡ 288 → ArePairsOf edges q pairs classes → unpacked pairs ≡ map cut_value q
unpacked_same q pairs classes long is =
    unpacked-is pairs (map cut_value q) long (length-map q cut_value ∙ is.long) (λ i lt. omega (arith, entry_cut q i))
    (λ n lt. omega (arith, is.pairs_are n lt, place_is (entry q (2 * n)) (entry q (2 * n + 1)), entry_cut q (2 * n), entry_cut q (2 * n + 1)))

-- and the other way
pub pairs_same : (q : List ℤ) (pairs : List ℕ) (n : ℕ) → unpacked pairs ≡ map cut_value q → get_or pairs n 0 ≡ place_of (entry q (2 * n)) (entry q (2 * n + 1))
pairs_same q pairs n is =
    omega (
      arith,
      pair_read pairs n,
      ap (λ xs. get_or xs (2 * n) 0) is,
      ap (λ xs. get_or xs (2 * n + 1) 0) is,
      entry_cut q (2 * n),
      entry_cut q (2 * n + 1),
      place_is (entry q (2 * n)) (entry q (2 * n + 1)),
    )

-- the place of a pair is the pair
pub place_unpacked : (pairs : List ℕ) (n : ℕ) → get_or pairs n 0 < 256 → get_or pairs n 0 ≡ place_of (entry (lines_in pairs) (2 * n)) (entry (lines_in pairs) (2 * n + 1))
place_unpacked pairs n lt =
    let first = unpacked-first pairs n in
    let second = unpacked-second pairs n in
    pair_read pairs n ∙ place_read (unpacked pairs) n (omega arith) (omega arith)
