-- The scalefac_compress of an amplification, by the greatest amplification of either part.
use Rattle.std.proofs.Common.{◌≡◌, ℕ, ◌+◌, ◌-◌, ◌*◌, ◌/◌, ◌%◌, ◌^◌, ◌<◌, ◌≤◌, Bool, true, false, ◌&&◌, List, [], ◌∷◌, length, get_or, leb, take, drop, eqb, ltb, max, arith, refl, sym, ap, ◌∙◌, inl, inr, subst, if◌then◌else◌}
use Rattle.std.specs.Prelude.{All, nat_lt, slice_range, ◌||◌}
use Rattle.std.specs.List.{filter, list_all, range_with_len}
use Rattle.std.proofs.lemmas.Bool.{agree_below, agree_below_at, cases_lt, eqb-true, eq-eqb, leb-true, ltb-true, lt-ltb, le-ltb}
use Rattle.std.proofs.lemmas.Nat.{pow_pos}
use Rattle.std.proofs.lemmas.List.{get_or-drop, length-drop}
use Rattle.std.proofs.lemmas.List.Elements.{All-head, All-tail, All-take, All-drop}
use Rattle.std.proofs.lemmas.List.Folds.{list_all_more}
use Rattle.l3_count.specs.Regions.{cheapest}
use Rattle.l3_search.specs.declared.scalefactors.TheConstants.{COMPRESS}
use Rattle.l3_search.specs.Noise.{compress_of, have_room, holds_amp, scalefactor_bits, slen1_of, slen2_of}
use Rattle.l3_search.specs.Kernels.{compress_for, holds_both}
use Rattle.l3_search.specs.NoiseLaws.{BitsDiffer, CompressIsLeast, IsLeastCompress, NoBitsWithoutAmp}

-- ---- the greatest of a list

-- two numbers are below a limit where the greater one is
pub ltb-max : (a b m : ℕ) → (ltb a m && ltb b m) ≡ ltb (max a b) m
ltb-max a b m =
    elim (cases_lt a m) [
      | inl low ↦ elim (cases_lt b m) [
        | inl less ↦ (let top : max a b < m = omega arith in
            rw (lt-ltb a m low, lt-ltb b m less, lt-ltb (max a b) m top) refl)
        | inr high ↦ (let top : m ≤ max a b = omega arith in
            rw (lt-ltb a m low, le-ltb b m high, le-ltb (max a b) m top) refl)
      ]
      | inr high ↦ (let top : m ≤ max a b = omega arith in
          rw (le-ltb a m high, le-ltb (max a b) m top) refl)
    ]

-- a number stands for a list: all of it is below a limit where the number is
abbrev pub IsTop : List ℕ → ℕ → Type 0
IsTop xs top = (limit : ℕ) → 0 < limit → list_all (λ a. nat_lt a limit) xs ≡ nat_lt top limit

pub top-none : IsTop [] 0
top-none limit some = sym (lt-ltb 0 limit some)

pub top_of : (xs : List ℕ) → All (λ a. a ≤ 3) xs → (top : ℕ) × (top ≤ 3) × IsTop xs top
top_of [] small = (0, omega arith, top-none)
top_of (x ∷ xs) small =
    let rest = top_of xs (All-tail (λ a. a ≤ 3) x xs small) in
    let here : x ≤ 3 = All-head (λ a. a ≤ 3) x xs small in
    (max x rest.0, omega (arith, rest.1, here), λ limit some. ap (λ b. ltb x limit && b) (rest.2 limit some) ∙ ltb-max x rest.0 limit)

-- one number more of a list
pub top-more : (xs : List ℕ) (from at top : ℕ) → from ≤ at → at < length xs →
    IsTop (slice_range xs from at) top → IsTop (slice_range xs from (at + 1)) (max top (get_or xs at 0))
top-more xs from at top le lt is limit some =
    let p : ℕ → Bool = λ a. nat_lt a limit in
    let count : at + 1 - from ≡ at - from + 1 = omega arith in
    let place : from + (at - from) ≡ at = omega arith in
    let room : at - from < length (drop from xs) = omega (arith, length-drop from xs) in
    ap (λ n. list_all p (take n (drop from xs))) count
    ∙ (list_all_more p (drop from xs) (at - from) 0 room
    ∙ (ap (λ b. b && p (get_or (drop from xs) (at - from) 0)) (is limit some)
    ∙ (ap (λ k. ltb top limit && p k) (get_or-drop from xs (at - from) 0 ∙ ap (λ k. get_or xs k 0) place)
    ∙ ltb-max top (get_or xs at 0) limit)))

-- ---- the one of an amplification is the one of its two greatest numbers

holds-same : (amp : List ℕ) (first second compress : ℕ) → IsTop (slice_range amp 0 11) first →
    IsTop (slice_range amp 11 21) second → holds_amp amp compress ≡ holds_both first second compress
holds-same amp first second compress one two =
    ap (λ b. b && have_room (slen2_of compress) (slice_range amp 11 21)) (one (2 ^ slen1_of compress) (pow_pos (slen1_of compress)))
    ∙ ap (λ b. nat_lt first (2 ^ slen1_of compress) && b) (two (2 ^ slen2_of compress) (pow_pos (slen2_of compress)))

filter-same : (p q : ℕ → Bool) (xs : List ℕ) → ((k : ℕ) → p k ≡ q k) → filter p xs ≡ filter q xs
filter-same p q [] same = refl
filter-same p q (x ∷ xs) same =
    ap (λ b. if b then x ∷ filter p xs else filter p xs) (same x)
    ∙ ap (λ ys. if q x then x ∷ ys else ys) (filter-same p q xs same)

pub compress_of-tops : (amp : List ℕ) (first second : ℕ) → IsTop (slice_range amp 0 11) first →
    IsTop (slice_range amp 11 21) second → compress_of amp ≡ compress_for first second
unfolding compress_of compress_for
compress_of-tops amp first second one two =
    ap (λ xs. cheapest scalefactor_bits 0 xs)
    (filter-same (holds_amp amp) (holds_both first second) (range_with_len 0 16) (λ k. holds-same amp first second k one two))

-- ---- all sixteen cases

and_parts : (a b : Bool) → (a && b) ≡ true → (a ≡ true) × (b ≡ true)
and_parts true b e = (refl, e)
and_parts false b e = absurd (let no : false ≡ true = e in cc)

or_parts : (a b : Bool) (P : Type 0) → (a || b) ≡ true → (a ≡ true → P) → (b ≡ true → P) → P
or_parts true b P e yes' other = yes' refl
or_parts false b P e yes' other = other e

-- both numbers of a case
pair : (P : ℕ → ℕ → Type 0) (first second : ℕ) → second ≤ 3 →
    P ((4 * first + second) / 4) ((4 * first + second) % 4) → P first second
pair P first second le h =
    let row : (4 * first + second) / 4 ≡ first = omega arith in
    let column : (4 * first + second) % 4 ≡ second = omega arith in
    subst (P first) column (subst (λ (k : ℕ). P k ((4 * first + second) % 4)) row h)

entry_test : ℕ → Bool
entry_test n = eqb (get_or (get_or COMPRESS (n / 4) []) (n % 4) 0) (compress_for (n / 4) (n % 4))

-- the table has the right number for each case
pub entry_is : (first second : ℕ) → first ≤ 3 → second ≤ 3 →
    get_or (get_or COMPRESS first []) second 0 ≡ compress_for first second
unfolding entry_test compress_for scalefactor_bits slen1_of slen2_of
entry_is first second le small =
    let n = 4 * first + second in
    pair (λ a b. get_or (get_or COMPRESS a []) b 0 ≡ compress_for a b) first second small
    (eqb-true _ _ (agree_below_at entry_test (λ _. true) 16 n refl (omega arith)))

few_test : ℕ → Bool
few_test n = leb (scalefactor_bits (compress_for (n / 4) (n % 4))) 42

-- no case takes more than 42 bits
pub bits_are_few : (first second : ℕ) → first ≤ 3 → second ≤ 3 → scalefactor_bits (compress_for first second) ≤ 42
unfolding few_test compress_for scalefactor_bits slen1_of slen2_of
bits_are_few first second le small =
    pair (λ a b. scalefactor_bits (compress_for a b) ≤ 42) first second small
    (leb-true _ _ (agree_below_at few_test (λ _. true) 16 (4 * first + second) refl (omega arith)))

-- another number that has room is the same, or takes more bits
other_test : ℕ → ℕ → ℕ → ℕ → Bool
other_test first second compress other =
    if holds_both first second other then eqb other compress || ltb (scalefactor_bits compress) (scalefactor_bits other) else true

least_test : ℕ → ℕ → ℕ → Bool
least_test first second compress =
    ltb compress 16 && (holds_both first second compress && agree_below (other_test first second compress) (λ _. true) 16)

case_test : ℕ → Bool
case_test n = least_test (n / 4) (n % 4) (compress_for (n / 4) (n % 4))

least_tested : (first second : ℕ) → first ≤ 3 → second ≤ 3 →
    least_test first second (compress_for first second) ≡ true
unfolding case_test least_test other_test compress_for scalefactor_bits slen1_of slen2_of
least_tested first second le small =
    pair (λ a b. least_test a b (compress_for a b) ≡ true) first second small
    (agree_below_at case_test (λ _. true) 16 (4 * first + second) refl (omega arith))

-- what the test says of another number
other_said : (first second compress other : ℕ) → other_test first second compress other ≡ true →
    holds_both first second other ≡ true → (P : Type 0) →
    (other ≡ compress → P) → (scalefactor_bits compress < scalefactor_bits other → P) → P
unfolding other_test
other_said first second compress other test holds P same more =
    let both : (eqb other compress || ltb (scalefactor_bits compress) (scalefactor_bits other)) ≡ true =
    sym (ap (λ b. if b then eqb other compress || ltb (scalefactor_bits compress) (scalefactor_bits other) else true) holds) ∙ test in
    or_parts _ _ P both (λ e. same (eqb-true other compress e)) (λ e. more (ltb-true _ _ e))

least_from : (amp : List ℕ) (first second compress : ℕ) → IsTop (slice_range amp 0 11) first →
    IsTop (slice_range amp 11 21) second → least_test first second compress ≡ true → IsLeastCompress amp compress
unfolding least_test
least_from amp first second compress one two test =
    let outer = and_parts _ _ test in
    let inner = and_parts _ _ outer.1 in
    let at : (other : ℕ) → other < 16 → other_test first second compress other ≡ true =
    λ other lt. agree_below_at (other_test first second compress) (λ _. true) 16 other inner.1 lt in
    let limit : compress < 16 = ltb-true compress 16 outer.0 in
    record {
      limit = limit;
      holds = holds-same amp first second compress one two ∙ inner.0;
      least = λ other lt room.
          other_said first second compress other (at other lt) (sym (holds-same amp first second other one two) ∙ room)
          (scalefactor_bits compress ≤ scalefactor_bits other)
          (λ e. let bits : scalefactor_bits other ≡ scalefactor_bits compress = ap scalefactor_bits e in omega (arith, bits))
          (λ more. omega arith);
      first = λ other lt room.
          other_said first second compress other (at other (omega arith)) (sym (holds-same amp first second other one two) ∙ room)
          (scalefactor_bits compress < scalefactor_bits other)
          (λ e. absurd (omega arith)) (λ more. more);
    }

pub compress_is_least : CompressIsLeast
compress_is_least amp is =
    let P : ℕ → Type 0 = λ a. a ≤ 3 in
    let one = top_of (slice_range amp 0 11) (All-take P 11 amp is.small) in
    let two = top_of (slice_range amp 11 21) (All-take P 10 (drop 11 amp) (All-drop P 11 amp is.small)) in
    let Q : ℕ → Type 0 = λ k. IsLeastCompress amp k in
    subst Q (sym (compress_of-tops amp one.0 two.0 one.2 two.2))
    (least_from amp one.0 two.0 (compress_for one.0 two.0) one.2 two.2 (least_tested one.0 two.0 one.1 two.1))

-- ---- bits

differ_test : ℕ → Bool
differ_test n = if eqb (scalefactor_bits (n / 16)) (scalefactor_bits (n % 16)) then eqb (n / 16) (n % 16) else true

differ : (one other : ℕ) → one < 16 → other < 16 → (if eqb (scalefactor_bits one) (scalefactor_bits other) then eqb one other else true) ≡ true
unfolding differ_test scalefactor_bits slen1_of slen2_of
differ one other lt small =
    let row : (16 * one + other) / 16 ≡ one = omega arith in
    let column : (16 * one + other) % 16 ≡ other = omega arith in
    let test : ℕ → ℕ → Type 0 = λ a b. (if eqb (scalefactor_bits a) (scalefactor_bits b) then eqb a b else true) ≡ true in
    subst (test one) column (subst (λ (k : ℕ). test k ((16 * one + other) % 16)) row
    (agree_below_at differ_test (λ _. true) 256 (16 * one + other) refl (omega arith)))

pub bits_differ : BitsDiffer
bits_differ one other lt small same =
    let equal : eqb (scalefactor_bits one) (scalefactor_bits other) ≡ true = eq-eqb _ _ same in
    eqb-true one other (sym (ap (λ b. if b then eqb one other else true) equal) ∙ differ one other lt small)

pub no_bits_without_amp : NoBitsWithoutAmp
unfolding compress_of scalefactor_bits slen1_of slen2_of
no_bits_without_amp = refl
