-- Ends of pairs, and the split that they give.
use Rattle.std.proofs.Common.{◌≡◌, ◌↔◌, ℕ, ◌+◌, ◌-◌, ◌*◌, ◌/◌, ◌%◌, ◌<◌, ◌≤◌, ◌==◌, Bool, true, false, min, max, leb, ℤ, pos, List, length, get_or, set, drop, arith, refl, sym, subst, ap, ◌∙◌, inl, inr, get_or-set_other, get_or-set_same, ◌≢◌}
use Rattle.std.specs.Prelude.{unsigned_abs, slice_range}
use Rattle.std.specs.List.{list_all}
use Rattle.std.proofs.lemmas.Bool.{cases_lt, cases_eq, cases_Bool, eqb-true, eq-eqb, leb-true, le-leb}
use Rattle.std.proofs.lemmas.List.{get_or-take, get_or-drop, length-take, length-drop}
use Rattle.std.proofs.lemmas.List.Elements.{All-from_get_or}
use Rattle.l3_base.proofs.ChoosingLemmas.{least_passing-is, greatest_passing-is}
use Rattle.l3_quant.specs.Quantiser.{magnitude_at}
use Rattle.l3_region.specs.declared.split.Split.{Split}
use Rattle.l3_region.specs.Split.{is_zero_from, zero_from, are_ones_before, ones_before, split_of}
use Rattle.l3_region.proofs.AllPass.{all_true, true_all}
use Rattle.l3_region.proofs.SplitLemmas.{split_of-big, split_of-quads}
use Rattle.l3_count.specs.Planes.{IsPlane, key_at}
use Rattle.l3_count.specs.Rows.{IsStored, AreRows, line_at, size_at}
use Rattle.l3_count.specs.Ends.{AreEnds, IsEnd, IsAtMostFrom, IsQuantised}
use Rattle.l3_count.proofs.PlaneCounts.{row_at}

-- a plane below a key
pub plane_below : (k x p h : ℕ) → IsPlane (k + 1) x p → (p < key_at h) ↔ (magnitude_at x h ≤ k)
plane_below k x p h is =
    let r = is.reaches h in (
      λ under. elim (cases_lt k (magnitude_at x h)) [
        | inl more ↦ (let le : key_at h ≤ p = r.1 (omega arith) in absurd (omega (arith, le, under)))
        | inr le ↦ le
      ],
      λ few. elim (cases_lt p (key_at h)) [
        | inl under ↦ under
        | inr le ↦ (let more : k + 1 ≤ magnitude_at x h = r.0 le in absurd (omega arith))
      ],
    )

-- both planes of a pair
pub pair_below : (k x y p r m h : ℕ) → IsPlane (k + 1) x p → IsPlane (k + 1) y r → m ≡ max p r → (m < key_at h) ↔ ((magnitude_at x h ≤ k) × (magnitude_at y h ≤ k))
pair_below k x y p r m h one two e =
    let a = plane_below k x p h one in
    let b = plane_below k y r h two in (
      λ under. (a.0 (let lt : p < key_at h = omega (arith, e, under) in lt), b.0 (let lt : r < key_at h = omega (arith, e, under) in lt)),
      λ both. let lt : p < key_at h = a.1 both.0 in let lt' : r < key_at h = b.1 both.1 in omega (arith, e, lt, lt'),
    )

-- the planes of a pair's lines
pub pair_first : (lines rows : List ℤ) (k pair cell : ℕ) → pair < 288 → k < 15 → cell ≡ 480 * (pair / 16) + 32 * k + pair % 16 → AreRows lines rows →
    IsStored (k + 1) (size_at lines (2 * pair)) (get_or rows cell (pos 0))
pair_first lines rows k pair cell room value e are =
    let place : 32 * (15 * (pair / 16) + k) + pair % 16 ≡ cell = omega arith in
    let line : line_at (32 * (pair / 16) + pair % 16) ≡ 2 * pair = omega arith in
    subst (λ (z : ℕ). IsStored (k + 1) (size_at lines (2 * pair)) (get_or rows z (pos 0))) place
    (subst (λ (z : ℕ). IsStored (k + 1) (size_at lines z) (get_or rows (32 * (15 * (pair / 16) + k) + pair % 16) (pos 0))) line
    (row_at lines rows (pair / 16) k (pair % 16) (omega arith) value (omega arith) are))

pub pair_second : (lines rows : List ℤ) (k pair cell : ℕ) → pair < 288 → k < 15 → cell ≡ 480 * (pair / 16) + 32 * k + pair % 16 → AreRows lines rows →
    IsStored (k + 1) (size_at lines (2 * pair + 1)) (get_or rows (cell + 16) (pos 0))
pair_second lines rows k pair cell room value e are =
    let place : 32 * (15 * (pair / 16) + k) + (pair % 16 + 16) ≡ cell + 16 = omega arith in
    let line : line_at (32 * (pair / 16) + (pair % 16 + 16)) ≡ 2 * pair + 1 = omega arith in
    subst (λ (z : ℕ). IsStored (k + 1) (size_at lines (2 * pair + 1)) (get_or rows z (pos 0))) place
    (subst (λ (z : ℕ). IsStored (k + 1) (size_at lines z) (get_or rows (32 * (15 * (pair / 16) + k) + (pair % 16 + 16)) (pos 0))) line
    (row_at lines rows (pair / 16) k (pair % 16 + 16) (omega arith) value (omega arith) are))

-- the end of the pair before
pub end_more : (lines : List ℤ) (k pair end plane new : ℕ) → pair < 288 → IsEnd lines k (pair + 1) end →
    ((h : ℕ) → (plane < key_at h) ↔ ((magnitude_at (size_at lines (2 * pair)) h ≤ k) × (magnitude_at (size_at lines (2 * pair + 1)) h ≤ k))) →
    new ≡ max end plane → IsEnd lines k pair new
end_more lines k pair end plane new room before here e h =
    let a = before h in
    let b = here h in (
      λ under i from to. elim (cases_lt i (2 * (pair + 1))) [
        | inl early ↦
            (let both = b.0 (let lt : plane < key_at h = omega (arith, e, under) in lt) in
            elim (cases_lt (2 * pair) i) [
              | inl odd ↦ (let same : 2 * pair + 1 ≡ i = omega arith in subst (λ (z : ℕ). magnitude_at (size_at lines z) h ≤ k) same both.1)
              | inr even ↦ (let same : 2 * pair ≡ i = omega arith in subst (λ (z : ℕ). magnitude_at (size_at lines z) h ≤ k) same both.0)
            ])
        | inr late ↦ a.0 (let lt : end < key_at h = omega (arith, e, under) in lt) i late to
      ],
      λ all.
          let lt : end < key_at h = a.1 (λ i from to. all i (omega arith) to) in
          let lt' : plane < key_at h = b.1 (all (2 * pair) (omega arith) (omega arith), all (2 * pair + 1) (omega arith) (omega arith)) in
          omega (arith, e, lt, lt'),
    )

pub end_none : (lines : List ℤ) (k : ℕ) → IsEnd lines k 288 0
end_none lines k h = (λ under i from to. absurd (omega arith), λ all. omega arith)

-- a list that has the ends from a pair on, and then that before it
pub ends_more : (lines : List ℤ) (k r : ℕ) (out : List ℕ) (new : ℕ) → r < 288 → length out ≡ 288 → IsEnd lines k (287 - r) new →
    ((pair : ℕ) → 288 - r ≤ pair → pair < 288 → IsEnd lines k pair (get_or out pair 0)) →
    (pair : ℕ) → 288 - (r + 1) ≤ pair → pair < 288 → IsEnd lines k pair (get_or (set out (287 - r) new) pair 0)
ends_more lines k r out new lt long here behind pair from to =
    elim (cases_eq pair (287 - r)) [
      | inl same ↦
          (let room : 287 - r < length out = omega (arith, long) in
          let is : new ≡ get_or (set out (287 - r) new) (287 - r) 0 = rw get_or-set_same refl in
          let there : 287 - r ≡ pair = sym same in
          subst (λ (z : ℕ). IsEnd lines k z (get_or (set out (287 - r) new) z 0)) there (subst (λ (z : ℕ). IsEnd lines k (287 - r) z) is here))
      | inr other ↦
          (let ne : pair ≢ 287 - r = other in
          rw get_or-set_other (behind pair (omega (arith, other)) to))
    ]

-- ---- tests of parts of a list

pub slice_read : (q : List ℤ) (a b i : ℕ) → i < b - a → get_or (slice_range q a b) i (pos 0) ≡ get_or q (a + i) (pos 0)
slice_read q a b i lt = get_or-take (b - a) (drop a q) i (pos 0) lt ∙ get_or-drop a q i (pos 0)

pub passes_between : (p : ℤ → Bool) (q : List ℤ) (a b : ℕ) → ((i : ℕ) → a ≤ i → i < b → p (get_or q i (pos 0)) ≡ true) → list_all p (slice_range q a b) ≡ true
passes_between p q a b each =
    all_true p (slice_range q a b) (All-from_get_or (λ x. p x ≡ true) (slice_range q a b) (pos 0)
    (λ i lt. let room : i < b - a = omega (arith, lt, length-take (b - a) (drop a q)) in ap p (slice_read q a b i room) ∙ each (a + i) (omega arith) (omega arith)))

pub between_passes : (p : ℤ → Bool) (q : List ℤ) (a b i : ℕ) → b ≤ length q → list_all p (slice_range q a b) ≡ true → a ≤ i → i < b → p (get_or q i (pos 0)) ≡ true
between_passes p q a b i le is from to =
    let there : a + (i - a) ≡ i = omega arith in
    let room : i - a < length (slice_range q a b) = omega (arith, length-take (b - a) (drop a q), length-drop a q) in
    ap (λ k. p (get_or q k (pos 0))) (sym there) ∙ (ap p (sym (slice_read q a b (i - a) (omega arith))) ∙ true_all p (slice_range q a b) is (i - a) (pos 0) room)

passes_from : (p : ℤ → Bool) (q : List ℤ) (a : ℕ) → ((i : ℕ) → a ≤ i → i < length q → p (get_or q i (pos 0)) ≡ true) → list_all p (drop a q) ≡ true
passes_from p q a each =
    all_true p (drop a q) (All-from_get_or (λ x. p x ≡ true) (drop a q) (pos 0)
    (λ i lt. let room : a + i < length q = omega (arith, lt, length-drop a q) in ap p (get_or-drop a q i (pos 0)) ∙ each (a + i) (omega arith) room))

from_passes : (p : ℤ → Bool) (q : List ℤ) (a i : ℕ) → list_all p (drop a q) ≡ true → a ≤ i → i < length q → p (get_or q i (pos 0)) ≡ true
from_passes p q a i is from to =
    let there : a + (i - a) ≡ i = omega arith in
    let room : i - a < length (drop a q) = omega (arith, length-drop a q) in
    ap (λ k. p (get_or q k (pos 0))) (sym there) ∙ (ap p (sym (get_or-drop a q (i - a) (pos 0))) ∙ true_all p (drop a q) is (i - a) (pos 0) room)

-- ---- the split

zeros_told : (lines q : List ℤ) (h pair : ℕ) → IsQuantised lines h q → IsAtMostFrom lines 0 h pair → is_zero_from q (2 * pair) ≡ true
zeros_told lines q h pair is all =
    passes_from (λ x. unsigned_abs x == 0) q (2 * pair) (λ i from to.
    let lt : i < 576 = omega (arith, to, is.long) in
    let none : size_at q i ≡ 0 = omega (arith, is.is i lt, all i from lt) in
    eq-eqb (size_at q i) 0 none)

zeros_tell : (lines q : List ℤ) (h pair : ℕ) → IsQuantised lines h q → is_zero_from q (2 * pair) ≡ true → IsAtMostFrom lines 0 h pair
zeros_tell lines q h pair is passes i from to =
    let none : size_at q i ≡ 0 = eqb-true (size_at q i) 0 (from_passes (λ x. unsigned_abs x == 0) q (2 * pair) i passes from (omega (arith, to, is.long))) in
    omega (arith, is.is i to, none)

-- what holds from a pair on holds from each later one on
later : (lines : List ℤ) (k h pair other : ℕ) → pair ≤ other → IsAtMostFrom lines k h pair → IsAtMostFrom lines k h other
later lines k h pair other le all i from to = all i (omega arith) to

-- the last end at a key, k and h known
pub record IsLast (lines : List ℤ) (k h n : ℕ) : Type 0 where
  pub within : n ≤ 288
  pub behind : IsAtMostFrom lines k h n
  pub before : 0 < n → IsAtMostFrom lines k h (n - 1) → ⊥

pub last_is : (lines : List ℤ) (k h n key : ℕ) (ends : List ℕ) → AreEnds lines k ends → key ≡ key_at h → n ≤ 288 →
    (0 < n → key ≤ get_or ends (n - 1) 0) → (n < 288 → get_or ends n 0 < key) → IsLast lines k h n
last_is lines k h n key ends are same within before behind = record {
  within = within;
  behind = elim (cases_lt n 288) [
    | inl lt ↦ (are.is n lt h).0 (let under : get_or ends n 0 < key_at h = omega (arith, behind lt, same) in under)
    | inr end ↦ (λ i from to. absurd (omega arith))
  ];
  before = λ some all.
      let under : get_or ends (n - 1) 0 < key_at h = (are.is (n - 1) (omega arith) h).1 all in
      omega (arith, before some, same, under);
}

pub zero_from-is : (lines q : List ℤ) (h n : ℕ) → IsQuantised lines h q → IsLast lines 0 h n → 2 * n ≡ zero_from q
unfolding zero_from
zero_from-is lines q h n is last =
    ap (λ z. 2 * z) (sym (least_passing-is 288 (λ pairs. is_zero_from q (2 * pairs)) n (record {
      within = last.within;
      passing = λ _. zeros_told lines q h n is last.behind;
      least = λ k lt. elim (cases_Bool (is_zero_from q (2 * k))) [
        | inl passes ↦ absurd (last.before (omega arith) (later lines 0 h k (n - 1) (omega arith) (zeros_tell lines q h k is passes)))
        | inr fails ↦ fails
      ];
    })))

pub ones_before-is : (lines q : List ℤ) (h pairs last ones quads : ℕ) → IsQuantised lines h q → IsLast lines 0 h pairs → IsLast lines 1 h last → ones ≡ min last pairs →
    quads ≡ (pairs - ones) / 2 → quads ≡ ones_before q (2 * pairs)
unfolding ones_before
ones_before-is lines q h pairs last ones quads is none one e f =
    sym (greatest_passing-is (2 * pairs / 4 + 1) (are_ones_before q (2 * pairs)) quads (omega arith) passes fails)
  where
    test : ℤ → Bool
    test = λ x. leb (unsigned_abs x) 1

    passes : are_ones_before q (2 * pairs) quads ≡ true
    passes = passes_between (λ x. leb (unsigned_abs x) 1) q (2 * pairs - 4 * quads) (2 * pairs) (λ i from to.
        let lt : i < 576 = omega (arith, none.within) in
        let start : 2 * last ≤ i = omega (arith, e, f) in
        let few : magnitude_at (size_at lines i) h ≤ 1 = one.behind i start lt in
        le-leb (size_at q i) 1 (omega (arith, is.is i lt, few)))

    all_few : (k : ℕ) → quads < k → k < 2 * pairs / 4 + 1 → are_ones_before q (2 * pairs) k ≡ true → IsAtMostFrom lines 1 h (last - 1)
    all_few k more room good i from to = elim (cases_lt i (2 * pairs)) [
      | inl early ↦
          (let small : size_at q i ≤ 1 = leb-true (size_at q i) 1 (between_passes (λ x. leb (unsigned_abs x) 1) q (2 * pairs - 4 * k) (2 * pairs) i (omega (arith, is.long, none.within)) good (omega (arith, e, f)) early) in
          omega (arith, is.is i to, small))
      | inr late ↦ (let zero_here : magnitude_at (size_at lines i) h ≤ 0 = none.behind i late to in omega arith)
    ]

    fails : (k : ℕ) → quads < k → k < 2 * pairs / 4 + 1 → are_ones_before q (2 * pairs) k ≡ false
    fails k more room = elim (cases_Bool (are_ones_before q (2 * pairs) k)) [
      | inl good ↦ absurd (one.before (omega (arith, e, f)) (all_few k more room good))
      | inr bad ↦ bad
    ]

same_split : (s : Split) (big quads : ℕ) → big ≡ s.big → quads ≡ s.quads → record { big = big; quads = quads } ≡ s
same_split s big quads one two =
    let f : ℕ → ℕ → Split = λ b c. record { big = b; quads = c } in
    ap (λ b. f b quads) one ∙ ap (λ c. f s.big c) two

pub split_is : (lines q : List ℤ) (h pairs last ones quads : ℕ) → IsQuantised lines h q → IsLast lines 0 h pairs → IsLast lines 1 h last → ones ≡ min last pairs →
    quads ≡ (pairs - ones) / 2 → record { big = pairs - 2 * quads; quads = quads } ≡ split_of q
split_is lines q h pairs last ones quads is none one e f =
    let zeros = zero_from-is lines q h pairs is none in
    let before = ones_before-is lines q h pairs last ones quads is none one e f in
    same_split (split_of q) (pairs - 2 * quads) quads (split_of-big q pairs quads zeros before) (split_of-quads q pairs quads zeros before)
