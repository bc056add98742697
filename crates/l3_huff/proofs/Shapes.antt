-- Facts of each table, each tested at every table.
use Rattle.std.proofs.Common.{◌≡◌, ℕ, ◌+◌, ◌*◌, ◌^◌, ◌<◌, ◌≤◌, Bool, true, ◌&&◌, ◌||◌, not, eqb, ltb, leb, List, [], ◌∷◌, length, refl, sym, ap, arith, inl, inr, ◌∙◌, ◌⊎◌}
use Rattle.std.specs.List.{list_any}
use Rattle.std.proofs.lemmas.Bool.{agree_below, agree_below_at, and_parts, or_cases, not-true, eqb-true, ltb-true, leb-true, both_ways}
use Rattle.l3_huff.specs.Tables.{IsTable, is_table, profile_tables, width_at, first_at, linbits_at, base_of, width_of, linbits_of, lengths_of, values_of, codes_of, greatest_of}
use Rattle.l3_huff.specs.ReadingTables.{longest_at, first_cell_at, longest_of}
use Rattle.l3_huff.proofs.Entries.{all_apart}

-- the numbers of a table
pub record IsShaped (table : ℕ) : Type 0 where
  pub some : 0 < width_of table
  pub wide : width_of table ≤ 16
  pub last : (width_of table ≡ 16) ⊎ (linbits_of table ≡ 0)
  pub few : linbits_of table ≤ 13
  pub placed : first_at (base_of table) + width_of table * width_of table ≤ 611
  pub short : longest_of table ≤ 12
  pub cells : first_cell_at (base_of table) + 2 ^ longest_of table ≤ 13321

abbrev shape_test : ℕ → Bool
shape_test t =
    ltb 0 (width_of t) && (leb (width_of t) 16 && ((eqb (width_of t) 16 || eqb (linbits_of t) 0) && (leb (linbits_of t) 13
    && (leb (first_at (base_of t) + width_of t * width_of t) 611 && (leb (longest_of t) 12 && leb (first_cell_at (base_of t) + 2 ^ longest_of t) 13321)))))

shape_from : (t : ℕ) → shape_test t ≡ true → IsShaped t
shape_from t h =
    let a = and_parts _ _ h in
    let b = and_parts _ _ a.1 in
    let c = and_parts _ _ b.1 in
    let d = and_parts _ _ c.1 in
    let e = and_parts _ _ d.1 in
    let f = and_parts _ _ e.1 in
    record {
      some = ltb-true _ _ a.0;
      wide = leb-true _ _ b.0;
      last = elim (or_cases (eqb (width_of t) 16) (eqb (linbits_of t) 0) c.0) [ inl full ↦ inl (eqb-true _ _ full) | inr none ↦ inr (eqb-true _ _ none) ];
      few = leb-true _ _ d.0;
      placed = leb-true _ _ e.0;
      short = leb-true _ _ f.0;
      cells = leb-true _ _ f.1;
    }

abbrev all_below : List ℕ → Bool
all_below [] = true
all_below (x ∷ xs) = ltb x 32 && all_below xs

-- the tables of the profile are below 32
in_profile : (t : ℕ) (ts : List ℕ) → all_below ts ≡ true → list_any (eqb t) ts ≡ true → t < 32
in_profile t [] h is = absurd cc
in_profile t (x ∷ xs) h is =
    let parts = and_parts (ltb x 32) (all_below xs) h in
    elim (or_cases (eqb t x) (list_any (eqb t) xs) is) [
      | inl here ↦ rw (eqb-true t x here) (ltb-true x 32 parts.0)
      | inr later ↦ in_profile t xs parts.1 later
    ]

pub IsTable-below : (t : ℕ) → IsTable t → t < 32
unfolding is_table
IsTable-below t is = in_profile t profile_tables refl is

shapes_pass : agree_below (λ t. not (is_table t) || shape_test t) (λ _. true) 32 ≡ true
unfolding is_table width_at first_at linbits_at longest_at first_cell_at
shapes_pass = refl

pub shape_of : (t : ℕ) → IsTable t → IsShaped t
shape_of t is =
    let tested : (not (is_table t) || shape_test t) ≡ true = agree_below_at (λ t. not (is_table t) || shape_test t) (λ _. true) 32 t shapes_pass (IsTable-below t is) in
    elim (or_cases (not (is_table t)) (shape_test t) tested) [
      | inl none ↦ absurd (both_ways (is_table t) (not-true (is_table t) none) is)
      | inr pass ↦ shape_from t pass
    ]

-- the codes of a table
pub record IsCoded (table : ℕ) : Type 0 where
  pub size : length (codes_of table) ≡ width_of table * width_of table
  pub free : all_apart (codes_of table) ≡ true

abbrev code_test : ℕ → Bool
code_test base = eqb (width_at base) 0 || (eqb (length (codes_of base)) (width_of base * width_of base) && all_apart (codes_of base))

codes_pass : agree_below code_test (λ _. true) 25 ≡ true
unfolding codes_of lengths_of values_of width_at first_at
codes_pass = refl

base_below : (t : ℕ) → base_of t < 25
base_below t = omega arith

base-base : (t : ℕ) → base_of (base_of t) ≡ base_of t
base-base t = omega arith

pub codes_of-base : (t : ℕ) → codes_of (base_of t) ≡ codes_of t
unfolding codes_of lengths_of values_of
codes_of-base t = rw base-base refl

pub coded_of : (t : ℕ) → IsTable t → IsCoded t
coded_of t is =
    let shape = shape_of t is in
    let some = shape.some in
    let base = base_of t in
    let tested : code_test base ≡ true = agree_below_at code_test (λ _. true) 25 base codes_pass (base_below t) in
    elim (or_cases (eqb (width_at base) 0) (eqb (length (codes_of base)) (width_of base * width_of base) && all_apart (codes_of base)) tested) [
      | inl none ↦ absurd (omega (arith, eqb-true (width_at base) 0 none))
      | inr pass ↦
          let parts = and_parts (eqb (length (codes_of base)) (width_of base * width_of base)) (all_apart (codes_of base)) pass in
          let same : width_of base ≡ width_of t = ap width_at (base-base t) in
          record {
            size = ap length (sym (codes_of-base t)) ∙ (eqb-true (length (codes_of base)) (width_of base * width_of base) parts.0 ∙ ap (λ w. w * w) same);
            free = ap all_apart (sym (codes_of-base t)) ∙ parts.1;
          }
    ]

-- no table holds more than 8206
limits_pass : agree_below (λ t. not (is_table t) || leb (greatest_of t) 8206) (λ _. true) 32 ≡ true
unfolding is_table greatest_of width_at linbits_at
limits_pass = refl

pub greatest-limit : (t : ℕ) → IsTable t → greatest_of t ≤ 8206
greatest-limit t is =
    let tested : (not (is_table t) || leb (greatest_of t) 8206) ≡ true = agree_below_at (λ t. not (is_table t) || leb (greatest_of t) 8206) (λ _. true) 32 t limits_pass (IsTable-below t is) in
    elim (or_cases (not (is_table t)) (leb (greatest_of t) 8206) tested) [
      | inl none ↦ absurd (both_ways (is_table t) (not-true (is_table t) none) is)
      | inr pass ↦ leb-true (greatest_of t) 8206 pass
    ]
