-- The code that bits begin with.
use Rattle.std.proofs.Common.{◌≡◌, ℕ, zero, suc, ◌<◌, ◌≤◌, ◌-◌, ◌^◌, Bool, true, false, ◌&&◌, List, [], ◌∷◌, ◌++◌, length, drop, get_or, leb, Option, Some, None, refl, sym, ap, subst, arith, inl, inr, ◌∙◌}
use Rattle.std.specs.Prelude.{All, sum_by}
use Rattle.std.proofs.lemmas.Bool.{and_parts, cases_Bool, cases_order, leb-true, false≢true}
use Rattle.std.proofs.lemmas.Option.{same_Some}
use Rattle.std.proofs.lemmas.List.Elements.{All-nil, All-cons}
use Rattle.l3_huff.specs.Facts.{Begins, IsCompleteCode}
use Rattle.l3_huff.specs.Reading.{begins, entry_at, ◌>>=◌}

-- the lists differ at a place that both have
abbrev pub apart : List Bool → List Bool → Bool
apart (true ∷ xs) (true ∷ ys) = apart xs ys
apart (false ∷ xs) (false ∷ ys) = apart xs ys
apart (true ∷ xs) (false ∷ ys) = true
apart (false ∷ xs) (true ∷ ys) = true
apart _ _ = false

abbrev pub apart_from : List Bool → List (List Bool) → Bool
apart_from c [] = true
apart_from c (d ∷ ds) = apart c d && apart_from c ds

-- no code begins another
abbrev pub all_apart : List (List Bool) → Bool
all_apart [] = true
all_apart (c ∷ cs) = apart_from c cs && all_apart cs

pub begins_is : (c bits : List Bool) → begins c bits ≡ true → bits ≡ c ++ drop (length c) bits
begins_is [] bits h = refl
begins_is (true ∷ c) [] h = absurd cc
begins_is (false ∷ c) [] h = absurd cc
begins_is (true ∷ c) (true ∷ bits) h = ap (λ l. true ∷ l) (begins_is c bits h)
begins_is (true ∷ c) (false ∷ bits) h = absurd cc
begins_is (false ∷ c) (true ∷ bits) h = absurd cc
begins_is (false ∷ c) (false ∷ bits) h = ap (λ l. false ∷ l) (begins_is c bits h)

begins_own : (c rest : List Bool) → begins c (c ++ rest) ≡ true
begins_own [] rest = refl
begins_own (true ∷ c) rest = begins_own c rest
begins_own (false ∷ c) rest = begins_own c rest

pub drop_own : (c rest : List Bool) → drop (length c) (c ++ rest) ≡ rest
drop_own [] rest = refl
drop_own (x ∷ c) rest = drop_own c rest

-- what differs from a code doesn't begin it, whatever follows
apart_is : (c d rest : List Bool) → apart c d ≡ true → begins c (d ++ rest) ≡ false
apart_is [] d rest h = absurd cc
apart_is (true ∷ c) [] rest h = absurd cc
apart_is (false ∷ c) [] rest h = absurd cc
apart_is (true ∷ c) (true ∷ d) rest h = apart_is c d rest h
apart_is (true ∷ c) (false ∷ d) rest h = refl
apart_is (false ∷ c) (true ∷ d) rest h = refl
apart_is (false ∷ c) (false ∷ d) rest h = apart_is c d rest h

-- a list and one that it begins aren't apart
apart-longer : (c rest : List Bool) → apart c (c ++ rest) ≡ false
apart-longer [] rest = refl
apart-longer (true ∷ c) rest = apart-longer c rest
apart-longer (false ∷ c) rest = apart-longer c rest

apart-shorter : (c rest : List Bool) → apart (c ++ rest) c ≡ false
apart-shorter [] [] = refl
apart-shorter [] (true ∷ rest) = refl
apart-shorter [] (false ∷ rest) = refl
apart-shorter (true ∷ c) rest = apart-shorter c rest
apart-shorter (false ∷ c) rest = apart-shorter c rest

apart_at : (c : List Bool) (ds : List (List Bool)) (i : ℕ) → apart_from c ds ≡ true → i < length ds → apart c (get_or ds i []) ≡ true
apart_at c [] i h lt = absurd (omega arith)
apart_at c (d ∷ ds) zero h lt = (and_parts (apart c d) (apart_from c ds) h).0
apart_at c (d ∷ ds) (suc i) h lt = apart_at c ds i (and_parts (apart c d) (apart_from c ds) h).1 (omega arith)

two_apart : (cs : List (List Bool)) (i j : ℕ) → all_apart cs ≡ true → i < j → j < length cs → apart (get_or cs i []) (get_or cs j []) ≡ true
two_apart [] i j h lt in' = absurd (omega arith)
two_apart (c ∷ cs) zero zero h lt in' = absurd (omega arith)
two_apart (c ∷ cs) zero (suc j) h lt in' = apart_at c cs j (and_parts (apart_from c cs) (all_apart cs) h).0 (omega arith)
two_apart (c ∷ cs) (suc i) zero h lt in' = absurd (omega arith)
two_apart (c ∷ cs) (suc i) (suc j) h lt in' = two_apart cs i j (and_parts (apart_from c cs) (all_apart cs) h).1 (omega arith) (omega arith)

prefix_free : (cs : List (List Bool)) (i j : ℕ) → all_apart cs ≡ true → i < length cs → j < length cs → Begins (get_or cs i []) (get_or cs j []) → i ≡ j
prefix_free cs i j h li lj begun =
    elim (cases_order i j) [
      | inl same ↦ same
      | inr other ↦ elim other [
        | inl below ↦ absurd (false≢true (sym (apart-longer (get_or cs i []) begun.0) ∙ (ap (apart (get_or cs i [])) (sym begun.1) ∙ two_apart cs i j h below lj)))
        | inr above ↦ absurd (false≢true (sym (apart-shorter (get_or cs i []) begun.0) ∙ (ap (λ l. apart l (get_or cs i [])) (sym begun.1) ∙ two_apart cs j i h above li)))
      ]
    ]

-- no list is longer than 12
abbrev pub all_short : List (List Bool) → Bool
all_short [] = true
all_short (c ∷ cs) = leb (length c) 12 && all_short cs

pub all_short-is : (cs : List (List Bool)) → all_short cs ≡ true → All (λ c. length c ≤ 12) cs
all_short-is [] h = All-nil (λ c. length c ≤ 12)
all_short-is (c ∷ cs) h =
    let parts = and_parts (leb (length c) 12) (all_short cs) h in
    All-cons (λ c. length c ≤ 12) c cs (leb-true (length c) 12 parts.0) (all_short-is cs parts.1)

-- a table that passes the tests is a complete prefix code
pub complete_code : (cs : List (List Bool)) → all_apart cs ≡ true → all_short cs ≡ true → sum_by (λ c. 2 ^ (12 - length c)) cs ≡ 2 ^ 12 → IsCompleteCode cs
complete_code cs free short full = record {
  apart = λ i j li lj begun. prefix_free cs i j free li lj begun;
  short = all_short-is cs short;
  full = full;
}

pub record IsEntry (cs : List (List Bool)) (bits : List Bool) (x : ℕ × List Bool) : Type 0 where
  pub within : x.0 < length cs
  pub text : bits ≡ get_or cs x.0 [] ++ x.1

-- what is found is there
pub entry_takes : (cs : List (List Bool)) (bits : List Bool) (x : ℕ × List Bool) → entry_at cs bits ≡ Some x → IsEntry cs bits x
entry_takes [] bits x e = absurd cc
entry_takes (c ∷ cs) bits x e =
    elim (cases_Bool (begins c bits)) as (λ _. IsEntry (c ∷ cs) bits x) [
      | inl yes' ↦
          let found : Some (0, drop (length c) bits) ≡ Some x = rw yes' at e in
          subst (IsEntry (c ∷ cs) bits) (same_Some (0, drop (length c) bits) x found) (record { within = omega arith; text = begins_is c bits yes' })
      | inr no' ↦
          let found : (entry_at cs bits >>= λ y. Some (suc y.0, y.1)) ≡ Some x = rw no' at e in
          later c cs bits (entry_at cs bits) x found (λ y is. entry_takes cs bits y is)
    ]
  where
    later : (c : List Bool) (cs : List (List Bool)) (bits : List Bool) (o : Option (ℕ × List Bool)) (x : ℕ × List Bool) → (o >>= λ y. Some (suc y.0, y.1)) ≡ Some x → ((y : ℕ × List Bool) → o ≡ Some y → IsEntry cs bits y) → IsEntry (c ∷ cs) bits x
    later c cs bits None x e h = absurd cc
    later c cs bits (Some y) x e h =
        let one = h y refl in
        let within = one.within in
        subst (IsEntry (c ∷ cs) bits) (same_Some (suc y.0, y.1) x e) (record { within = omega arith; text = one.text })

-- what is there is found
pub entry_again : (cs : List (List Bool)) (i : ℕ) (rest : List Bool) → all_apart cs ≡ true → i < length cs → entry_at cs (get_or cs i [] ++ rest) ≡ Some (i, rest)
entry_again [] i rest h lt = absurd (omega arith)
entry_again (c ∷ cs) zero rest h lt = rw (begins_own c rest, drop_own c rest) refl
entry_again (c ∷ cs) (suc i) rest h lt =
    let parts = and_parts (apart_from c cs) (all_apart cs) h in
    let lt' : i < length cs = omega arith in
    rw (apart_is c (get_or cs i []) rest (apart_at c cs i parts.0 lt'), entry_again cs i rest parts.1 lt') refl
