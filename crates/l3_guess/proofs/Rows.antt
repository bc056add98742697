-- A row whose first elements have changed by a rule, and the scores of such a row.
use Rattle.std.proofs.Common.{◌≡◌, ℕ, zero, suc, ◌+◌, ◌<◌, ◌≤◌, List, [], ◌∷◌, length, map, set, get_or, slice_get, Some, None, Option, true, false, nat_eq, refl, ap, sym, ◌++◌, take, drop, ◌∙◌, subst, arith}
use Rattle.std.proofs.lemmas.Option.{slice_get_within, get_or_from_slice_get}
use Rattle.std.proofs.lemmas.List.{map-append, take-map, drop-map}
use Rattle.std.specs.Prelude.{remove, nat_le, IfSome, IfNone}
use Rattle.std.proofs.lemmas.List.{get_or-map, take-append-le, take_all}
use Rattle.std.proofs.lemmas.Bool.Decides.{nat_tests}
use Rattle.l3_guess.specs.Scores.{risen, all_risen, best_place, worst_place, guess_of, guess_after, without_worst, after_tell, kept_answers}
use mathlib.Core.Logic.{dite}
use native.Mathlib.Decide.{ℕ_discrete}

slice_get-set_here : {A : Type 0} (l : List A) (i : ℕ) (a : A) → i < length l → slice_get (set l i a) i ≡ Some a
slice_get-set_here [] i a h = absurd (omega arith)
slice_get-set_here (x ∷ xs) zero a h = refl
slice_get-set_here (x ∷ xs) (suc i) a h = slice_get-set_here xs i a (omega arith)

slice_get-set_else : {A : Type 0} (l : List A) (i j : ℕ) (a : A) → (j ≡ i → ⊥) → slice_get (set l i a) j ≡ slice_get l j
slice_get-set_else [] i j a n = refl
slice_get-set_else (x ∷ xs) zero zero a n = absurd (n refl)
slice_get-set_else (x ∷ xs) zero (suc j) a n = refl
slice_get-set_else (x ∷ xs) (suc i) zero a n = refl
slice_get-set_else (x ∷ xs) (suc i) (suc j) a n = slice_get-set_else xs i j a (λ e. n (ap suc e))

module _ {A : Type 0} (P : A → A → Type 0) where
  -- the first i elements have changed by the rule, and the others are as they were
  abbrev pub Changed : List A → List A → ℕ → Type 0
  Changed old now i = (k : ℕ) (m : A) → slice_get old k ≡ Some m → (n : A) × (slice_get now k ≡ Some n) × (k < i → P m n) × (i ≤ k → n ≡ m)

  pub changed_more : (old now : List A) (i : ℕ) (d new : A) → Changed old now i → P (get_or now i d) new → Changed old (set now i new) (i + 1)
  changed_more old now i d new all step k m e =
      let o = all k m e in
      dite (ℕ_discrete k i)
      (λ same. let there : slice_get now i ≡ Some o.0 = subst (λ (j : ℕ). slice_get now j ≡ Some o.0) same o.1 in
      let xo : get_or now i d ≡ o.0 = get_or_from_slice_get now i o.0 d there in
      let om : o.0 ≡ m = o.3 (omega arith) in
      (new, rw same (slice_get-set_here now i new (slice_get_within now i o.0 there)), (λ _. subst (λ (z : A). P z new) (xo ∙ om) step), (λ le. absurd (omega arith))))
      (λ other. (o.0, slice_get-set_else now i k new other ∙ o.1, (λ lt. o.2 (omega arith)), (λ le. o.3 (omega arith))))

-- once each element has its new score, so have all
pub map-changed : {A : Type 0} (score answer : A → ℕ) (reserve : ℕ) (old now : List A) → length now ≡ length old →
    ((k : ℕ) (m : A) → slice_get old k ≡ Some m → (n : A) × (slice_get now k ≡ Some n) × (score n ≡ risen (score m) (answer m) reserve)) →
    map score now ≡ all_risen (map score old) (map answer old) reserve
map-changed score answer reserve [] [] long each = refl
map-changed score answer reserve [] (n ∷ now) long each = absurd (omega arith)
map-changed score answer reserve (m ∷ old) [] long each = absurd (omega arith)
map-changed {A = A} score answer reserve (m ∷ old) (n ∷ now) long each =
    let here = each zero m refl in
    let same : Some n ≡ Some here.0 = here.1 in
    let first : score n ≡ risen (score m) (answer m) reserve = ap score (some-same same) ∙ here.2 in
    let others = map-changed score answer reserve old now (omega arith) (λ k x e. each (suc k) x e) in
    ap (λ s. s ∷ map score now) first ∙ ap (λ ss. risen (score m) (answer m) reserve ∷ ss) others
  where
    some-same : {x y : A} → Some x ≡ Some y → x ≡ y
    some-same e = cc

-- once each element answers as it does after the change, so do all
pub map-told : {A : Type 0} (answer after : A → ℕ) (old now : List A) → length now ≡ length old →
    ((k : ℕ) (m : A) → slice_get old k ≡ Some m → (n : A) × (slice_get now k ≡ Some n) × (answer n ≡ after m)) →
    map answer now ≡ map after old
map-told answer after [] [] long each = refl
map-told answer after [] (n ∷ now) long each = absurd (omega arith)
map-told answer after (m ∷ old) [] long each = absurd (omega arith)
map-told {A = A} answer after (m ∷ old) (n ∷ now) long each =
    let here = each zero m refl in
    let same : Some n ≡ Some here.0 = here.1 in
    let first : answer n ≡ after m = ap answer (some-same same) ∙ here.2 in
    let others = map-told answer after old now (omega arith) (λ k x e. each (suc k) x e) in
    ap (λ s. s ∷ map answer now) first ∙ ap (λ ss. after m ∷ ss) others
  where
    some-same : {x y : A} → Some x ≡ Some y → x ≡ y
    some-same e = cc

pub map-remove : {A : Type 0} (f : A → ℕ) (rows : List A) (i : ℕ) → map f (remove rows i) ≡ remove (map f rows) i
map-remove f rows i = rw (take-map f i rows, drop-map f (suc i) rows) (map-append f (take i rows) (drop (suc i) rows))

-- what the row of the best score answers
pub guess_of-rows : {A : Type 0} (score answer : A → ℕ) (rows shown : List A) (p : ℕ) (row : A) → shown ≡ rows → p ≡ best_place (map score shown) → p < length shown →
    row ≡ get_or rows p row → answer row ≡ guess_of (map score rows) (map answer rows)
guess_of-rows score answer rows shown p row same best within read =
    let place : p ≡ best_place (map score rows) = best ∙ ap (λ xs. best_place (map score xs)) same in
    let long : p < length rows = subst (λ (xs : List _). p < length xs) same within in
    ap answer read ∙ (sym (get_or-map answer rows p row 0 long) ∙ ap (λ i. get_or (map answer rows) i 0) place)

-- a slice that was written back over a whole row
pub written_back : {A : Type 0} (old now : List A) (n : ℕ) → length now ≡ length old → n ≡ length old → take n (now ++ drop (length now) old) ≡ now
written_back old now n long all =
    let short : n ≤ length now = omega arith in
    take-append-le n now (drop (length now) old) short ∙ take_all n now (omega arith)

pub after_tell-between : (n : ℕ) (scores : List ℕ) → (n ≡ 0 → ⊥) → after_tell n scores ≡ scores
after_tell-between n scores some = let e : nat_eq n 0 ≡ false = grind (arith, nat_tests) in rw e refl

pub after_tell-turn : (n : ℕ) (scores : List ℕ) → n ≡ 0 → after_tell n scores ≡ without_worst scores
after_tell-turn n scores none = rw none refl

-- what rows answer, by the part of them that is asked
pub map-part : {A B : Type 0} (answer : B → ℕ) (part : A → B) (rows : List A) (parts : List B) → map part rows ≡ parts → map (λ row. answer (part row)) rows ≡ map answer parts
map-part answer part rows parts same = map-map rows ∙ ap (map answer) same
  where
    map-map : (xs : List _) → map (λ row. answer (part row)) xs ≡ map answer (map part xs)
    map-map [] = refl
    map-map (x ∷ xs) = ap (λ ys. answer (part x) ∷ ys) (map-map xs)

-- the answers after a tell that drops no member
pub answers-between : {A : Type 0} (answer : A → ℕ) (rows told : List A) (n tells : ℕ) (scores answers : List ℕ) → length told ≡ length rows → n ≡ length rows → (tells ≡ 0 → ⊥) →
    map answer told ≡ answers → map answer (take n (told ++ drop (length told) rows)) ≡ kept_answers tells scores answers
answers-between answer rows told n tells scores answers long all some is =
    let e : nat_eq tells 0 ≡ false = grind (arith, nat_tests) in
    ap (map answer) (written_back rows told n long all) ∙ rw e is

-- and after one that drops the worst, where there are others
pub answers-turn : {A : Type 0} (score answer : A → ℕ) (rows told left : List A) (n tells : ℕ) (scores answers : List ℕ) (dropped : Option ℕ) → length told ≡ length rows → n ≡ length rows → tells ≡ 0 →
    map score told ≡ scores → map answer told ≡ answers →
    IfNone dropped (length (map score (take n (told ++ drop (length told) rows))) ≡ 1) → IfNone dropped (left ≡ take n (told ++ drop (length told) rows)) →
    IfSome dropped (λ _. 1 < length (map score (take n (told ++ drop (length told) rows)))) →
    IfSome dropped (λ place. place ≡ worst_place (map score (take n (told ++ drop (length told) rows)))) →
    IfSome dropped (λ place. map answer left ≡ remove (map answer (take n (told ++ drop (length told) rows))) place) →
    map answer left ≡ kept_answers tells scores answers
answers-turn score answer rows told left n tells scores answers None long all none scored is one same several place gone =
    let back = written_back rows told n long all in
    let single : length scores ≡ 1 = ap length (sym scored) ∙ (ap (λ l. length (map score l)) (sym back) ∙ one) in
    let test : nat_le (length scores) 1 ≡ true = grind (arith, nat_tests) in
    rw (none, test) (ap (map answer) (same ∙ back) ∙ is)
answers-turn score answer rows told left n tells scores answers (Some at) long all none scored is one same several place gone =
    let back = written_back rows told n long all in
    let many : 1 < length scores = rw (← scored) (rw back at several) in
    let test : nat_le (length scores) 1 ≡ false = grind (arith, nat_tests) in
    let worst : at ≡ worst_place scores = place ∙ (ap (λ l. worst_place (map score l)) back ∙ ap worst_place scored) in
    rw (none, test) (gone ∙ (ap (λ l. remove (map answer l) at) back ∙ (ap (λ l. remove l at) is ∙ ap (remove answers) worst)))

pub IfNone-then : {X : Type 0} (r : Option X) (P Q : Type 0) → (P → Q) → IfNone r P → IfNone r Q
IfNone-then None P Q f p = f p
IfNone-then (Some x) P Q f p = tt

-- the guess after a tell
pub guess_after-same : (tells now : ℕ) (scores answers scores_now answers_now : List ℕ) → now ≡ tells → scores_now ≡ after_tell now scores → answers_now ≡ kept_answers now scores answers →
    guess_of scores_now answers_now ≡ guess_after tells scores answers
guess_after-same tells now scores answers scores_now answers_now same first second = rw (first, second, same) refl
