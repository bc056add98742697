-- The board at the start, a new worker, the word for shut and the bell keep the rule.
use Rattle.std.proofs.Common.{◌≡◌, ℕ, zero, suc, ◌+◌, ◌-◌, ◌%◌, ◌^◌, ◌<◌, true, false, if◌then◌else◌, List, [], ◌∷◌, ◌++◌, map, length, set, get_or, refl, sym, ap, ◌∙◌, subst, arith, Option, Some, None, replicate}
use Rattle.std.proofs.lemmas.List.{length-map, set-append_right, get_or-replicate}
use mathlib.Core.Option.{none, some, some-injective, some-ne-none}
use lib.ListN.{get_elem?}
use Rattle.atomic_table.specs.Table.{Me, Allows, keeps, step, Splits, opening}
use Rattle.atomic_table.proofs.Lists.{set_again, at_map}
use Rattle.l3_lanes.specs.declared.view.View.{View}
use Rattle.l3_lanes.specs.declared.view.Tell.TheVariants.{Free}
use Rattle.l3_lanes.specs.Words.{Lane, empty, code, granule_of, IsOwned, IsFull}
use Rattle.l3_lanes.specs.Rule.{Fits, Holds, free_empty}
use Rattle.l3_lanes.specs.Views.{noted, newcomer, opening_desk}
use Rattle.l3_lanes.specs.Steps.{Shuts, Rings}
use Rattle.l3_lanes.proofs.MoveLemmas.{not_empty, none_some, within, is_there, is_desk, desk_notes, hired}
use Rattle.l3_lanes.specs.Calls.{IsDesk}
use Rattle.l3_lanes.proofs.DeskLemmas.{moved_to}

pub at_replicate : {A : Type 0} (n k : ℕ) (a x : A) → get_elem? (replicate n a) k ≡ some x → x ≡ a
at_replicate zero k a x e = absurd (some-ne-none x (sym e))
at_replicate (suc n) zero a x e = sym (some-injective a x e)
at_replicate (suc n) (suc k) a x e = at_replicate n k a x e

there_replicate : {A : Type 0} (n k : ℕ) (a : A) → k < n → get_elem? (replicate n a) k ≡ some a
there_replicate zero k a h = absurd (omega arith)
there_replicate (suc n) zero a h = refl
there_replicate (suc n) (suc k) a h = there_replicate n k a (omega arith)

pub length_rep : {A : Type 0} (n : ℕ) (a : A) → length (replicate n a) ≡ n
length_rep zero a = refl
length_rep (suc n) a = ap suc (length_rep n a)

row_of_zeros : (n : ℕ) → replicate (suc (suc n)) 0 ≡ map code (replicate n empty) ++ 0 ∷ 0 ∷ []
row_of_zeros zero = refl
row_of_zeros (suc n) = ap (λ (z : List ℕ). 0 ∷ z) (row_of_zeros n)

module _ {T : Type 0} (number : T → ℕ) where
  pub shuts : (slots id : ℕ) (me : Me (Option T) View) → me.0.desk ≡ true → Allows (Holds number) slots id me slots (λ _. 1) (λ _. Shuts number (step slots slots 1 0 none) me 1)
  shuts slots id me desk s h many at small =
      let d = is_desk number h.4 id me.0 at desk in
      let w : View = record (noted me.0 slots 1) { shut = true } in
      let long : length (map code h.0) ≡ slots = simp length-map (h.4.as_many ∙ many) in
      let words : set s.words slots 1 ≡ map code h.0 ++ 1 ∷ h.3 ∷ [] = ap (λ (z : List ℕ). set z slots 1) h.4.shows ∙ (set-append_right (map code h.0) (h.2 ∷ h.3 ∷ []) slots slots 1 long (omega arith) ∙ ap (λ (z : ℕ). map code h.0 ++ set (h.2 ∷ h.3 ∷ []) z 1) (let q : slots - slots ≡ 0 = omega arith in q)) in
      let kept = desk_notes number h.4 (set s.words slots 1) 1 h.3 w desk (ap (λ (z : View). z.claim) d.1) (ap (λ (z : View). z.late) d.1) (ap (λ (z : View). z.tells) d.1) words refl in
      (w, keeps, tt, (h.0, w, 1, h.3, moved_to number refl refl (ap (λ (j : ℕ). set s.views j w) (sym d.0)) kept), (refl, refl))

  pub rings : (slots id : ℕ) (me : Me (Option T) View) (k : ℕ) → me.0.desk ≡ true → Allows (Holds number) slots id me (slots + 1) (λ n. (n + k) % 2 ^ 64) (Rings number (step slots (slots + 1) k 0 none) me)
  rings slots id me k desk s h many at small =
      let d = is_desk number h.4 id me.0 at desk in
      let n : ℕ = (get_or s.words (slots + 1) 0 + k) % 2 ^ 64 in
      let long : length (map code h.0) ≡ slots = simp length-map (h.4.as_many ∙ many) in
      let words : set s.words (slots + 1) n ≡ map code h.0 ++ h.2 ∷ n ∷ [] = ap (λ (z : List ℕ). set z (slots + 1) n) h.4.shows ∙ (set-append_right (map code h.0) (h.2 ∷ h.3 ∷ []) slots (slots + 1) n long (omega arith) ∙ ap (λ (z : ℕ). map code h.0 ++ set (h.2 ∷ h.3 ∷ []) z n) (let q : slots + 1 - slots ≡ 1 = omega arith in q)) in
      let kept = desk_notes number h.4 (set s.words (slots + 1) n) h.2 n me.0 desk (ap (λ (z : View). z.claim) d.1) (ap (λ (z : View). z.late) d.1) (ap (λ (z : View). z.tells) d.1) words (h.4.shut_is ∙ ap (λ (z : View). if z.shut then 1 else 0) (sym d.1)) in
      (me.0, keeps, tt, (h.0, me.0, h.2, n, moved_to number refl refl (ap (λ (j : ℕ). set s.views j me.0) (sym d.0)) kept), (refl, refl))

  pub hires : (id : ℕ) (v : View) → Splits (Holds number) id v v (newcomer v)
  hires id v s h at = (h.0, h.1, h.2, h.3, moved_to number refl refl (ap (λ (z : List View). z ++ newcomer v ∷ []) (sym (set_again s.views id v at))) (hired number h.4 (newcomer v) refl refl))

  pub opens : (count : ℕ) (xs : List (Option T)) → length xs ≡ count → ((c : ℕ) (y : Option T) → get_elem? xs c ≡ some y → IsFull y) → Holds number (opening (replicate (suc (suc count)) 0) xs (opening_desk count))
  opens count xs many full = (
    replicate count empty,
    opening_desk count,
    0,
    0,
    record {
      shows = row_of_zeros count;
      as_many = length_rep count empty ∙ (sym many ∙ sym (let q : length (map (λ (y : Option T). some y) xs) ≡ length xs = simp length-map in q));
      shut_is = refl;
      placed = λ c x e i g. absurd (none_some i (ap granule_of (sym (at_replicate count c empty x e)) ∙ g));
      desk_is = refl;
      desk_at = refl;
      one_desk = λ p v e d. first_only p v e;
      fits = λ c x e. let low : c < count = let a = within (replicate count empty) c x e in let b = length_rep count empty in omega arith in let y = is_there xs c (omega arith) in
          (Free, some y.0, there_replicate count c Free low, at_map (λ (z : Option T). some z) xs c y.0 y.1, subst (λ (q : Lane). Fits number Free q (some y.0)) (sym (at_replicate count c empty x e)) (free_empty (full c y.0 y.1)));
      owner = λ c x p i e own. absurd (not_empty p i (subst (λ (q : Lane). IsOwned q p i) (at_replicate count c empty x e) own));
      claims = λ p v c i e has. absurd (no_claims p v c i e has);
      lates = λ p v c i e has l. absurd (no_claims p v c i e has);
    },
  )
    where
      first_only : (p : ℕ) (v : View) → get_elem? (opening_desk count ∷ []) p ≡ some v → p ≡ 0
      first_only zero v e = refl
      first_only (suc p) v e = absurd (some-ne-none v (sym e))

      no_claims : (p : ℕ) (v : View) (c i : ℕ) → get_elem? (opening_desk count ∷ []) p ≡ some v → v.claim ≡ Some (c, i) → ⊥
      no_claims zero v c i e has = let q : opening_desk count ≡ v = some-injective (opening_desk count) v e in none_some (c, i) (ap (λ (u : View). u.claim) q ∙ has)
      no_claims (suc p) v c i e has = absurd (some-ne-none v (sym e))

full_map : {T : Type 0} (xs : List T) (c : ℕ) (y : Option T) → get_elem? (map (λ x. Some x) xs) c ≡ some y → IsFull y
full_map [] c y e = absurd (some-ne-none y (sym e))
full_map (x ∷ xs) zero y e = (x, sym (some-injective (Some x) y e))
full_map (x ∷ xs) (suc c) y e = full_map xs c y e

pub opens_with : {T : Type 0} (number : T → ℕ) (count two : ℕ) (blanks : List T) (xs : List (Option T)) (words : List ℕ) → length blanks ≡ count → two ≡ count + 2 → xs ≡ map (λ x. Some x) blanks → words ≡ replicate two 0 → Holds number (opening words xs (opening_desk count))
opens_with number count two blanks xs words many is_two is zeros =
    let xs' = map (λ x. Some x) blanks in
    let same : two ≡ suc (suc count) = omega arith in
    let h = opens number count xs' (let q : length xs' ≡ length blanks = simp length-map in q ∙ many) (λ c y e. full_map blanks c y e) in
    subst (λ (z : List ℕ × List (Option _)). Holds number (opening z.0 z.1 (opening_desk count))) (λ i. (sym (zeros ∙ ap (λ (k : ℕ). replicate k 0) same) i, sym is i)) h

pub desk_start : {S : Type 0} (count : ℕ) (me : Me S View) (told : List (Option ℕ)) → me ≡ (opening_desk count, []) → told ≡ replicate count None → IsDesk count me told false
desk_start {S} count me told is all = subst (λ (z : Me S View × List (Option ℕ)). IsDesk count z.0 z.1 false) (λ i. (sym is i, sym all i)) record {
  desk = refl;
  no_slot = refl;
  shut_is = refl;
  as_many = length_rep count None;
  places = length_rep (count + 1) [];
  knows = λ c low. (Free, there_replicate count c Free low, sym (get_or-replicate count c None None low), refl);
}
