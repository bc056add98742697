-- The desk's view after one step and after two.
use Rattle.std.proofs.Common.{◌≡◌, ℕ, zero, suc, ◌+◌, ◌*◌, ◌/◌, ◌<◌, length, true, false, eqb, eq-eqb, ne_eqb, MatchBool, ◌⊎◌, inl, inr, ⊎_elim, Option, List, [], ◌∷◌, set, refl, sym, ap, ◌∙◌, subst, arith}
use mathlib.Core.Option.{none, some}
use lib.ListN.{get_elem?}
use Rattle.atomic_table.specs.Table.{Me, step}
use Rattle.atomic_table.proofs.Lists.{set_here}
use Rattle.l3_lanes.specs.Words.{HasNumber}
use Rattle.l3_lanes.specs.declared.view.Tell.TheVariants.{Held, ToldClaimed, ToldReady, Left}
use Rattle.l3_lanes.specs.declared.view.View.{View}
use Rattle.l3_lanes.specs.declared.view.Tell.{Tell}
use Rattle.l3_lanes.specs.Views.{noted, told, HasTold, Notes}
use Rattle.l3_lanes.specs.Steps.{Looks, Revokes, Withdraws}
use Rattle.l3_lanes.proofs.MoveLemmas.{within}
use Rattle.l3_lanes.proofs.DeskLemmas.{told_after}
use Rattle.l3_lanes.proofs.NoteLemmas.{notes_one}

set_twice : {A : Type 0} (l : List A) (c : ℕ) (a b : A) → set (set l c a) c b ≡ set l c b
set_twice [] c a b = refl
set_twice (x ∷ xs) zero a b = refl
set_twice (x ∷ xs) (suc c) a b = ap (λ z. x ∷ z) (set_twice xs c a b)

pub eighth : (i : ℕ) → (8 * i + 1) / 8 ≡ i
eighth i = omega arith

pub tells_at : (v w : View) (c n : ℕ) (t u : Tell) → get_elem? v.tells c ≡ some u → w ≡ told (noted v c n) c t → get_elem? w.tells c ≡ some t
tells_at v w c n t u at e = rw e (set_here v.tells c t (within v.tells c u at))

pub after_one : (v w : View) (c n : ℕ) (t u : Tell) → w ≡ told (noted v c n) c t → t ≡ u → HasTold v c u w
after_one v w c n t u e same = subst (λ (z : View). HasTold v c u z) (sym e) (told_after v c n t u same)

pub after_then : (v w x : View) (c : ℕ) (t u : Tell) → HasTold v c t w → HasTold w c u x → HasTold v c u x
after_then v w x c t u a b = record {
  desk = b.desk ∙ a.desk;
  shut = b.shut ∙ a.shut;
  claim = b.claim ∙ a.claim;
  late = b.late ∙ a.late;
  tells = b.tells ∙ (ap (λ (z : List Tell). set z c u) a.tells ∙ set_twice v.tells c t u);
}

pub tells_after : (v w : View) (c : ℕ) (t u : Tell) → get_elem? v.tells c ≡ some u → HasTold v c t w → get_elem? w.tells c ≡ some t
tells_after v w c t u at a = rw a.tells (set_here v.tells c t (within v.tells c u at))

hit : (n m : ℕ) (A B : Type 0) → n ≡ m → MatchBool (eqb n m) A B → A
hit n m A B e x = let q : eqb n m ≡ true = eq-eqb n m e in rw q at x

miss : (n m : ℕ) (A B : Type 0) → (n ≡ m → ⊥) → MatchBool (eqb n m) A B → B
miss n m A B e x = let q : eqb n m ≡ false = ne_eqb n m e in rw q at x

module _ {T : Type 0} (number : T → ℕ) (slots c i : ℕ) (me new : Me (Option T) View) (n : ℕ) where
  pub revoke_hit : n ≡ 8 * i + 1 → Revokes number (step slots c (8 * i + 1) 0 none) me n new → HasTold me.0 c Held new.0 × ((y : Option T) × (new.1 ≡ (c, y) ∷ me.1) × HasNumber number i y)
  revoke_hit e says =
      let h = hit n (8 * i + 1) _ _ e says in
      (after_one me.0 new.0 c 0 Held Held h.0 refl, (h.1.0, h.1.1, subst (λ (z : ℕ). HasNumber number z h.1.0) (eighth i) h.1.2))

  pub revoke_missed : (n ≡ 8 * i + 1 → ⊥) → Revokes number (step slots c (8 * i + 1) 0 none) me n new
      → (new.1 ≡ me.1) × (((n ≡ 8 * i + 2) × HasTold me.0 c (ToldClaimed i) new.0) ⊎ ((n ≡ 8 * i + 3) × HasTold me.0 c (ToldReady i) new.0))
  revoke_missed e says =
      let h = miss n (8 * i + 1) _ _ e says in
      (h.0, ⊎_elim (λ (z : (n ≡ 8 * i + 1 + 1) × (new.0 ≡ told_of (ToldClaimed ((8 * i + 1) / 8)))). let q = z.0 in inl (omega arith, after_one me.0 new.0 c n (ToldClaimed ((8 * i + 1) / 8)) (ToldClaimed i) z.1 (ap ToldClaimed (eighth i)))) (λ (z : (n ≡ 8 * i + 1 + 2) × (new.0 ≡ told_of (ToldReady ((8 * i + 1) / 8)))). let q = z.0 in inr (omega arith, after_one me.0 new.0 c n (ToldReady ((8 * i + 1) / 8)) (ToldReady i) z.1 (ap ToldReady (eighth i)))) h.1)
    where
      told_of : Tell → View
      told_of t = told (noted me.0 c n) c t

  pub withdraw_hit : n ≡ 8 * i + 2 → Withdraws number (step slots c (8 * i + 2) (8 * i + 4) none) me n new → HasTold me.0 c (Left i) new.0
  withdraw_hit e says = let h = hit n (8 * i + 2) _ _ e says.1 in let q : (8 * i + 2) / 8 ≡ i = omega arith in after_one me.0 new.0 c (8 * i + 4) (Left ((8 * i + 2) / 8)) (Left i) h (ap Left q)

  pub withdraw_missed : (n ≡ 8 * i + 2 → ⊥) → Withdraws number (step slots c (8 * i + 2) (8 * i + 4) none) me n new → HasTold me.0 c (ToldReady i) new.0
  withdraw_missed e says = let h = miss n (8 * i + 2) _ _ e says.1 in let q : (8 * i + 2) / 8 ≡ i = omega arith in after_one me.0 new.0 c n (ToldReady ((8 * i + 2) / 8)) (ToldReady i) h.1 (ap ToldReady q)

  -- the granule is ready, or it is claimed
  pub revoke_ready : (n ≡ 8 * i + 1 → ⊥) → n ≡ 8 * i + 3 → Revokes number (step slots c (8 * i + 1) 0 none) me n new → HasTold me.0 c (ToldReady i) new.0
  revoke_ready e f says = ⊎_elim (λ (z : (n ≡ 8 * i + 2) × HasTold me.0 c (ToldClaimed i) new.0). let q = z.0 in absurd (omega arith)) (λ z. z.1) (revoke_missed e says).1

  pub revoke_begun : (n ≡ 8 * i + 1 → ⊥) → (n ≡ 8 * i + 3 → ⊥) → Revokes number (step slots c (8 * i + 1) 0 none) me n new → HasTold me.0 c (ToldClaimed i) new.0
  revoke_begun e f says = ⊎_elim (λ z. z.1) (λ z. absurd (f z.0)) (revoke_missed e says).1

  module _ (within' : c < length me.0.notes) where
    noted_one : (m : ℕ) (t : Tell) → new.0 ≡ told (noted me.0 c m) c t → Notes c (m ∷ []) me.0 new.0
    noted_one m t e = notes_one c m me.0 new.0 within' (ap (λ (v : View). v.notes) e)

    pub revoke_ready_notes : (n ≡ 8 * i + 1 → ⊥) → n ≡ 8 * i + 3 → Revokes number (step slots c (8 * i + 1) 0 none) me n new → Notes c ((8 * i + 3) ∷ []) me.0 new.0
    revoke_ready_notes e f says =
        let h = miss n (8 * i + 1) _ _ e says in
        subst (λ (m : ℕ). Notes c (m ∷ []) me.0 new.0) f
        (⊎_elim (λ z. let q = z.0 in absurd (omega arith)) (λ z. noted_one n (ToldReady ((8 * i + 1) / 8)) z.1) h.1)

    pub revoke_begun_notes : (n ≡ 8 * i + 1 → ⊥) → (n ≡ 8 * i + 3 → ⊥) → Revokes number (step slots c (8 * i + 1) 0 none) me n new → Notes c ((8 * i + 2) ∷ []) me.0 new.0
    revoke_begun_notes e f says =
        let h = miss n (8 * i + 1) _ _ e says in
        ⊎_elim (λ z. let q = z.0 in let is : n ≡ 8 * i + 2 = omega arith in subst (λ (m : ℕ). Notes c (m ∷ []) me.0 new.0) is (noted_one n (ToldClaimed ((8 * i + 1) / 8)) z.1))
        (λ z. let q = z.0 in let no : ⊥ = f (omega arith) in absurd no) h.1

    pub withdraw_missed_notes : (n ≡ 8 * i + 2 → ⊥) → Withdraws number (step slots c (8 * i + 2) (8 * i + 4) none) me n new → Notes c ((8 * i + 3) ∷ []) me.0 new.0
    withdraw_missed_notes e says =
        let h = miss n (8 * i + 2) _ _ e says.1 in
        let q = h.0 in let is : n ≡ 8 * i + 3 = omega arith in subst (λ (m : ℕ). Notes c (m ∷ []) me.0 new.0) is (noted_one n (ToldReady ((8 * i + 2) / 8)) h.1)

    -- a look that finds the cell in use
    pub look_missed_notes : (n ≡ 0 → ⊥) → Looks number (step slots c 0 0 none) me n new → Notes c (n ∷ []) me.0 new.0
    look_missed_notes e says = let h = miss n 0 _ _ e says in noted_one n h.1.0 h.1.1
