-- A worker's load and its claim keep the rule.
use Rattle.std.proofs.Common.{◌≡◌, ℕ, ◌+◌, ◌*◌, ◌/◌, ◌%◌, ◌<◌, inl, ⊎_elim, Bool, true, false, true≢false, eqb, List, ◌∷◌, set, get_or, refl, sym, ap, ◌∙◌, subst, arith, Option, Some, None, MatchBool}
use Rattle.std.proofs.lemmas.List.{set-get_or}
use Rattle.std.proofs.lemmas.Bool.Decides.{nat_tests}
use mathlib.Core.Option.{none, some, some-injective, some-ne-none}
use mathlib.Core.Option as maybe
use lib.ListN.{get_elem?}
use prog.Atomic.{either}
use Rattle.atomic_table.specs.Table.{Me, Allows, Act, keeps, takes, step, stepped, Valid, carried_after}
use Rattle.l3_lanes.specs.declared.view.View.{View}
use Rattle.l3_lanes.specs.declared.view.Tell.{Tell}
use Rattle.l3_lanes.specs.Words.{Lane, empty, offered, claimed, ready, withdrawn, code, IsOwned, HasNumber}
use Rattle.l3_lanes.specs.Rule.{Fits, Kept, Holds, told_offered, told_claimed}
use Rattle.l3_lanes.specs.Views.{noted}
use Rattle.l3_lanes.specs.Steps.{Loads, Claims}
use Rattle.l3_lanes.proofs.MoveLemmas.{none_some, is_there, word_is, worker_moves, worker_notes}

-- a word of the form 8 * i + 1 is that of an offered cell
is_offered : (x : Lane) (i : ℕ) → code x ≡ 8 * i + 1 → x ≡ offered i
is_offered empty i e = absurd (omega arith)
is_offered (offered j) i e = let q : j ≡ i = omega arith in ap offered q
is_offered (claimed j p) i e = absurd (omega arith)
is_offered (ready j) i e = absurd (omega arith)
is_offered (withdrawn j p) i e = absurd (omega arith)

module _ {T : Type 0} (number : T → ℕ) where
  pub loads : (slots id : ℕ) (me : Me (Option T) View) (c : ℕ) → me.0.desk ≡ false → Allows (Holds number) slots id me c (λ n. n) (Loads number (step slots c 0 0 none) me)
  loads slots id me c worker s h many at small =
      let n : ℕ = get_or s.words c 0 in
      let w : View = noted me.0 c n in
      let kept = worker_notes number h.4 id me.0 w at worker refl refl refl in
      let words : List ℕ = set s.words c n in
      let same : s.words ≡ words = sym (set-get_or s.words c 0) in
      (w, keeps, tt, (h.0, h.1, h.2, h.3, subst (λ (ws : List ℕ). Kept number ws s.homes (set s.views id w) h.0 h.1 h.2 h.3) same kept), (refl, refl))

  -- an offered cell is told to the desk, with the item at home
  offered_fits : (t : Tell) (h : maybe.Option (Option T)) (i : ℕ) → Fits number t (offered i) h → (y : Option T) × (h ≡ some y) × (HasNumber number i y)
  offered_fits t h i (told_offered {i = j} {y = y} e) = (y, refl, e)

  offered_claimed : (t : Tell) (h : maybe.Option (Option T)) (i p : ℕ) → Fits number t (offered i) h → Fits number t (claimed i p) none
  offered_claimed t h i p (told_offered e) = told_claimed

  not_owned : (i p j : ℕ) → IsOwned (offered i) p j → ⊥
  not_owned i p j own = ⊎_elim (λ (e : offered i ≡ claimed j p). let z : ⊥ = cc in z) (λ (e : offered i ≡ withdrawn j p). let z : ⊥ = cc in z) own

  claimed_by : (i id p j : ℕ) → IsOwned (claimed i id) p j → (p ≡ id) × (i ≡ j)
  claimed_by i id p j own = ⊎_elim (λ (e : claimed i id ≡ claimed j p). let a : p ≡ id = cc in let b : i ≡ j = cc in (a, b)) (λ (e : claimed i id ≡ withdrawn j p). let z : ⊥ = cc in absurd z) own

  pub claims : (slots id : ℕ) (me : Me (Option T) View) (c i : ℕ) → me.0.desk ≡ false → me.0.claim ≡ None → me.0.late ≡ false → c < slots
      → Allows (Holds number) slots id me c (λ n. either (eqb n (8 * i + 1)) (8 * i + 2) n) (Claims number (step slots c (8 * i + 1) (8 * i + 2) none) me)
  claims slots id me c i worker free prompt in_row s h many at small = go (eqb n (8 * i + 1)) refl
    where
      n : ℕ
      n = get_or s.words c 0

      Goal : Bool → Type 0
      Goal b = (w : View) × (a : Act (Option T)) × Valid s.homes me.1 a × Holds number (stepped s c (either b (8 * i + 2) n) id me.1 w a)
          × MatchBool b
          ((w ≡ record (noted me.0 c (8 * i + 2)) { claim = Some (c, (8 * i + 1) / 8) }) × ((y : Option T) × (carried_after me.1 a ≡ (c, y) ∷ me.1) × (HasNumber number ((8 * i + 1) / 8) y)) × ((8 * i + 1) / 8 % slots ≡ c))
          ((w ≡ noted me.0 c n) × (carried_after me.1 a ≡ me.1))

      go : (b : Bool) → eqb n (8 * i + 1) ≡ b → Goal b
      go true is =
          let found : n ≡ 8 * i + 1 = grind (arith, nat_tests) in
          let eighth : (8 * i + 1) / 8 ≡ i = omega arith in
          let x = is_there h.0 c (let m = h.4.as_many in omega arith) in
          let word = word_is number h.4 c x.0 x.1 in
          let offer : x.0 ≡ offered i = is_offered x.0 i (sym word ∙ found) in
          let cell : get_elem? h.0 c ≡ some (offered i) = x.1 ∙ ap (λ (z : Lane). some z) offer in
          let f = h.4.fits c (offered i) cell in
          let y = offered_fits f.0 f.1 i f.4 in
          let w : View = record (noted me.0 c (8 * i + 2)) { claim = Some (c, i) } in
          let here : i % slots ≡ c = subst (λ (m : ℕ). i % m ≡ c) many (h.4.placed c (offered i) cell i refl) in
          let kept = worker_moves number h.4 id c me.0 w (offered i) (claimed i id) none at worker worker cell
          f.0 f.1 f.2 f.3 (offered_claimed f.0 f.1 i id f.4)
          (λ j e. e)
          (λ p j own. absurd (not_owned i p j own))
          (λ p j own. let o = claimed_by i id p j own in (o.0, ap (λ (z : ℕ). Some (c, z)) o.1))
          (λ d j e. absurd (none_some (d, j) (sym free ∙ e)))
          (λ d j e. let pq : (c, i) ≡ (d, j) = cc in let a : d ≡ c = sym (ap (λ (z : ℕ × ℕ). z.0) pq) in let b : i ≡ j = ap (λ (z : ℕ × ℕ). z.1) pq in (a, inl (ap (λ (z : ℕ). claimed z id) b), (λ late. absurd (true≢false (sym late ∙ prompt))))) in
          (w, takes c y.0, f.3 ∙ ap (λ (z : maybe.Option (Option T)). some z) y.1, (set h.0 c (claimed i id), h.1, h.2, h.3, kept), (rw eighth refl, (y.0, refl, rw eighth y.2), rw eighth here))
      go false is =
          let w : View = noted me.0 c n in
          let kept = worker_notes number h.4 id me.0 w at worker refl refl refl in
          let same : s.words ≡ set s.words c n = sym (set-get_or s.words c 0) in
          (w, keeps, tt, (h.0, h.1, h.2, h.3, subst (λ (ws : List ℕ). Kept number ws s.homes (set s.views id w) h.0 h.1 h.2 h.3) same kept), (refl, refl))
