-- A worker's steps on the cell of its claim.
use Rattle.std.proofs.Common.{◌≡◌, ℕ, ◌+◌, ◌*◌, inr, ⊎_elim, true, false, eqb, List, ◌∷◌, set, get_or, refl, sym, ap, ◌∙◌, subst, arith, Option, Some, None}
use Rattle.std.proofs.lemmas.Bool.Decides.{nat_tests}
use mathlib.Core.Option.{none, some, some-injective, some-ne-none}
use mathlib.Core.Option as maybe
use prog.Atomic.{either}
use Rattle.atomic_table.specs.Table.{Me, Allows, Act, keeps, gives, step, carried_after}
use Rattle.l3_lanes.specs.declared.view.View.{View}
use Rattle.l3_lanes.specs.declared.view.Tell.{Tell}
use Rattle.l3_lanes.specs.Words.{Lane, empty, claimed, ready, withdrawn, code, granule_of, IsOwned, IsFull, HasNumber}
use Rattle.l3_lanes.specs.Rule.{Fits, Holds, told_claimed, told_ready, told_claimed_claimed, told_claimed_ready, left_withdrawn, left_empty}
use Rattle.l3_lanes.specs.Views.{noted}
use Rattle.l3_lanes.specs.Steps.{Deposits, Frees}
use Rattle.l3_lanes.proofs.MoveLemmas.{word_is, worker_moves, none_some, not_empty}
use Rattle.l3_lanes.proofs.DeskLemmas.{Acts, acts_home, moved_to}

module _ {T : Type 0} (number : T → ℕ) where
  -- what a step does to the cell of the worker's claim
  abbrev pub Local : ℕ → ℕ → ℕ → Me (Option T) View → (ℕ → ℕ) → (ℕ → Me (Option T) View → Type 0) → Lane → maybe.Option (Option T) → Type 0
  Local id c i me f says x h = (new : Lane) × (home : maybe.Option (Option T)) × (a : Act (Option T)) × (w : View)
      × (code new ≡ f (code x)) × ((t : Tell) → Fits number t x h → Fits number t new home) × Acts c me.1 h home a × (w.desk ≡ false)
      × ((j : ℕ) → granule_of new ≡ Some j → granule_of x ≡ Some j)
      × ((p j : ℕ) → IsOwned new p j → (p ≡ id) × (w.claim ≡ Some (c, j)))
      × ((d j : ℕ) → w.claim ≡ Some (d, j) → (d ≡ c) × IsOwned new id j × (w.late ≡ true → new ≡ withdrawn j id))
      × says (code x) (w, carried_after me.1 a)

  pub owned_by : (x : Lane) (p q i j : ℕ) → IsOwned x p i → IsOwned x q j → (q ≡ p) × (j ≡ i)
  owned_by x p q i j a b = ⊎_elim
      (λ (e : x ≡ claimed i p). ⊎_elim (λ (f : x ≡ claimed j q). let u : q ≡ p = cc in let v : j ≡ i = cc in (u, v)) (λ (f : x ≡ withdrawn j q). let z : ⊥ = cc in absurd z) b)
      (λ (e : x ≡ withdrawn i p). ⊎_elim (λ (f : x ≡ claimed j q). let z : ⊥ = cc in absurd z) (λ (f : x ≡ withdrawn j q). let u : q ≡ p = cc in let v : j ≡ i = cc in (u, v)) b)
      a

  pub worker_allows : (slots id : ℕ) (me : Me (Option T) View) (c i : ℕ) (f : ℕ → ℕ) (says : ℕ → Me (Option T) View → Type 0) → me.0.desk ≡ false → me.0.claim ≡ Some (c, i)
      → ((x : Lane) (h : maybe.Option (Option T)) → IsOwned x id i → (me.0.late ≡ true → x ≡ withdrawn i id) → Local id c i me f says x h) → Allows (Holds number) slots id me c f says
  worker_allows slots id me c i f says worker claim local s h many at small =
      let o = h.4.claims id me.0 c i at claim in
      let n : ℕ = get_or s.words c 0 in
      let word : n ≡ code o.0 = word_is number h.4 c o.0 o.1 in
      let g = h.4.fits c o.0 o.1 in
      let l = local o.0 g.1 o.2 (λ late. some-injective o.0 (withdrawn i id) (sym o.1 ∙ h.4.lates id me.0 c i at claim late)) in
      let acts = acts_home s.homes c me.1 g.1 l.1 l.2 g.3 l.6 in
      -- the value at home is that of the cell, whatever the desk knows
      let kept = worker_moves number h.4 id c me.0 l.3 o.0 l.0 l.1 at worker l.7 o.1
      g.0 g.1 g.2 g.3 (l.5 g.0 g.4)
      l.8
      (λ p j own. (owned_by o.0 id p i j o.2 own).0)
      l.9
      (λ d j e. let pq : (c, i) ≡ (d, j) = let z : Some (c, i) ≡ Some (d, j) = sym claim ∙ e in cc in sym (ap (λ (z : ℕ × ℕ). z.0) pq))
      l.10 in (
        l.3,
        l.2,
        acts.0,
        (set h.0 c l.0, h.1, h.2, h.3, moved_to number (ap (λ (z : ℕ). set s.words c z) (l.4 ∙ ap f (sym word))) (sym acts.1) refl kept),
        subst (λ (z : ℕ). says z (l.3, carried_after me.1 l.2)) (sym word) l.11,
      )

not_ready : (i p j : ℕ) → IsOwned (ready i) p j → ⊥
not_ready i p j own = ⊎_elim (λ (e : ready i ≡ claimed j p). let z : ⊥ = cc in z) (λ (e : ready i ≡ withdrawn j p). let z : ⊥ = cc in z) own

module _ {T : Type 0} (number : T → ℕ) where
  claimed_ready : (t : Tell) (h : maybe.Option (Option T)) (i p : ℕ) (y : Option T) → HasNumber number i y → Fits number t (claimed i p) h → Fits number t (ready i) (some y)
  claimed_ready t h i p y is told_claimed = told_ready is
  claimed_ready t h i p y is told_claimed_claimed = told_claimed_ready is

  withdrawn_empty : (t : Tell) (h : maybe.Option (Option T)) (i p : ℕ) (y : Option T) → IsFull y → Fits number t (withdrawn i p) h → Fits number t empty (some y)
  withdrawn_empty t h i p y full left_withdrawn = left_empty full

  module _ (slots id : ℕ) (me : Me (Option T) View) (c i : ℕ) (y : Option T) (r : List (ℕ × Option T)) (worker : me.0.desk ≡ false) (claim : me.0.claim ≡ Some (c, i)) (holds : me.1 ≡ (c, y) ∷ r) where
    abbrev deposit : ℕ → Me (Option T) View → Type 0
    deposit = Deposits number (step slots c (8 * i + 2) (8 * i + 3) none) me

    abbrev deposited_word : ℕ → ℕ
    deposited_word n = either (eqb n (8 * i + 2)) (8 * i + 3) n

    deposit_kept : HasNumber number i y → (h : maybe.Option (Option T)) → Local number id c i me deposited_word deposit (claimed i id) h
    deposit_kept is h =
        let hit : eqb (8 * i + 2) (8 * i + 2) ≡ true = grind (arith, nat_tests) in (
          ready i,
          some y,
          gives,
          record (noted me.0 c (8 * i + 3)) { claim = None },
          rw hit refl,
          (λ t f. claimed_ready t h i id y is f),
          (y, r, holds, refl),
          worker,
          (λ j e. e),
          (λ p j own. absurd (not_ready i p j own)),
          (λ d j e. absurd (none_some (d, j) e)),
          rw hit (refl, refl),
        )

    deposit_late : (h : maybe.Option (Option T)) → Local number id c i me deposited_word deposit (withdrawn i id) h
    deposit_late h =
        let miss : eqb (8 * i + 4) (8 * i + 2) ≡ false = grind (arith, nat_tests) in (
          withdrawn i id,
          h,
          keeps,
          record (noted me.0 c (8 * i + 4)) { late = true },
          rw miss refl,
          (λ t f. f),
          refl,
          worker,
          (λ j e. e),
          (λ p j own. let o = owned_by number (withdrawn i id) id p i j (inr refl) own in (o.0, claim ∙ ap (λ (z : ℕ). Some (c, z)) (sym o.1))),
          (λ d j e. let pq : (c, i) ≡ (d, j) = let z : Some (c, i) ≡ Some (d, j) = sym claim ∙ e in cc in
              let ij : i ≡ j = ap (λ (z : ℕ × ℕ). z.1) pq in let same : withdrawn i id ≡ withdrawn j id = ap (λ (z : ℕ). withdrawn z id) ij in
              (sym (ap (λ (z : ℕ × ℕ). z.0) pq), inr same, (λ _. same))),
          rw miss (omega arith, refl, refl),
        )

    pub deposits : HasNumber number i y → Allows (Holds number) slots id me c deposited_word deposit
    deposits is = worker_allows number slots id me c i deposited_word deposit worker claim
        (λ x h own late. ⊎_elim
        (λ (e : x ≡ claimed i id). subst (λ (z : Lane). Local number id c i me deposited_word deposit z h) (sym e) (deposit_kept is h))
        (λ (e : x ≡ withdrawn i id). subst (λ (z : Lane). Local number id c i me deposited_word deposit z h) (sym e) (deposit_late h))
        own)

    abbrev free : ℕ → Me (Option T) View → Type 0
    free n = Frees number (step slots c 0 0 none) me 0

    free_at : IsFull y → (h : maybe.Option (Option T)) → Local number id c i me (λ _. 0) free (withdrawn i id) h
    free_at full h = (
      empty,
      some y,
      gives,
      record (noted me.0 c 0) { claim = None; late = false },
      refl,
      (λ t f. withdrawn_empty t h i id y full f),
      (y, r, holds, refl),
      worker,
      (λ j e. absurd (none_some j e)),
      (λ p j own. absurd (not_empty p j own)),
      (λ d j e. absurd (none_some (d, j) e)),
      (refl, refl),
    )

    pub frees : me.0.late ≡ true → IsFull y → Allows (Holds number) slots id me c (λ _. 0) free
    frees late full = worker_allows number slots id me c i (λ _. 0) free worker claim
        (λ x h own is. subst (λ (z : Lane). Local number id c i me (λ _. 0) free z h) (sym (is late)) (free_at full h))
