-- One cell, one view and one value at home change, and the rule stays: a worker moves, or the desk
-- moves.
use Rattle.std.proofs.Common.{◌≡◌, ◌≢◌, ℕ, zero, suc, ◌<◌, inr, ⊎_elim, true, false, true≢false, if◌then◌else◌, List, [], ◌∷◌, ◌++◌, map, length, set, get_or, refl, sym, ap, ◌∙◌, subst, arith, length-set, Option, Some, None}
use Rattle.std.proofs.lemmas.List.{map-set, set-append_left, length-map, get_or_append_left}
use mathlib.Core.Logic.{dite}
use native.Mathlib.Decide.{ℕ_discrete}
use mathlib.Core.Option.{some, some-injective, some-ne-none}
use mathlib.Core.Option as maybe
use lib.ListN.{get_elem?}
use Rattle.atomic_table.proofs.Lists.{at_set, set_here, set_else, at_longer, at_snoc}
use Rattle.l3_lanes.specs.declared.view.View.{View}
use Rattle.l3_lanes.specs.declared.view.Tell.{Tell}
use Rattle.l3_lanes.specs.Words.{Lane, empty, claimed, withdrawn, code, granule_of, IsOwned}
use Rattle.l3_lanes.specs.Rule.{Fits, IsPlaced, Kept}

pub within : {A : Type 0} (l : List A) (i : ℕ) (a : A) → get_elem? l i ≡ some a → i < length l
within [] i a e = absurd (some-ne-none a (sym e))
within (x ∷ xs) zero a e = omega arith
within (x ∷ xs) (suc i) a e = let r = within xs i a e in omega arith

pub is_there : {A : Type 0} (l : List A) (i : ℕ) → i < length l → (a : A) × (get_elem? l i ≡ some a)
is_there [] i h = absurd (omega arith)
is_there (x ∷ xs) zero h = (x, refl)
is_there (x ∷ xs) (suc i) h = is_there xs i (omega arith)

get_or-map : {A : Type 0} (f : A → ℕ) (l : List A) (i : ℕ) (a : A) → get_elem? l i ≡ some a → get_or (map f l) i 0 ≡ f a
get_or-map f [] i a e = absurd (some-ne-none a (sym e))
get_or-map f (x ∷ xs) zero a e = ap f (some-injective x a e)
get_or-map f (x ∷ xs) (suc i) a e = get_or-map f xs i a e

pub not_empty : (p j : ℕ) → IsOwned empty p j → ⊥
not_empty p j own = ⊎_elim (λ (e : empty ≡ claimed j p). let z : ⊥ = cc in z) (λ (e : empty ≡ withdrawn j p). let z : ⊥ = cc in z) own

pub none_some : {A : Type 0} (a : A) → None ≡ Some a → ⊥
none_some a e = cc

module _ {T : Type 0} (number : T → ℕ) where
  module _ {words : List ℕ} {homes : List (maybe.Option (Option T))} {views : List View} {cells : List Lane} {desk : View} {shut bell : ℕ} (k : Kept number words homes views cells desk shut bell) where
    -- what the word of a cell is
    pub word_is : (c : ℕ) (x : Lane) → get_elem? cells c ≡ some x → get_or words c 0 ≡ code x
    word_is c x at =
        let short : c < length (map code cells) = let w = within cells c x at in simp length-map w in
        rw (k.shows, get_or_append_left (map code cells) (shut ∷ bell ∷ []) 0 c short) (get_or-map code cells c x at)

    now_shows : (c : ℕ) (x new : Lane) → get_elem? cells c ≡ some x → set words c (code new) ≡ map code (set cells c new) ++ shut ∷ bell ∷ []
    now_shows c x new at =
        let short : c < length (map code cells) = let w = within cells c x at in simp length-map w in
        rw (k.shows, map-set) (set-append_left (map code cells) (shut ∷ bell ∷ []) c (code new) short)

    -- the changed cell and all others have granules of their own
    now_placed : (c : ℕ) (new : Lane) (home : maybe.Option (Option T)) → IsPlaced (length homes) c new → (d : ℕ) (y : Lane) → get_elem? (set cells c new) d ≡ some y → IsPlaced (length (set homes c home)) d y
    now_placed c new home here d y e =
        let many : length homes ≡ length (set homes c home) = sym (length-set homes c home) in
        subst (λ (m : ℕ). IsPlaced m d y) many (⊎_elim
        (λ (z : (d ≡ c) × (new ≡ y)). subst (λ (q : Lane). IsPlaced (length homes) d q) z.1 (subst (λ (j : ℕ). IsPlaced (length homes) j new) (sym z.0) here))
        (λ z. k.placed d y z.1)
        (at_set cells c d new y e))

    -- a worker is not the desk
    other_than_desk : (id : ℕ) (v : View) → get_elem? views id ≡ some v → v.desk ≡ false → 0 ≢ id
    other_than_desk id v at worker e =
        let here : get_elem? views id ≡ some desk = subst (λ (j : ℕ). get_elem? views j ≡ some desk) e k.desk_at in
        let same : desk ≡ v = some-injective desk v (sym here ∙ at) in
        true≢false (sym k.desk_is ∙ (ap (λ (u : View). u.desk) same ∙ worker))

    -- a worker's view and the one cell that it claims or gives back change
    pub worker_moves : (id c : ℕ) (v w : View) (x new : Lane) (home : maybe.Option (Option T))
        → get_elem? views id ≡ some v → v.desk ≡ false → w.desk ≡ false → get_elem? cells c ≡ some x
        → (t : Tell) (h : maybe.Option (Option T)) → get_elem? desk.tells c ≡ some t → get_elem? homes c ≡ some h → Fits number t new home
        → ((i : ℕ) → granule_of new ≡ Some i → granule_of x ≡ Some i)
        → ((p i : ℕ) → IsOwned x p i → p ≡ id)
        → ((p i : ℕ) → IsOwned new p i → (p ≡ id) × (w.claim ≡ Some (c, i)))
        → ((d i : ℕ) → v.claim ≡ Some (d, i) → d ≡ c)
        → ((d i : ℕ) → w.claim ≡ Some (d, i) → (d ≡ c) × IsOwned new id i × (w.late ≡ true → new ≡ withdrawn i id))
        → Kept number (set words c (code new)) (set homes c home) (set views id w) (set cells c new) desk shut bell
    worker_moves id c v w x new home at worker still cell t h tell_at home_at fits granule mine owner had has = record {
      shows = now_shows c x new cell;
      placed = now_placed c new home (λ i g. k.placed c x cell i (granule i g));
      as_many = simp length-set k.as_many;
      shut_is = k.shut_is;
      desk_is = k.desk_is;
      desk_at = set_else views id 0 w (other_than_desk id v at worker) ∙ k.desk_at;
      one_desk = λ p u e d. ⊎_elim (λ t. absurd (true≢false (sym d ∙ (ap (λ (z : View). z.desk) (sym t.1) ∙ still)))) (λ t. k.one_desk p u t.1 d) (at_set views id p w u e);
      fits = λ d y e. ⊎_elim
          (λ u. (t, home, subst (λ (j : ℕ). get_elem? desk.tells j ≡ some t) (sym u.0) tell_at, subst (λ (j : ℕ). get_elem? (set homes c home) j ≡ some home) (sym u.0) (set_here homes c home (within homes c h home_at)), subst (λ (z : Lane). Fits number t z home) u.1 fits))
          (λ t. let f = k.fits d y t.1 in (f.0, f.1, f.2, set_else homes c d home t.0 ∙ f.3, f.4))
          (at_set cells c d new y e);
      owner = λ d y p i e own. ⊎_elim
          (λ t. let o = owner p i (subst (λ (z : Lane). IsOwned z p i) (sym t.1) own) in (w, subst (λ (j : ℕ). get_elem? (set views id w) j ≡ some w) (sym o.0) (set_here views id w (within views id v at)), rw t.0 o.1))
          (λ t. let o = k.owner d y p i t.1 own in (o.0, set_else views id p w (λ same. t.0 (had d i (let z : get_elem? views id ≡ some o.0 = subst (λ (j : ℕ). get_elem? views j ≡ some o.0) same o.1 in let u : v ≡ o.0 = some-injective v o.0 (sym at ∙ z) in rw u o.2))) ∙ o.1, o.2))
          (at_set cells c d new y e);
      claims = λ p u d i e has'. ⊎_elim
          (λ t. let h = has d i (rw t.1 has') in (new, rw h.0 (set_here cells c new (within cells c x cell)), rw t.0 h.1))
          (λ t. let o = k.claims p u d i t.1 has' in (o.0, set_else cells c d new (λ same. t.0 (mine p i (let z : get_elem? cells c ≡ some o.0 = subst (λ (j : ℕ). get_elem? cells j ≡ some o.0) same o.1 in let y : x ≡ o.0 = some-injective x o.0 (sym cell ∙ z) in rw y o.2))) ∙ o.1, o.2))
          (at_set views id p w u e);
      lates = λ p u d i e has' late. ⊎_elim
          (λ (t : (p ≡ id) × (w ≡ u)). let h = has d i (rw t.1 has') in let z : new ≡ withdrawn i p = rw t.0 (h.2 (rw t.1 late)) in let y : get_elem? (set cells c new) c ≡ some (withdrawn i p) = set_here cells c new (within cells c x cell) ∙ ap (λ (q : Lane). some q) z in rw h.0 y)
          (λ t. let o = k.lates p u d i t.1 has' late in set_else cells c d new (λ same. t.0 (mine p i (let z : get_elem? cells c ≡ some (withdrawn i p) = subst (λ (j : ℕ). get_elem? cells j ≡ some (withdrawn i p)) same o in let y : x ≡ withdrawn i p = some-injective x (withdrawn i p) (sym cell ∙ z) in inr y))) ∙ o)
          (at_set views id p w u e);
    }

    -- a view changes in what no rule reads
    pub worker_notes : (id : ℕ) (v w : View) → get_elem? views id ≡ some v → v.desk ≡ false → w.desk ≡ v.desk → w.claim ≡ v.claim → w.late ≡ v.late → Kept number words homes (set views id w) cells desk shut bell
    worker_notes id v w at worker still same late = record {
      shows = k.shows;
      placed = k.placed;
      as_many = k.as_many;
      shut_is = k.shut_is;
      desk_is = k.desk_is;
      desk_at = set_else views id 0 w (other_than_desk id v at worker) ∙ k.desk_at;
      one_desk = λ p u e d. ⊎_elim (λ t. absurd (true≢false (sym d ∙ (ap (λ (z : View). z.desk) (sym t.1) ∙ (still ∙ worker))))) (λ t. k.one_desk p u t.1 d) (at_set views id p w u e);
      fits = k.fits;
      owner = λ d y p i e own. let o = k.owner d y p i e own in
          dite (ℕ_discrete p id)
          (λ same'. let z : get_elem? views id ≡ some o.0 = subst (λ (j : ℕ). get_elem? views j ≡ some o.0) same' o.1 in let u : v ≡ o.0 = some-injective v o.0 (sym at ∙ z) in (w, rw same' (set_here views id w (within views id v at)), same ∙ (rw u o.2)))
          (λ other. (o.0, set_else views id p w other ∙ o.1, o.2));
      claims = λ p u d i e has. ⊎_elim
          (λ (t : (p ≡ id) × (w ≡ u)). let z : v.claim ≡ Some (d, i) = sym same ∙ (rw t.1 has) in rw t.0 (k.claims id v d i at z))
          (λ t. k.claims p u d i t.1 has)
          (at_set views id p w u e);
      lates = λ p u d i e has l. ⊎_elim
          (λ (t : (p ≡ id) × (w ≡ u)). let z : v.claim ≡ Some (d, i) = sym same ∙ (rw t.1 has) in rw t.0 (k.lates id v d i at z (sym late ∙ (rw t.1 l))))
          (λ t. k.lates p u d i t.1 has l)
          (at_set views id p w u e);
    }

    pub is_desk : (id : ℕ) (v : View) → get_elem? views id ≡ some v → v.desk ≡ true → (id ≡ 0) × (v ≡ desk)
    is_desk id v at d =
        let zero_ : id ≡ 0 = k.one_desk id v at d in
        let here : get_elem? views 0 ≡ some v = subst (λ (j : ℕ). get_elem? views j ≡ some v) zero_ at in
        (zero_, some-injective v desk (sym here ∙ k.desk_at))

    -- the desk's view and one cell change
    pub desk_moves : (c : ℕ) (w : View) (t new_tell : Tell) (x new : Lane) (home : maybe.Option (Option T))
        → w.desk ≡ true → w.shut ≡ desk.shut → w.claim ≡ desk.claim → w.late ≡ desk.late → w.tells ≡ set desk.tells c new_tell
        → get_elem? cells c ≡ some x → Fits number new_tell new home → IsPlaced (length homes) c new
        → ((p i : ℕ) → IsOwned x p i → IsOwned new p i) → ((p i : ℕ) → IsOwned new p i → IsOwned x p i)
        → ((p i : ℕ) → x ≡ withdrawn i p → new ≡ withdrawn i p)
        → Kept number (set words c (code new)) (set homes c home) (set views 0 w) (set cells c new) w shut bell
    desk_moves c w t new_tell x new home is_desk' same_shut same_claim same_late tells cell fits here_placed onwards back stays =
        let here : get_elem? (set views 0 w) 0 ≡ some w = set_here views 0 w (within views 0 desk k.desk_at) in record {
          shows = now_shows c x new cell;
          placed = now_placed c new home here_placed;
          as_many = simp length-set k.as_many;
          shut_is = rw same_shut k.shut_is;
          desk_is = is_desk';
          desk_at = here;
          one_desk = λ p u e d. ⊎_elim (λ (z : (p ≡ 0) × (w ≡ u)). z.0) (λ z. k.one_desk p u z.1 d) (at_set views 0 p w u e);
          fits = λ d y e. ⊎_elim
              (λ (z : (d ≡ c) × (new ≡ y)). let f = k.fits c x cell in (
                new_tell,
                home,
                rw (tells, z.0) (set_here desk.tells c new_tell (within desk.tells c f.0 f.2)),
                rw z.0 (set_here homes c home (within homes c f.1 f.3)),
                subst (λ (q : Lane). Fits number new_tell q home) z.1 fits,
              ))
              (λ z. let f = k.fits d y z.1 in (f.0, f.1, rw tells (set_else desk.tells c d new_tell z.0 ∙ f.2), set_else homes c d home z.0 ∙ f.3, f.4))
              (at_set cells c d new y e);
          owner = λ d y p i e own.
              let old : (u : View) × (get_elem? views p ≡ some u) × (u.claim ≡ Some (d, i)) = ⊎_elim
              (λ (z : (d ≡ c) × (new ≡ y)). let o = k.owner c x p i cell (back p i (subst (λ (q : Lane). IsOwned q p i) (sym z.1) own)) in (o.0, o.1, rw z.0 o.2))
              (λ z. k.owner d y p i z.1 own)
              (at_set cells c d new y e) in
              dite (ℕ_discrete p 0)
              (λ zero_. let z : get_elem? views 0 ≡ some old.0 = subst (λ (j : ℕ). get_elem? views j ≡ some old.0) zero_ old.1 in let q : desk ≡ old.0 = some-injective desk old.0 (sym k.desk_at ∙ z) in (w, rw zero_ here, same_claim ∙ (rw q old.2)))
              (λ other. (old.0, set_else views 0 p w other ∙ old.1, old.2));
          claims = λ p u d i e has.
              let old : (y : Lane) × (get_elem? cells d ≡ some y) × IsOwned y p i = ⊎_elim
              (λ (z : (p ≡ 0) × (w ≡ u)). let o = k.claims 0 desk d i k.desk_at (sym same_claim ∙ (rw z.1 has)) in (o.0, o.1, rw z.0 o.2))
              (λ z. k.claims p u d i z.1 has)
              (at_set views 0 p w u e) in
              dite (ℕ_discrete d c)
              (λ same. let z : get_elem? cells c ≡ some old.0 = subst (λ (j : ℕ). get_elem? cells j ≡ some old.0) same old.1 in let q : x ≡ old.0 = some-injective x old.0 (sym cell ∙ z) in (new, rw same (set_here cells c new (within cells c x cell)), onwards p i (rw q old.2)))
              (λ other. (old.0, set_else cells c d new other ∙ old.1, old.2));
          lates = λ p u d i e has l.
              let old : get_elem? cells d ≡ some (withdrawn i p) = ⊎_elim
              (λ (z : (p ≡ 0) × (w ≡ u)). let o = k.lates 0 desk d i k.desk_at (sym same_claim ∙ (rw z.1 has)) (sym same_late ∙ (rw z.1 l)) in rw z.0 o)
              (λ z. k.lates p u d i z.1 has l)
              (at_set views 0 p w u e) in
              dite (ℕ_discrete d c)
              (λ same. let z : get_elem? cells c ≡ some (withdrawn i p) = subst (λ (j : ℕ). get_elem? cells j ≡ some (withdrawn i p)) same old in let q : x ≡ withdrawn i p = some-injective x (withdrawn i p) (sym cell ∙ z) in let y : get_elem? (set cells c new) c ≡ some (withdrawn i p) = set_here cells c new (within cells c x cell) ∙ ap (λ (g : Lane). some g) (stays p i q) in rw same y)
              (λ other. set_else cells c d new other ∙ old);
        }

    -- the desk's view changes, and a word that is no cell's
    pub desk_notes : (words' : List ℕ) (shut' bell' : ℕ) (w : View) → w.desk ≡ true → w.claim ≡ desk.claim → w.late ≡ desk.late → w.tells ≡ desk.tells
        → words' ≡ map code cells ++ shut' ∷ bell' ∷ [] → shut' ≡ (if w.shut then 1 else 0) → Kept number words' homes (set views 0 w) cells w shut' bell'
    desk_notes words' shut' bell' w is_desk' same_claim same_late tells shows shut_is =
        let here : get_elem? (set views 0 w) 0 ≡ some w = set_here views 0 w (within views 0 desk k.desk_at) in record {
          shows = shows;
          placed = k.placed;
          as_many = k.as_many;
          shut_is = shut_is;
          desk_is = is_desk';
          desk_at = here;
          one_desk = λ p u e d. ⊎_elim (λ (z : (p ≡ 0) × (w ≡ u)). z.0) (λ z. k.one_desk p u z.1 d) (at_set views 0 p w u e);
          fits = λ d y e. let f = k.fits d y e in (f.0, f.1, rw tells f.2, f.3, f.4);
          owner = λ d y p i e own. let o = k.owner d y p i e own in
              dite (ℕ_discrete p 0)
              (λ zero_. let z : get_elem? views 0 ≡ some o.0 = subst (λ (j : ℕ). get_elem? views j ≡ some o.0) zero_ o.1 in let q : desk ≡ o.0 = some-injective desk o.0 (sym k.desk_at ∙ z) in (w, rw zero_ here, same_claim ∙ (rw q o.2)))
              (λ other. (o.0, set_else views 0 p w other ∙ o.1, o.2));
          claims = λ p u d i e has. ⊎_elim
              (λ (z : (p ≡ 0) × (w ≡ u)). rw z.0 (k.claims 0 desk d i k.desk_at (sym same_claim ∙ (rw z.1 has))))
              (λ z. k.claims p u d i z.1 has)
              (at_set views 0 p w u e);
          lates = λ p u d i e has l. ⊎_elim
              (λ (z : (p ≡ 0) × (w ≡ u)). rw z.0 (k.lates 0 desk d i k.desk_at (sym same_claim ∙ (rw z.1 has)) (sym same_late ∙ (rw z.1 l))))
              (λ z. k.lates p u d i z.1 has l)
              (at_set views 0 p w u e);
        }

    -- a new worker
    pub hired : (n : View) → n.desk ≡ false → n.claim ≡ None → Kept number words homes (views ++ n ∷ []) cells desk shut bell
    hired n worker free = record {
      shows = k.shows;
      placed = k.placed;
      as_many = k.as_many;
      shut_is = k.shut_is;
      desk_is = k.desk_is;
      desk_at = at_longer views (n ∷ []) 0 desk k.desk_at;
      one_desk = λ p u e d. ⊎_elim (λ z. k.one_desk p u z d) (λ (z : n ≡ u). absurd (true≢false (sym d ∙ (ap (λ (q : View). q.desk) (sym z) ∙ worker)))) (at_snoc views n u p e);
      fits = k.fits;
      owner = λ d y p i e own. let o = k.owner d y p i e own in (o.0, at_longer views (n ∷ []) p o.0 o.1, o.2);
      claims = λ p u d i e has. ⊎_elim (λ z. k.claims p u d i z has) (λ (z : n ≡ u). let no_claim : None ≡ Some (d, i) = sym free ∙ (ap (λ (q : View). q.claim) z ∙ has) in let bad : ⊥ = cc in absurd bad) (at_snoc views n u p e);
      lates = λ p u d i e has l. ⊎_elim (λ z. k.lates p u d i z has l) (λ (z : n ≡ u). let no_claim : None ≡ Some (d, i) = sym free ∙ (ap (λ (q : View). q.claim) z ∙ has) in let bad : ⊥ = cc in absurd bad) (at_snoc views n u p e);
    }
