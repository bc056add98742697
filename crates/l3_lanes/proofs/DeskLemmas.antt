-- The desk's steps keep the rule: each is a local fact about one cell.
use Rattle.std.proofs.Common.{◌≡◌, ℕ, zero, suc, ◌+◌, ◌*◌, ◌/◌, ◌%◌, ◌<◌, ◌⊎◌, inl, inr, ⊎_elim, true, false, true≢false, eqb, List, [], ◌∷◌, set, get_or, refl, sym, ap, ◌∙◌, subst, arith, Option, Some, None}
use Rattle.std.proofs.lemmas.Bool.Decides.{nat_tests}
use mathlib.Core.Option.{none, some, some-injective, some-ne-none}
use mathlib.Core.Option as maybe
use lib.ListN.{get_elem?}
use prog.Atomic.{either}
use Rattle.atomic_table.specs.Table.{Me, Allows, Act, keeps, takes, gives, chain, step, Valid, carried_after, homes_after}
use Rattle.atomic_table.proofs.Lists.{set_again}
use Rattle.l3_lanes.specs.declared.view.View.{View}
use Rattle.l3_lanes.specs.declared.view.Tell.{Tell}
use Rattle.l3_lanes.specs.declared.view.Tell.TheVariants.{Free, Held, Told, ToldClaimed, ToldReady, Left}
use Rattle.l3_lanes.specs.Words.{Lane, empty, offered, claimed, ready, withdrawn, code, granule_of, IsOwned, IsFull, HasNumber}
use Rattle.l3_lanes.specs.Rule.{Fits, Kept, Holds, free_empty, held_empty, told_offered, told_claimed, told_ready, told_claimed_claimed, told_claimed_ready, told_ready_ready, left_withdrawn, left_empty}
use Rattle.l3_lanes.specs.Views.{noted, told, known, is_held, HasTold}
use Rattle.l3_lanes.specs.Steps.{Looks, Offers, Revokes, Withdraws, TakesKnown, Returns}
use Rattle.l3_lanes.proofs.MoveLemmas.{not_empty, none_some, is_there, word_is, is_desk, desk_moves}

-- the claims on a cell stay, and its granule is the same or one of the cell c
pub record Owners (slots c : ℕ) (x new : Lane) : Type 0 where
  pub granule : (i : ℕ) → granule_of new ≡ Some i → (granule_of x ≡ Some i) ⊎ (i % slots ≡ c)
  pub onwards : (p i : ℕ) → IsOwned x p i → IsOwned new p i
  pub back : (p i : ℕ) → IsOwned new p i → IsOwned x p i
  pub stays : (p i : ℕ) → x ≡ withdrawn i p → new ≡ withdrawn i p

abbrev IsFree : Lane → Type 0
IsFree x = (p i : ℕ) → IsOwned x p i → ⊥

free_offered : (j : ℕ) → IsFree (offered j)
free_offered j p i own = ⊎_elim (λ (e : offered j ≡ claimed i p). let z : ⊥ = cc in z) (λ (e : offered j ≡ withdrawn i p). let z : ⊥ = cc in z) own

free_ready : (j : ℕ) → IsFree (ready j)
free_ready j p i own = ⊎_elim (λ (e : ready j ≡ claimed i p). let z : ⊥ = cc in z) (λ (e : ready j ≡ withdrawn i p). let z : ⊥ = cc in z) own

same_owners : (slots c : ℕ) (x : Lane) → Owners slots c x x
same_owners slots c x = record { granule = λ i e. inl e; onwards = λ p i o. o; back = λ p i o. o; stays = λ p i e. e }

no_owners : (slots c : ℕ) (x new : Lane) → IsFree x → IsFree new → ((i : ℕ) → granule_of new ≡ Some i → i % slots ≡ c) → Owners slots c x new
no_owners slots c x new a b g = record { granule = λ i e. inr (g i e); onwards = λ p i o. absurd (a p i o); back = λ p i o. absurd (b p i o); stays = λ p i e. absurd (a p i (inr e)) }

late_owners : (slots c j q : ℕ) → Owners slots c (claimed j q) (withdrawn j q)
late_owners slots c j q = record {
  granule = λ i e. inl e;
  onwards = λ p i o. ⊎_elim (λ (e : claimed j q ≡ claimed i p). let a : withdrawn j q ≡ withdrawn i p = cc in inr a) (λ (e : claimed j q ≡ withdrawn i p). let z : ⊥ = cc in absurd z) o;
  back = λ p i o. ⊎_elim (λ (e : withdrawn j q ≡ claimed i p). let z : ⊥ = cc in absurd z) (λ (e : withdrawn j q ≡ withdrawn i p). let a : claimed j q ≡ claimed i p = cc in inl a) o;
  stays = λ p i e. let z : ⊥ = cc in absurd z;
}

no_granule : (slots c i : ℕ) → None ≡ Some i → i % slots ≡ c
no_granule slots c i e = absurd (none_some i e)

pub told_after : (v : View) (c n : ℕ) (t u : Tell) → t ≡ u → HasTold v c u (told (noted v c n) c t)
told_after v c n t u e = record { desk = refl; shut = refl; claim = refl; late = refl; tells = ap (λ (z : Tell). set v.tells c z) e }

module _ {T : Type 0} where
  -- what an act does to the value at home in one cell
  abbrev pub Acts : ℕ → List (ℕ × Option T) → maybe.Option (Option T) → maybe.Option (Option T) → Act (Option T) → Type 0
  Acts c m h home keeps = home ≡ h
  Acts c m h home (takes k y) = (k ≡ c) × (h ≡ some y) × (home ≡ none)
  Acts c m h home gives = (y : Option T) × (r : List (ℕ × Option T)) × (m ≡ (c, y) ∷ r) × (home ≡ some y)
  Acts c m h home (chain a b) = ⊥

  pub acts_home : (homes : List (maybe.Option (Option T))) (c : ℕ) (m : List (ℕ × Option T)) (h home : maybe.Option (Option T)) (a : Act (Option T)) → get_elem? homes c ≡ some h → Acts c m h home a → Valid homes m a × (homes_after homes m a ≡ set homes c home)
  acts_home homes c m h home keeps at is = (tt, sym (rw is (set_again homes c h at)))
  acts_home homes c m h home (takes k y) at is = (rw is.0 (at ∙ ap (λ (z : maybe.Option (Option T)). some z) is.1), rw (is.0, is.2) refl)
  acts_home homes c m h home gives at is = (tt, rw (is.2, is.3) refl)
  acts_home homes c m h home (chain a b) at is = absurd is

  module _ (number : T → ℕ) where
    pub moved_to : {ws ws' : List ℕ} {hs hs' : List (maybe.Option (Option T))} {vs vs' : List View} {cells : List Lane} {desk : View} {shut bell : ℕ} → ws ≡ ws' → hs ≡ hs' → vs ≡ vs' → Kept number ws hs vs cells desk shut bell → Kept number ws' hs' vs' cells desk shut bell
    moved_to {cells = cells} {desk = desk} {shut = shut} {bell = bell} a b e k = subst (λ (z : List ℕ × List (maybe.Option (Option T)) × List View). Kept number z.0 z.1 z.2 cells desk shut bell) (λ i. (a i, b i, e i)) k

    -- what a step of the desk does to one cell
    abbrev pub Local : ℕ → ℕ → Me (Option T) View → (ℕ → ℕ) → (ℕ → Me (Option T) View → Type 0) → Lane → maybe.Option (Option T) → Type 0
    Local slots c me f says x h = (new : Lane) × (t : Tell) × (home : maybe.Option (Option T)) × (a : Act (Option T)) × (w : View)
        × (code new ≡ f (code x)) × Fits number t new home × Acts c me.1 h home a × Owners slots c x new × HasTold me.0 c t w × says (code x) (w, carried_after me.1 a)

    pub desk_allows : (slots id : ℕ) (me : Me (Option T) View) (c : ℕ) (f : ℕ → ℕ) (says : ℕ → Me (Option T) View → Type 0) (t : Tell) → me.0.desk ≡ true → c < slots → get_elem? me.0.tells c ≡ some t
        → ((x : Lane) (h : maybe.Option (Option T)) → Fits number t x h → Local slots c me f says x h) → Allows (Holds number) slots id me c f says
    desk_allows slots id me c f says t desk in_row tell local s h many at small =
        let d = is_desk number h.4 id me.0 at desk in
        let x = is_there h.0 c (let m = h.4.as_many in omega arith) in
        let n : ℕ = get_or s.words c 0 in
        let word : n ≡ code x.0 = word_is number h.4 c x.0 x.1 in
        let g = h.4.fits c x.0 x.1 in
        let tell' : get_elem? h.1.tells c ≡ some t = subst (λ (v : View). get_elem? v.tells c ≡ some t) d.1 tell in
        let same : g.0 ≡ t = some-injective g.0 t (sym g.2 ∙ tell') in
        let l = local x.0 g.1 (subst (λ (z : Tell). Fits number z x.0 g.1) same g.4) in
        let acts = acts_home s.homes c me.1 g.1 l.2 l.3 g.3 l.7 in
        let after = l.9 in
        let v : (me.0 ≡ h.1) = d.1 in
        let kept = desk_moves number h.4 c l.4 t l.1 x.0 l.0 l.2 (after.desk ∙ desk) (after.shut ∙ ap (λ (z : View). z.shut) v) (after.claim ∙ ap (λ (z : View). z.claim) v) (after.late ∙ ap (λ (z : View). z.late) v) (after.tells ∙ ap (λ (z : View). set z.tells c l.1) v) x.1 l.6
        (λ i e. ⊎_elim (λ g. h.4.placed c x.0 x.1 i g) (λ (g : i % slots ≡ c). rw many g) (l.8.granule i e))
        l.8.onwards l.8.back l.8.stays in (
          l.4,
          l.3,
          acts.0,
          (set h.0 c l.0, l.4, h.2, h.3, moved_to (ap (λ (z : ℕ). set s.words c z) (l.5 ∙ ap f (sym word))) (sym acts.1) (ap (λ (j : ℕ). set s.views j l.4) (sym d.0)) kept),
          subst (λ (z : ℕ). says z (l.4, carried_after me.1 l.3)) (sym word) l.10,
        )

pub tell_of : {A : Type 0} (l : List A) (c : ℕ) (t d : A) → get_elem? l c ≡ some t → get_or l c d ≡ t
tell_of [] c t d e = absurd (some-ne-none t (sym e))
tell_of (x ∷ xs) zero t d e = some-injective x t e
tell_of (x ∷ xs) (suc c) t d e = tell_of xs c t d e

module _ {T : Type 0} (number : T → ℕ) (slots : ℕ) (me : Me (Option T) View) (c : ℕ) where
  abbrev look : ℕ → Me (Option T) View → Type 0
  look = Looks number (step slots c 0 0 none) me

  abbrev old_tell : Tell
  old_tell = get_or me.0.tells c Free

  -- a reading that finds the cell in use
  looks_on : (x : Lane) (h : maybe.Option (Option T)) (t : Tell) → known t ≡ known old_tell → is_held t ≡ false → eqb (code x) 0 ≡ false → Fits number t x h → Local number slots c me (λ n. n) look x h
  looks_on x h t e apart used fits =
      (x, t, h, keeps, told (noted me.0 c (code x)) c t, refl, fits, refl, same_owners slots c x, told_after me.0 c (code x) t t refl, rw used (refl, (t, refl, e, apart)))

  -- one that finds it empty takes the slot
  looks_in : (y : Option T) → IsFull y → Local number slots c me (λ n. n) look empty (some y)
  looks_in y full = (empty, Held, none, takes c y, told (noted me.0 c 0) c Held, refl, held_empty, (refl, refl, refl), same_owners slots c empty, told_after me.0 c 0 Held Held refl, (refl, (y, refl, full)))

  look_at : (t : Tell) (x : Lane) (h : maybe.Option (Option T)) → old_tell ≡ t → is_held t ≡ false → Fits number t x h → Local number slots c me (λ n. n) look x h
  look_at t x h is apart (free_empty {y = y} full) = looks_in y full
  look_at t x h is apart held_empty = absurd (true≢false apart)
  look_at t x h is apart (told_offered {i = i} {y = y} e) = looks_on (offered i) (some y) (Told i) (rw is refl) refl (grind (arith, nat_tests)) (told_offered e)
  look_at t x h is apart (told_claimed {i = i} {p = p}) = looks_on (claimed i p) h (ToldClaimed i) (rw is refl) refl (grind (arith, nat_tests)) told_claimed_claimed
  look_at t x h is apart (told_ready {i = i} e) = looks_on (ready i) h (ToldReady i) (rw is refl) refl (grind (arith, nat_tests)) (told_ready_ready e)
  look_at t x h is apart (told_claimed_claimed {i = i} {p = p}) = looks_on (claimed i p) h (ToldClaimed i) (rw is refl) refl (grind (arith, nat_tests)) told_claimed_claimed
  look_at t x h is apart (told_claimed_ready {i = i} e) = looks_on (ready i) h (ToldReady i) (rw is refl) refl (grind (arith, nat_tests)) (told_ready_ready e)
  look_at t x h is apart (told_ready_ready {i = i} e) = looks_on (ready i) h (ToldReady i) (rw is refl) refl (grind (arith, nat_tests)) (told_ready_ready e)
  look_at t x h is apart (left_withdrawn {i = i} {p = p}) = looks_on (withdrawn i p) h (Left i) (rw is refl) refl (grind (arith, nat_tests)) left_withdrawn
  look_at t x h is apart (left_empty {i = i} {y = y} full) = looks_in y full

  pub looks : (id : ℕ) (t : Tell) → me.0.desk ≡ true → c < slots → get_elem? me.0.tells c ≡ some t → is_held t ≡ false → Allows (Holds number) slots id me c (λ n. n) look
  looks id t desk in_row at apart = desk_allows number slots id me c (λ n. n) look t desk in_row at (λ x h f. look_at t x h (tell_of me.0.tells c t Free at) apart f)

module _ {T : Type 0} (number : T → ℕ) (slots : ℕ) (me : Me (Option T) View) (c i : ℕ) where
  eighth : (8 * i + 1) / 8 ≡ i
  eighth = omega arith

  -- offer
  abbrev offer : ℕ → Me (Option T) View → Type 0
  offer n = Offers number (step slots c (8 * i + 1) 0 none) me (8 * i + 1)

  offer_at : i % slots ≡ c → (y : Option T) (r : List (ℕ × Option T)) → me.1 ≡ (c, y) ∷ r → HasNumber number i y → (x : Lane) (h : maybe.Option (Option T)) → Fits number Held x h → Local number slots c me (λ _. 8 * i + 1) offer x h
  offer_at here y r holds is empty h held_empty = (
    offered i,
    Told i,
    some y,
    gives,
    told (noted me.0 c (8 * i + 1)) c (Told ((8 * i + 1) / 8)),
    refl,
    told_offered is,
    (y, r, holds, refl),
    no_owners slots c empty (offered i) not_empty (free_offered i) (λ j e. let q : i ≡ j = cc in subst (λ (z : ℕ). z % slots ≡ c) q here),
    told_after me.0 c (8 * i + 1) (Told ((8 * i + 1) / 8)) (Told i) (ap Told eighth),
    (refl, refl),
  )
  offer_at here y r holds is (offered _) h z = elim z [ ]
  offer_at here y r holds is (claimed _ _) h z = elim z [ ]
  offer_at here y r holds is (ready _) h z = elim z [ ]
  offer_at here y r holds is (withdrawn _ _) h z = elim z [ ]

  pub offers : i % slots ≡ c → (id : ℕ) (y : Option T) (r : List (ℕ × Option T)) → me.0.desk ≡ true → c < slots → get_elem? me.0.tells c ≡ some Held → me.1 ≡ (c, y) ∷ r → HasNumber number i y → Allows (Holds number) slots id me c (λ _. 8 * i + 1) offer
  offers here id y r desk in_row at holds is = desk_allows number slots id me c (λ _. 8 * i + 1) offer Held desk in_row at (offer_at here y r holds is)

  -- revoke
  abbrev revoke : ℕ → Me (Option T) View → Type 0
  revoke = Revokes number (step slots c (8 * i + 1) 0 none) me

  abbrev revoked_word : ℕ → ℕ
  revoked_word n = either (eqb n (8 * i + 1)) 0 n

  -- the granule is claimed or ready
  revoke_misses : (x : Lane) (h : maybe.Option (Option T)) (t : Tell) → ((code x ≡ 8 * i + 2) × (t ≡ ToldClaimed i)) ⊎ ((code x ≡ 8 * i + 3) × (t ≡ ToldReady i)) → Fits number t x h → Local number slots c me revoked_word revoke x h
  revoke_misses x h t how fits =
      let miss : eqb (code x) (8 * i + 1) ≡ false = ⊎_elim (λ (e : (code x ≡ 8 * i + 2) × (t ≡ ToldClaimed i)). let q = e.0 in grind (arith, nat_tests)) (λ (e : (code x ≡ 8 * i + 3) × (t ≡ ToldReady i)). let q = e.0 in grind (arith, nat_tests)) how in (
        x,
        t,
        h,
        keeps,
        told (noted me.0 c (code x)) c t,
        rw miss refl,
        fits,
        refl,
        same_owners slots c x,
        told_after me.0 c (code x) t t refl,
        rw miss (refl, ⊎_elim (λ (e : (code x ≡ 8 * i + 2) × (t ≡ ToldClaimed i)). let q = e.0 in inl (omega arith, ap (told (noted me.0 c (code x)) c) (e.1 ∙ ap ToldClaimed (sym eighth)))) (λ (e : (code x ≡ 8 * i + 3) × (t ≡ ToldReady i)). let q = e.0 in inr (omega arith, ap (told (noted me.0 c (code x)) c) (e.1 ∙ ap ToldReady (sym eighth)))) how),
      )

  revoke_at : (t : Tell) (x : Lane) (h : maybe.Option (Option T)) → known t ≡ Some i → Fits number t x h → Local number slots c me revoked_word revoke x h
  revoke_at t x h is (free_empty full) = absurd cc
  revoke_at t x h is held_empty = absurd cc
  revoke_at t x h is (told_offered {i = j} {y = y} e) =
      let same : j ≡ i = cc in
      let hit : eqb (8 * j + 1) (8 * i + 1) ≡ true = grind (arith, nat_tests) in (
        empty,
        Held,
        none,
        takes c y,
        told (noted me.0 c 0) c Held,
        rw hit refl,
        held_empty,
        (refl, refl, refl),
        no_owners slots c (offered j) empty (free_offered j) not_empty (no_granule slots c),
        told_after me.0 c 0 Held Held refl,
        rw hit (refl, (y, refl, subst (λ (z : ℕ). HasNumber number z y) (same ∙ sym eighth) e)),
      )
  revoke_at t x h is (told_claimed {i = j} {p = p}) = let same : j ≡ i = cc in revoke_misses (claimed j p) h (ToldClaimed j) (inl (omega arith, ap ToldClaimed same)) told_claimed_claimed
  revoke_at t x h is (told_ready {i = j} e) = let same : j ≡ i = cc in revoke_misses (ready j) h (ToldReady j) (inr (omega arith, ap ToldReady same)) (told_ready_ready e)
  revoke_at t x h is (told_claimed_claimed {i = j} {p = p}) = let same : j ≡ i = cc in revoke_misses (claimed j p) h (ToldClaimed j) (inl (omega arith, ap ToldClaimed same)) told_claimed_claimed
  revoke_at t x h is (told_claimed_ready {i = j} e) = let same : j ≡ i = cc in revoke_misses (ready j) h (ToldReady j) (inr (omega arith, ap ToldReady same)) (told_ready_ready e)
  revoke_at t x h is (told_ready_ready {i = j} e) = let same : j ≡ i = cc in revoke_misses (ready j) h (ToldReady j) (inr (omega arith, ap ToldReady same)) (told_ready_ready e)
  revoke_at t x h is left_withdrawn = absurd cc
  revoke_at t x h is (left_empty full) = absurd cc

  pub revokes : (id : ℕ) (t : Tell) → me.0.desk ≡ true → c < slots → get_elem? me.0.tells c ≡ some t → known t ≡ Some i → Allows (Holds number) slots id me c revoked_word revoke
  revokes id t desk in_row at is = desk_allows number slots id me c revoked_word revoke t desk in_row at (λ x h f. revoke_at t x h is f)

  -- withdraw
  abbrev withdraw : ℕ → Me (Option T) View → Type 0
  withdraw = Withdraws number (step slots c (8 * i + 2) (8 * i + 4) none) me

  abbrev withdrawn_word : ℕ → ℕ
  withdrawn_word n = either (eqb n (8 * i + 2)) (8 * i + 4) n

  withdraw_at : (x : Lane) (h : maybe.Option (Option T)) → Fits number (ToldClaimed i) x h → Local number slots c me withdrawn_word withdraw x h
  withdraw_at (claimed _ p) h told_claimed_claimed =
      let hit : eqb (8 * i + 2) (8 * i + 2) ≡ true = grind (arith, nat_tests) in
      let eighth' : (8 * i + 2) / 8 ≡ i = omega arith in (
        withdrawn i p,
        Left i,
        h,
        keeps,
        told (noted me.0 c (8 * i + 4)) c (Left ((8 * i + 2) / 8)),
        rw hit refl,
        left_withdrawn,
        refl,
        late_owners slots c i p,
        told_after me.0 c (8 * i + 4) (Left ((8 * i + 2) / 8)) (Left i) (ap Left eighth'),
        (refl, rw hit refl),
      )
  withdraw_at (ready _) (some _) (told_claimed_ready {y = y} e) =
      let miss : eqb (8 * i + 3) (8 * i + 2) ≡ false = grind (arith, nat_tests) in
      let eighth' : (8 * i + 2) / 8 ≡ i = omega arith in (
        ready i,
        ToldReady i,
        some y,
        keeps,
        told (noted me.0 c (8 * i + 3)) c (ToldReady ((8 * i + 2) / 8)),
        rw miss refl,
        told_ready_ready e,
        refl,
        same_owners slots c (ready i),
        told_after me.0 c (8 * i + 3) (ToldReady ((8 * i + 2) / 8)) (ToldReady i) (ap ToldReady eighth'),
        (refl, rw miss (omega arith, refl)),
      )
  withdraw_at empty h z = elim z [ ]
  withdraw_at (offered _) h z = elim z [ ]
  withdraw_at (ready _) none z = elim z [ ]
  withdraw_at (withdrawn _ _) h z = elim z [ ]

  pub withdraws : (id : ℕ) → me.0.desk ≡ true → c < slots → get_elem? me.0.tells c ≡ some (ToldClaimed i) → Allows (Holds number) slots id me c withdrawn_word withdraw
  withdraws id desk in_row at = desk_allows number slots id me c withdrawn_word withdraw (ToldClaimed i) desk in_row at withdraw_at

  -- take
  abbrev take_ready : ℕ → Me (Option T) View → Type 0
  take_ready n = TakesKnown number (step slots c 0 0 none) me 0

  take_at : get_or me.0.tells c Free ≡ ToldReady i → (t : Tell) (x : Lane) (h : maybe.Option (Option T)) → t ≡ ToldReady i → Fits number t x h → Local number slots c me (λ _. 0) take_ready x h
  take_at is t x h e (free_empty full) = absurd cc
  take_at is t x h e held_empty = absurd cc
  take_at is t x h e (told_offered n) = absurd cc
  take_at is t x h e told_claimed = absurd cc
  take_at is t x h e (told_ready n) = absurd cc
  take_at is t x h e told_claimed_claimed = absurd cc
  take_at is t x h e (told_claimed_ready n) = absurd cc
  take_at is t x h e (told_ready_ready {i = j} {y = y} n) = (
    empty,
    Held,
    none,
    takes c y,
    told (noted me.0 c 0) c Held,
    refl,
    held_empty,
    (refl, refl, refl),
    no_owners slots c (ready j) empty (free_ready j) not_empty (no_granule slots c),
    told_after me.0 c 0 Held Held refl,
    (λ k same. (refl, (y, refl, (let q : j ≡ i = cc in let r : Some i ≡ Some k = ap known (sym is) ∙ same in let u : i ≡ k = cc in subst (λ (z : ℕ). HasNumber number z y) (q ∙ u) n)))),
  )
  take_at is t x h e left_withdrawn = absurd cc
  take_at is t x h e (left_empty full) = absurd cc

  pub takes_ready : (id : ℕ) → me.0.desk ≡ true → c < slots → get_elem? me.0.tells c ≡ some (ToldReady i) → Allows (Holds number) slots id me c (λ _. 0) take_ready
  takes_ready id desk in_row at = desk_allows number slots id me c (λ _. 0) take_ready (ToldReady i) desk in_row at (λ x h f. take_at (tell_of me.0.tells c (ToldReady i) Free at) (ToldReady i) x h refl f)

module _ {T : Type 0} (number : T → ℕ) (slots : ℕ) (me : Me (Option T) View) (c : ℕ) where
  -- give the slot back
  abbrev return : ℕ → Me (Option T) View → Type 0
  return = Returns number (step slots c 0 0 none) me

  return_at : (y : Option T) (r : List (ℕ × Option T)) → me.1 ≡ (c, y) ∷ r → IsFull y → (x : Lane) (h : maybe.Option (Option T)) → Fits number Held x h → Local number slots c me (λ n. n) return x h
  return_at y r holds full empty h held_empty =
      (empty, Free, some y, gives, told (noted me.0 c 0) c Free, refl, free_empty full, (y, r, holds, refl), same_owners slots c empty, told_after me.0 c 0 Free Free refl, (refl, refl, refl))
  return_at y r holds full (offered _) h z = elim z [ ]
  return_at y r holds full (claimed _ _) h z = elim z [ ]
  return_at y r holds full (ready _) h z = elim z [ ]
  return_at y r holds full (withdrawn _ _) h z = elim z [ ]

  pub returns : (id : ℕ) (y : Option T) (r : List (ℕ × Option T)) → me.0.desk ≡ true → c < slots → get_elem? me.0.tells c ≡ some Held → me.1 ≡ (c, y) ∷ r → IsFull y → Allows (Holds number) slots id me c (λ n. n) return
  returns id y r desk in_row at holds full = desk_allows number slots id me c (λ n. n) return Held desk in_row at (return_at y r holds full)
