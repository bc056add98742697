-- Each kind of step keeps the rule of words and views, and the history.
use Rattle.std.proofs.Common.{◌≡◌, ℕ, Bool, zero, suc, ◌+◌, ◌%◌, ◌*◌, ◌/◌, ◌^◌, ◌<◌, true, false, MatchBool, List, [], ◌∷◌, ◌++◌, map, length, set, get_or, replicate, refl, sym, ap, ◌∙◌, subst, arith, eqb, ◌⊎◌, inl, inr, ⊎_elim, Option, Some, None}
use Rattle.std.proofs.lemmas.List.{map-set, map-append, length-append}
use mathlib.Core.Option.{none, some, some-injective, some-ne-none}
use lib.ListN.{get_elem?}
use prog.Atomic.{either}
use Rattle.atomic_table.specs.Table.{Me, Allows, step, Splits, opening}
use Rattle.atomic_table.proofs.Lists.{at_map, set_again}
use Rattle.l3_board.specs.declared.cell.Content.TheVariants.{Empty}
use Rattle.l3_board.specs.declared.event.Event.TheVariants as event
use Rattle.l3_board.specs.declared.event.Answer.TheVariants as answer
use Rattle.l3_board.specs.declared.event.Offer.TheVariants.{Placed, Busy}
use Rattle.l3_board.specs.declared.event.Claim.TheVariants.{Job}
use Rattle.l3_board.specs.declared.event.Deposit.TheVariants.{Kept, Late}
use Rattle.l3_board.specs.declared.event.Take.TheVariants.{Got, Revoked, InWork}
use Rattle.l3_board.specs.Machine.{BoardState, fresh}
use Rattle.l3_lanes.specs.declared.view.View.{View}
use Rattle.l3_lanes.specs.declared.view.Tell.{Tell}
use Rattle.l3_lanes.specs.declared.view.Tell.TheVariants.{Free, Held, ToldReady, ToldClaimed}
use Rattle.l3_lanes.specs.declared.view.Move.{Move}
use Rattle.l3_lanes.specs.declared.view.Past.{Past}
use Rattle.l3_lanes.specs.declared.view.Knowledge.{Knowledge}
use Rattle.l3_lanes.specs.Words.{IsFull, HasNumber}
use Rattle.l3_lanes.specs.Rule.{Holds}
use Rattle.l3_lanes.specs.Views.{known, is_held, newcomer, opening_desk}
use Rattle.l3_lanes.specs.Steps.{Loads, Claims, Deposits, Frees, Looks, Offers, Revokes, Withdraws, TakesKnown, Returns, Shuts, Rings}
use Rattle.l3_lanes.specs.History.{shown, Extends, Sees, Answers, Recorded, bare, bare_state, moves_of, BeginsWith, HasSeenOpen, HoldsRecorded}
use Rattle.l3_lanes.specs.Moves.{Unmoved, Looked, LooksBusy, OffersMove, ClaimsMove, DepositsMove, FreesMove, RevokesMove, WithdrawsMove, TakesMove, ShutsMove, blank, new_knowledge, opening_knowledge}
use Rattle.l3_lanes.proofs.ClaimLemmas.{loads, claims}
use Rattle.l3_lanes.proofs.DepositLemmas.{deposits, frees}
use Rattle.l3_lanes.proofs.DeskLemmas.{looks, offers, revokes, withdraws, takes_ready, returns}
use Rattle.l3_lanes.proofs.EdgeLemmas.{shuts, rings, hires, opens_with}
use Rattle.l3_lanes.proofs.HistoryLemmas.{Past_after, with_past, still}
use Rattle.l3_lanes.proofs.PastLemmas.{looks_past, claims_past, deposits_past, revokes_past, withdraws_past, offers_past, takes_past, frees_past, shuts_past, rings_past, loads_past}

first_eighth : (i : ℕ) → (8 * i + 1) / 8 ≡ i
first_eighth i = omega arith

second_eighth : (i : ℕ) → (8 * i + 2) / 8 ≡ i
second_eighth i = omega arith

-- what an exchange tells of the granule's number
pub of_first : (i : ℕ) (b : Bool) (A : ℕ → Type 0) (B : Type 0) → MatchBool b (A ((8 * i + 1) / 8)) B → MatchBool b (A i) B
of_first i b A B m = subst (λ (z : ℕ). MatchBool b (A z) B) (first_eighth i) m

pub of_second : (i : ℕ) (b : Bool) (A : ℕ → Type 0) (B : Type 0) → MatchBool b (A ((8 * i + 2) / 8)) B → MatchBool b (A i) B
of_second i b A B m = subst (λ (z : ℕ). MatchBool b (A z) B) (second_eighth i) m

pub of_offer : (i slots : ℕ) (v w : Past) → (spent : ℕ) × Extends slots v (event.Offer ((8 * i + 1) / 8)) (answer.Offer (Placed spent)) w → (spent : ℕ) × Extends slots v (event.Offer i) (answer.Offer (Placed spent)) w
of_offer i slots v w e = (e.0, subst (λ (z : ℕ). Extends slots v (event.Offer z) (answer.Offer (Placed e.0)) w) (first_eighth i) e.1)

module _ {T : Type 0} (number : T → ℕ) (slots id : ℕ) (me : Me (Option T) Knowledge) (c : ℕ) where
  pub loads_whole : me.0.view.desk ≡ false → Allows (HoldsRecorded number) slots id me c (λ n. n) (Looked (Loads number) (step slots c 0 0 none) me)
  loads_whole worker = with_past number slots id me c (λ n. n) (Loads number (step slots c 0 0 none) (bare me)) (λ n past. MatchBool (eqb c slots) (Sees slots (eqb n 1) me.0.past past) (past ≡ me.0.past)) (loads number slots id (bare me) c worker) (loads_past number slots id me c)

  pub looks_whole : (t : Tell) → me.0.view.desk ≡ true → c < slots → get_elem? me.0.view.tells c ≡ some t → is_held t ≡ false → Allows (HoldsRecorded number) slots id me c (λ n. n) (LooksBusy (Looks number) (step slots c 0 0 none) me)
  looks_whole t desk low tell apart = with_past number slots id me c (λ n. n) (Looks number (step slots c 0 0 none) (bare me)) (λ n past. MatchBool (eqb n 0) (past ≡ me.0.past) ((i : ℕ) → i % slots ≡ c → Answers slots me.0.past (event.Offer i) (answer.Offer (Busy i)) past)) (looks number slots (bare me) c id t desk low tell apart) (looks_past number slots id me c low)

  pub returns_whole : (y : Option T) (r : List (ℕ × Option T)) → me.0.view.desk ≡ true → c < slots → get_elem? me.0.view.tells c ≡ some Held → me.1 ≡ (c, y) ∷ r → IsFull y → Allows (HoldsRecorded number) slots id me c (λ n. n) (Unmoved (Returns number) (step slots c 0 0 none) me)
  returns_whole y r desk low tell holds full = with_past number slots id me c (λ n. n) (Returns number (step slots c 0 0 none) (bare me)) (λ _ past. past ≡ me.0.past) (returns number slots (bare me) c id y r desk low tell holds full) (still number slots id me c)

  module _ (i : ℕ) (low : c < slots) where
    pub claims_whole : HasSeenOpen slots me.0.past → me.0.view.desk ≡ false → me.0.view.claim ≡ None → me.0.view.late ≡ false → Allows (HoldsRecorded number) slots id me c (λ n. either (eqb n (8 * i + 1)) (8 * i + 2) n) (ClaimsMove (Claims number) (step slots c (8 * i + 1) (8 * i + 2) none) me)
    claims_whole seen worker free prompt =
        let moved : ℕ → ℕ → Past → Type 0 = λ z n past. MatchBool (eqb n (8 * i + 1)) (Extends slots me.0.past event.Claim (answer.Claim (Job z)) past) (past ≡ me.0.past) in
        with_past number slots id me c (λ n. either (eqb n (8 * i + 1)) (8 * i + 2) n) (Claims number (step slots c (8 * i + 1) (8 * i + 2) none) (bare me)) (moved ((8 * i + 1) / 8))
        (claims number slots id (bare me) c i worker free prompt low)
        (subst (λ (z : ℕ). Past_after number slots id me c (λ n. either (eqb n (8 * i + 1)) (8 * i + 2) n) (moved z)) (sym (first_eighth i)) (claims_past number slots id me c low seen i))

    pub deposits_whole : (y : Option T) (r : List (ℕ × Option T)) → me.0.view.desk ≡ false → me.0.view.claim ≡ Some (c, i) → me.1 ≡ (c, y) ∷ r → HasNumber number i y → Allows (HoldsRecorded number) slots id me c (λ n. either (eqb n (8 * i + 2)) (8 * i + 3) n) (DepositsMove (Deposits number) (step slots c (8 * i + 2) (8 * i + 3) none) me)
    deposits_whole y r worker claim holds is =
        let moved : ℕ → ℕ → Past → Type 0 = λ z n past. MatchBool (eqb n (8 * i + 2)) (Extends slots me.0.past (event.Deposit z) (answer.Deposit Kept) past) (past ≡ me.0.past) in
        with_past number slots id me c (λ n. either (eqb n (8 * i + 2)) (8 * i + 3) n) (Deposits number (step slots c (8 * i + 2) (8 * i + 3) none) (bare me)) (moved ((8 * i + 2) / 8))
        (deposits number slots id (bare me) c i y r worker claim holds is)
        (subst (λ (z : ℕ). Past_after number slots id me c (λ n. either (eqb n (8 * i + 2)) (8 * i + 3) n) (moved z)) (sym (second_eighth i)) (deposits_past number slots id me c low i))

    pub revokes_whole : (t : Tell) → me.0.view.desk ≡ true → get_elem? me.0.view.tells c ≡ some t → known t ≡ Some i → Allows (HoldsRecorded number) slots id me c (λ n. either (eqb n (8 * i + 1)) 0 n) (RevokesMove (Revokes number) (step slots c (8 * i + 1) 0 none) me)
    revokes_whole t desk tell is =
        let moved : ℕ → ℕ → Past → Type 0 = λ z n past. MatchBool (eqb n (8 * i + 1)) (Extends slots me.0.past (event.Take z 0) (answer.Take (Revoked z)) past) (past ≡ me.0.past) in
        with_past number slots id me c (λ n. either (eqb n (8 * i + 1)) 0 n) (Revokes number (step slots c (8 * i + 1) 0 none) (bare me)) (moved ((8 * i + 1) / 8))
        (revokes number slots (bare me) c i id t desk low tell is)
        (subst (λ (z : ℕ). Past_after number slots id me c (λ n. either (eqb n (8 * i + 1)) 0 n) (moved z)) (sym (first_eighth i)) (revokes_past number slots id me c low i))

    pub withdraws_whole : me.0.view.desk ≡ true → get_elem? me.0.view.tells c ≡ some (ToldClaimed i) → Allows (HoldsRecorded number) slots id me c (λ n. either (eqb n (8 * i + 2)) (8 * i + 4) n) (WithdrawsMove (Withdraws number) (step slots c (8 * i + 2) (8 * i + 4) none) me)
    withdraws_whole desk tell =
        let moved : ℕ → ℕ → Past → Type 0 = λ z n past. MatchBool (eqb n (8 * i + 2)) (Extends slots me.0.past (event.Take z 0) (answer.Take (InWork 0)) past) (past ≡ me.0.past) in
        with_past number slots id me c (λ n. either (eqb n (8 * i + 2)) (8 * i + 4) n) (Withdraws number (step slots c (8 * i + 2) (8 * i + 4) none) (bare me)) (moved ((8 * i + 2) / 8))
        (withdraws number slots (bare me) c i id desk low tell)
        (subst (λ (z : ℕ). Past_after number slots id me c (λ n. either (eqb n (8 * i + 2)) (8 * i + 4) n) (moved z)) (sym (second_eighth i)) (withdraws_past number slots id me c low i))

    pub offers_whole : i % slots ≡ c → (y : Option T) (r : List (ℕ × Option T)) → me.0.view.desk ≡ true → me.0.view.shut ≡ false → get_elem? me.0.view.tells c ≡ some Held → me.1 ≡ (c, y) ∷ r → HasNumber number i y
        → Allows (HoldsRecorded number) slots id me c (λ _. 8 * i + 1) (λ _. OffersMove (Offers number) (step slots c (8 * i + 1) 0 none) me (8 * i + 1))
    offers_whole here y r desk not_shut tell holds is =
        let moved : ℕ → ℕ → Past → Type 0 = λ z n past. (spent : ℕ) × Extends slots me.0.past (event.Offer z) (answer.Offer (Placed spent)) past in
        with_past number slots id me c (λ _. 8 * i + 1) (λ _. Offers number (step slots c (8 * i + 1) 0 none) (bare me) (8 * i + 1)) (moved ((8 * i + 1) / 8))
        (offers number slots (bare me) c i here id y r desk low tell holds is)
        (subst (λ (z : ℕ). Past_after number slots id me c (λ _. 8 * i + 1) (moved z)) (sym (first_eighth i)) (offers_past number slots id me c low i here desk not_shut tell))

    pub takes_whole : me.0.view.desk ≡ true → get_elem? me.0.view.tells c ≡ some (ToldReady i) → Allows (HoldsRecorded number) slots id me c (λ _. 0) (λ _. TakesMove (TakesKnown number) (step slots c 0 0 none) me 0)
    takes_whole desk tell =
        with_past number slots id me c (λ _. 0) (λ _. TakesKnown number (step slots c 0 0 none) (bare me) 0)
        (λ _ past. (k : ℕ) → known (get_or me.0.view.tells c Free) ≡ Some k → Extends slots me.0.past (event.Take k 0) (answer.Take (Got k)) past)
        (takes_ready number slots (bare me) c i id desk low tell)
        (takes_past number slots id me c low i desk tell)

    pub frees_whole : (y : Option T) (r : List (ℕ × Option T)) → me.0.view.desk ≡ false → me.0.view.claim ≡ Some (c, i) → me.1 ≡ (c, y) ∷ r → me.0.view.late ≡ true → IsFull y → Allows (HoldsRecorded number) slots id me c (λ _. 0) (λ _. FreesMove (Frees number) (step slots c 0 0 none) me 0)
    frees_whole y r worker claim holds late full =
        with_past number slots id me c (λ _. 0) (λ _. Frees number (step slots c 0 0 none) (bare me) 0)
        (λ _ past. (k : ℕ) → me.0.view.claim ≡ Some (c, k) → Extends slots me.0.past (event.Deposit k) (answer.Deposit Late) past)
        (frees number slots id (bare me) c i y r worker claim holds late full)
        (frees_past number slots id me c low i claim late)

module _ {T : Type 0} (number : T → ℕ) (slots id : ℕ) (me : Me (Option T) Knowledge) where
  pub shuts_whole : me.0.view.desk ≡ true → Allows (HoldsRecorded number) slots id me slots (λ _. 1) (λ _. ShutsMove (Shuts number) (step slots slots 1 0 none) me 1)
  shuts_whole desk = with_past number slots id me slots (λ _. 1) (λ _. Shuts number (step slots slots 1 0 none) (bare me) 1) (λ _ past. Extends slots me.0.past event.Shut answer.Shut past) (shuts number slots id (bare me) desk) (shuts_past number slots id me)

  pub rings_whole : (k : ℕ) → me.0.view.desk ≡ true → Allows (HoldsRecorded number) slots id me (slots + 1) (λ n. (n + k) % 2 ^ 64) (Unmoved (Rings number) (step slots (slots + 1) k 0 none) me)
  rings_whole k desk = with_past number slots id me (slots + 1) (λ n. (n + k) % 2 ^ 64) (Rings number (step slots (slots + 1) k 0 none) (bare me)) (λ _ past. past ≡ me.0.past) (rings number slots id (bare me) k desk) (rings_past number slots id me (λ n. (n + k) % 2 ^ 64))

snoc_there : {A : Type 0} (l : List A) (a b : A) (p : ℕ) → get_elem? (l ++ a ∷ []) p ≡ some b → (get_elem? l p ≡ some b) ⊎ ((p ≡ length l) × (a ≡ b))
snoc_there [] a b zero e = inr (refl, some-injective a b e)
snoc_there [] a b (suc p) e = absurd (some-ne-none b (sym e))
snoc_there (x ∷ l) a b zero e = inl e
snoc_there (x ∷ l) a b (suc p) e = ⊎_elim (λ f. inl f) (λ (f : (p ≡ length l) × (a ≡ b)). inr (ap suc f.0, f.1)) (snoc_there l a b p e)

-- a new seat has seen and made no move
joined : (words : List ℕ) (seats : List Knowledge) (moves : List Move) (board : BoardState ℕ) (bell : ℕ) (v : View) → Recorded words seats moves board bell → Recorded words (seats ++ blank v ∷ []) moves board bell
joined words seats moves board bell v r = record {
  shows = r.shows;
  history = r.history;
  seen = λ p u e. ⊎_elim (λ old. r.seen p u old)
      (λ (z : (p ≡ length seats) × (blank v ≡ u)). subst (λ (y : ℕ × Knowledge). BeginsWith moves y.1.past.seen × (moves_of y.0 moves ≡ y.1.past.mine) × (moves_of y.0 y.1.past.seen ≡ y.1.past.mine)) (λ i. (sym z.0 i, z.1 i)) ((moves, refl), r.others (length seats) (omega arith), refl))
      (snoc_there seats (blank v) u p e);
  others = λ p h. r.others p (let q : length (seats ++ blank v ∷ []) ≡ length seats + 1 = simp length-append refl in omega arith);
}

fresh_words : (count : ℕ) → replicate (suc (suc count)) 0 ≡ map shown (map Empty (replicate count 0)) ++ 0 ∷ 0 ∷ []
fresh_words zero = refl
fresh_words (suc count) = ap (λ (z : List ℕ). 0 ∷ z) (fresh_words count)

fresh_length : (count : ℕ) → length (fresh {T = ℕ} (replicate count 0)).cells ≡ count
fresh_length zero = refl
fresh_length (suc count) = ap suc (fresh_length count)

-- at the start there was no move
begun : (count : ℕ) (v : View) → Recorded (replicate (suc (suc count)) 0) (blank v ∷ []) [] (fresh (replicate count 0)) 0
begun count v = record {
  shows = fresh_words count;
  history = (ap (λ (n : ℕ). fresh (replicate n 0)) (sym (fresh_length count)), tt);
  seen = λ p u e. at_start p u e;
  others = λ p h. refl;
}
  where
    at_start : (p : ℕ) (u : Knowledge) → get_elem? (blank v ∷ []) p ≡ some u → BeginsWith [] u.past.seen × (moves_of p [] ≡ u.past.mine) × (moves_of p u.past.seen ≡ u.past.mine)
    at_start zero u e = let q : blank v ≡ u = some-injective (blank v) u e in subst (λ (z : Knowledge). BeginsWith [] z.past.seen × ([] ≡ z.past.mine) × (moves_of zero z.past.seen ≡ z.past.mine)) q (([], refl), refl, refl)
    at_start (suc p) u e = absurd (some-ne-none u (sym e))

module _ {T : Type 0} (number : T → ℕ) where
  pub hires_whole : (id : ℕ) (v : Knowledge) → Splits (HoldsRecorded number) id v v (new_knowledge v)
  hires_whole id v s h at =
      let views : map (λ (k : Knowledge). k.view) (set s.views id v ++ new_knowledge v ∷ []) ≡ set (map (λ (k : Knowledge). k.view) s.views) id v.view ++ newcomer v.view ∷ [] = map-append (λ (k : Knowledge). k.view) (set s.views id v) (new_knowledge v ∷ []) ∙ ap (λ (z : List View). z ++ newcomer v.view ∷ []) (map-set (λ (k : Knowledge). k.view) s.views id v) in
      let held = hires number id v.view (bare_state s) h.0 (at_map (λ (k : Knowledge). k.view) s.views id v at) in (
        subst (λ (z : List View). Holds number (record { words = s.words; homes = s.homes; views = z })) (sym views) held,
        (h.1.0, h.1.1, h.1.2, subst (λ (z : List Knowledge). Recorded s.words (z ++ new_knowledge v ∷ []) h.1.0 h.1.1 h.1.2) (sym (set_again s.views id v at)) (joined s.words s.views h.1.0 h.1.1 h.1.2 (newcomer v.view) h.1.3)),
      )

  pub opens_whole : (count two : ℕ) (blanks : List T) (xs : List (Option T)) (words : List ℕ) → length blanks ≡ count → two ≡ count + 2 → xs ≡ map (λ x. Some x) blanks → words ≡ replicate two 0 → HoldsRecorded number (opening words xs (opening_knowledge count))
  opens_whole count two blanks xs words many is_two is zeros =
      let same : two ≡ suc (suc count) = omega arith in (
        opens_with number count two blanks xs words many is_two is zeros,
        ([], fresh (replicate count 0), 0, subst (λ (z : List ℕ). Recorded z (blank (opening_desk count) ∷ []) [] (fresh (replicate count 0)) 0) (sym (zeros ∙ ap (λ (k : ℕ). replicate k 0) same)) (begun count (opening_desk count))),
      )
