-- What each kind of step does to the history: each is a fact about the machine's cell.
use Rattle.std.proofs.Common.{◌≡◌, ◌≢◌, eq-eqb, ℕ, ◌+◌, ◌-◌, ◌%◌, ◌*◌, ◌<◌, ◌≤◌, ◌⊎◌, inr, ⊎_elim, Bool, true, false, true≢false, if◌then◌else◌, MatchBool, List, [], ◌∷◌, ◌++◌, map, length, set, get_or, slice_get, refl, sym, ap, ◌∙◌, subst, arith, eqb, length-set, Option, Some}
use Rattle.std.proofs.lemmas.Bool.Decides.{nat_tests}
use Rattle.std.proofs.lemmas.List.{length-map, length-append, set-get_or, set-append_right}
use mathlib.Core.Option.{none, some, some-injective, some-ne-none}
use mathlib.Core.Option as maybe
use lib.ListN.{get_elem?}
use prog.Atomic.{either}
use Rattle.atomic_table.specs.Table.{State, Me}
use Rattle.atomic_table.proofs.Lists.{at_map}
use Rattle.l3_board.specs.declared.cell.Content.{Content}
use Rattle.l3_board.specs.declared.cell.Content.TheVariants.{Empty, Offered, Claimed, Ready, Withdrawn}
use Rattle.l3_board.specs.declared.event.Event.{Event}
use Rattle.l3_board.specs.declared.event.Event.TheVariants as event
use Rattle.l3_board.specs.declared.event.Answer.{Answer}
use Rattle.l3_board.specs.declared.event.Answer.TheVariants as answer
use Rattle.l3_board.specs.declared.event.Offer.TheVariants.{Placed, Busy}
use Rattle.l3_board.specs.declared.event.Claim.TheVariants.{Job}
use Rattle.l3_board.specs.declared.event.Deposit.TheVariants.{Kept, Late}
use Rattle.l3_board.specs.declared.event.Take.TheVariants.{Got, Revoked, InWork}
use Rattle.l3_board.specs.Machine.{BoardState, state_of, state_at, with_cell}
use Rattle.l3_board.specs.declared.cell.Cell.TheVariants as state
use Rattle.std.specs.Option.{option_map}
use Rattle.l3_lanes.specs.declared.view.View.{View}
use Rattle.l3_lanes.specs.declared.view.Tell.{Tell}
use Rattle.l3_lanes.specs.declared.view.Tell.TheVariants.{Free, Held, ToldReady}
use Rattle.l3_lanes.specs.declared.view.Move.{Move}
use Rattle.l3_lanes.specs.declared.view.Past.{Past}
use Rattle.l3_lanes.specs.declared.view.Knowledge.{Knowledge}
use Rattle.l3_lanes.specs.Words.{Lane, code, withdrawn}
use Rattle.l3_lanes.specs.Rule.{Fits, Holds, held_empty, told_ready_ready}
use Rattle.l3_lanes.specs.Laws.{IsOnBoard}
use Rattle.l3_lanes.specs.Views.{known}
use Rattle.l3_lanes.specs.History.{shown, IsMove, offer_placed, claim_job, deposit_kept, deposit_late, take_got, take_revoked, take_in_work, board_shut, moves_of, is_claim, from_shut, HasSeenOpen, Extends, Sees, Answers, itself, Recorded, bare_state, move}
use Rattle.l3_lanes.proofs.MoveLemmas.{is_there, word_is, is_desk}
use Rattle.l3_lanes.proofs.DeskLemmas.{tell_of}
use Rattle.l3_lanes.proofs.RuleLemmas.{cell_words}
use Rattle.l3_lanes.proofs.ShutLemmas.{claims_first}
use Rattle.l3_lanes.proofs.HistoryLemmas.{shown_offered, shown_claimed, shown_ready, shown_withdrawn, shown_empty, after_move, stays, looks_on, sees, answers, moves_on, extends, changed, content, Past_after}

-- the machine has a cell for each of the board
as_many : {T : Type 0} (number : T → ℕ) (s : State (Option T) Knowledge) (moves : List Move) (board : BoardState ℕ) (bell : ℕ) → Holds number (bare_state s) → Recorded s.words s.views moves board bell → length board.cells ≡ length s.homes
as_many number s moves board bell h r =
    let a : length (map code h.0 ++ h.2 ∷ h.3 ∷ []) ≡ length (map shown board.cells ++ (if board.shut then 1 else 0) ∷ bell ∷ []) = ap (λ (z : List ℕ). length z) (sym h.4.shows ∙ r.shows) in
    let b : length (map code h.0 ++ h.2 ∷ h.3 ∷ []) ≡ length h.0 + 2 = simp (length-append, length-map) refl in
    let d : length (map shown board.cells ++ (if board.shut then 1 else 0) ∷ bell ∷ []) ≡ length board.cells + 2 = simp (length-append, length-map) refl in
    let e = h.4.as_many in
    omega arith

-- the word of a granule stands in the granule's cell
stands_here : {T : Type 0} (number : T → ℕ) (s : State (Option T) View) (c i n : ℕ) → Holds number s → c < length s.homes → 0 < n → n ≤ 4 → get_or s.words c 0 ≡ 8 * i + n → i % length s.homes ≡ c
stands_here number s c i n h low least most word =
    ⊎_elim (λ (e : get_or s.words c 0 ≡ 0). absurd (omega arith))
    (λ (e : (j : ℕ) × (j % length s.homes ≡ c) × (IsOnBoard j (get_or s.words c 0) ⊎ (get_or s.words c 0 ≡ 8 * j + 4))).
    let same : e.0 ≡ i = ⊎_elim (λ f. ⊎_elim (λ g. omega arith) (λ g. ⊎_elim (λ k. omega arith) (λ k. omega arith) g) f) (λ f. omega arith) e.2 in
    subst (λ (z : ℕ). z % length s.homes ≡ c) same e.1)
    (cell_words number s c h low)

no_claim : {A : Type 0} → false ≡ true → A
no_claim e = absurd (true≢false (sym e))

word_after : {A : Type 0} (f : A → ℕ) (l : List A) (n : ℕ) (more : List ℕ) → get_or (map f l ++ n ∷ more) (length l) 0 ≡ n
word_after f [] n more = refl
word_after f (x ∷ l) n more = word_after f l n more

open_word : (b : Bool) → ◌≡◌ {A = ℕ} (if b then 1 else 0) 0 → b ≡ false
open_word true e = let q : ◌≡◌ {A = ℕ} 1 0 = e in absurd (omega arith)
open_word false e = refl

-- the machine's board is open where the desk's view says so
still_open : {T : Type 0} (number : T → ℕ) (s : State (Option T) Knowledge) (moves : List Move) (board : BoardState ℕ) (bell : ℕ) → Holds number (bare_state s) → Recorded s.words s.views moves board bell → {slots : ℕ} → length board.cells ≡ slots → length s.homes ≡ slots
    → (id : ℕ) (k : Knowledge) → get_elem? (bare_state s).views id ≡ some k.view → k.view.desk ≡ true → k.view.shut ≡ false → board.shut ≡ false
still_open number s moves board bell h r {slots} cells many id k at desk not_shut =
    let d = is_desk number h.4 id k.view at desk in
    let a : get_or s.words (length board.cells) 0 ≡ (if board.shut then 1 else 0) = ap (λ (z : List ℕ). get_or z (length board.cells) 0) r.shows ∙ word_after shown board.cells _ _ in
    let b : get_or s.words (length h.0) 0 ≡ h.2 = ap (λ (z : List ℕ). get_or z (length h.0) 0) h.4.shows ∙ word_after code h.0 _ _ in
    let same : length board.cells ≡ length h.0 = let m = h.4.as_many in omega arith in
    let shut : h.2 ≡ 0 = h.4.shut_is ∙ ap (λ (z : Bool). if z then 1 else 0) (ap (λ (v : View). v.shut) (sym d.1) ∙ not_shut) in
    open_word board.shut (sym a ∙ (ap (λ (n : ℕ). get_or s.words n 0) same ∙ (b ∙ shut)))

module _ {T : Type 0} (number : T → ℕ) (slots id : ℕ) (me : Me (Option T) Knowledge) (c : ℕ) (in_row : c < slots) where
  -- a move of the machine that leaves this word in the cell
  abbrev Makes : List Move → ℕ → (Past → Type 0) → BoardState ℕ → Type 0
  Makes moves word moved board = (i : ℕ) × (new : Content ℕ) × (e : Event ℕ) × (a : Answer ℕ) × IsMove board e a (with_cell board i new) × (is_claim e ≡ true → moves_of id (from_shut moves) ≡ []) × (i % slots ≡ c) × (word ≡ shown new)
      × ((past : Past) → Extends slots me.0.past e a past → moved past)

  made : (s : State (Option T) Knowledge) (moves : List Move) (board : BoardState ℕ) (bell : ℕ) → Recorded s.words s.views moves board bell → length board.cells ≡ slots → get_elem? s.views id ≡ some me.0
      → (word : ℕ) (moved : Past → Type 0) → Makes moves word moved board
      → (past : Past) × ((w : View) → (moves' : List Move) × (board' : BoardState ℕ) × (bell' : ℕ) × Recorded (set s.words c word) (set s.views id (record { view = w; past = past })) moves' board' bell') × moved past
  made s moves board bell r many at word moved (i, new, e, a, is, first, here, left, tells) =
      let m : Move = move id e a in
      let low : c < length board.cells = omega arith in
      let shows = ap (λ (z : ℕ). set s.words c z) left ∙ changed r id me.0 at c i new (subst (λ (z : ℕ). i % z ≡ c) (sym many) here) low in
      let same : length (with_cell board i new).cells ≡ length board.cells = length-set board.cells (i % length board.cells) new in (
        after_move me.0.past moves m,
        (λ w. (moves ++ m ∷ [], with_cell board i new, bell, moves_on r id me.0 at (set s.words c word) (with_cell board i new) e a w is first same shows)),
        tells (after_move me.0.past moves m) (extends r id me.0 at (set s.words c word) (with_cell board i new) e a slots is first (sym many)),
      )

  -- a store makes a move
  stores : (word : ℕ) (moved : Past → Type 0)
      → ((s : State (Option T) Knowledge) (moves : List Move) (board : BoardState ℕ) (bell : ℕ) → Holds number (bare_state s) → Recorded s.words s.views moves board bell → length s.homes ≡ slots → get_elem? s.views id ≡ some me.0 → length board.cells ≡ slots → Makes moves word moved board)
      → Past_after number slots id me c (λ _. word) (λ _ past. moved past)
  stores word moved local s moves board bell h r many at =
      let cells = as_many number s moves board bell h r ∙ many in
      made s moves board bell r cells at word moved (local s moves board bell h r many at cells)

  -- an exchange makes a move where it finds the old word
  exchanges : (old word : ℕ) (e : Event ℕ) (a : Answer ℕ)
      → ((s : State (Option T) Knowledge) (moves : List Move) (board : BoardState ℕ) (bell : ℕ) → Holds number (bare_state s) → Recorded s.words s.views moves board bell → length s.homes ≡ slots → get_elem? s.views id ≡ some me.0 → length board.cells ≡ slots → get_or s.words c 0 ≡ old
      → (i : ℕ) × (new : Content ℕ) × IsMove board e a (with_cell board i new) × (is_claim e ≡ true → moves_of id (from_shut moves) ≡ []) × (i % slots ≡ c) × (word ≡ shown new))
      → Past_after number slots id me c (λ n. either (eqb n old) word n) (λ n past. MatchBool (eqb n old) (Extends slots me.0.past e a past) (past ≡ me.0.past))
  exchanges old word e a local s moves board bell h r many at = go (eqb n old) refl
    where
      n : ℕ
      n = get_or s.words c 0

      Goal : Bool → Type 0
      Goal b = (past : Past) × ((w : View) → (moves' : List Move) × (board' : BoardState ℕ) × (bell' : ℕ) × Recorded (set s.words c (either b word n)) (set s.views id (record { view = w; past = past })) moves' board' bell')
          × MatchBool b (Extends slots me.0.past e a past) (past ≡ me.0.past)

      go : (b : Bool) → eqb n old ≡ b → Goal b
      go true is =
          let found : n ≡ old = grind (arith, nat_tests) in
          let cells = as_many number s moves board bell h r ∙ many in
          let l = local s moves board bell h r many at cells found in
          made s moves board bell r cells at word (λ past. Extends slots me.0.past e a past) (l.0, l.1, e, a, l.2, l.3, l.4, l.5, (λ past x. x))
      go false is = (me.0.past, (λ w. (moves, board, bell, stays r id me.0 at (set s.words c n) bell w (set-get_or s.words c 0 ∙ r.shows))), refl)

  -- what the machine's cell holds, where the word is known
  held : (s : State (Option T) Knowledge) (moves : List Move) (board : BoardState ℕ) (bell : ℕ) → Recorded s.words s.views moves board bell → get_elem? s.views id ≡ some me.0 → length board.cells ≡ slots
      → (i : ℕ) → i % slots ≡ c → (y : Content ℕ) × (get_or s.words c 0 ≡ shown y) × (slice_get board.cells (i % length board.cells) ≡ Some y)
  held s moves board bell r at cells i here =
      let y = content r id me.0 at c (omega arith) in
      let same : i % length board.cells ≡ c = subst (λ (z : ℕ). i % z ≡ c) (sym cells) here in
      (y.0, y.2, subst (λ (z : ℕ). slice_get board.cells z ≡ Some y.0) (sym same) y.1)

  -- the same, with the granule's word
  held_word : (s : State (Option T) Knowledge) (moves : List Move) (board : BoardState ℕ) (bell : ℕ) → Holds number (bare_state s) → Recorded s.words s.views moves board bell → length s.homes ≡ slots → get_elem? s.views id ≡ some me.0 → length board.cells ≡ slots
      → (i n : ℕ) → 0 < n → n ≤ 4 → get_or s.words c 0 ≡ 8 * i + n → (x : Content ℕ) → ((y : Content ℕ) → shown y ≡ 8 * i + n → y ≡ x) → (i % slots ≡ c) × (slice_get board.cells (i % length board.cells) ≡ Some x)
  held_word s moves board bell h r many at cells i n least most word x is =
      let here : i % slots ≡ c = subst (λ (z : ℕ). i % z ≡ c) many (stands_here number (bare_state s) c i n h (omega arith) least most word) in
      let y = held s moves board bell r at cells i here in
      (here, y.2 ∙ ap (λ (z : Content ℕ). Some z) (is y.0 (sym y.1 ∙ word)))

  pub claims_past : HasSeenOpen slots me.0.past → (i : ℕ) → Past_after number slots id me c (λ n. either (eqb n (8 * i + 1)) (8 * i + 2) n) (λ n past. MatchBool (eqb n (8 * i + 1)) (Extends slots me.0.past event.Claim (answer.Claim (Job i)) past) (past ≡ me.0.past))
  claims_past seen i = exchanges (8 * i + 1) (8 * i + 2) event.Claim (answer.Claim (Job i))
      (λ s moves board bell h r many at cells found.
      let x = held_word s moves board bell h r many at cells i 1 (omega arith) (omega arith) found (Offered i) (λ y e. shown_offered y i e) in
      let own = r.seen id me.0 at in
      (i, Claimed i, claim_job (refl, x.1, refl) refl, (λ _. claims_first slots id moves me.0.past.seen me.0.past.mine seen.0 own.0 own.1 own.2 seen.1 seen.2), x.0, refl))

  pub deposits_past : (i : ℕ) → Past_after number slots id me c (λ n. either (eqb n (8 * i + 2)) (8 * i + 3) n) (λ n past. MatchBool (eqb n (8 * i + 2)) (Extends slots me.0.past (event.Deposit i) (answer.Deposit Kept) past) (past ≡ me.0.past))
  deposits_past i = exchanges (8 * i + 2) (8 * i + 3) (event.Deposit i) (answer.Deposit Kept)
      (λ s moves board bell h r many at cells found.
      let x = held_word s moves board bell h r many at cells i 2 (omega arith) (omega arith) found (Claimed i) (λ y e. shown_claimed y i e) in
      (i, Ready i, deposit_kept (x.1, refl), no_claim, x.0, refl))

  pub revokes_past : (i : ℕ) → Past_after number slots id me c (λ n. either (eqb n (8 * i + 1)) 0 n) (λ n past. MatchBool (eqb n (8 * i + 1)) (Extends slots me.0.past (event.Take i 0) (answer.Take (Revoked i)) past) (past ≡ me.0.past))
  revokes_past i = exchanges (8 * i + 1) 0 (event.Take i 0) (answer.Take (Revoked i))
      (λ s moves board bell h r many at cells found.
      let x = held_word s moves board bell h r many at cells i 1 (omega arith) (omega arith) found (Offered i) (λ y e. shown_offered y i e) in
      (i, Empty 0, take_revoked (x.1, refl, refl), no_claim, x.0, refl))

  pub withdraws_past : (i : ℕ) → Past_after number slots id me c (λ n. either (eqb n (8 * i + 2)) (8 * i + 4) n) (λ n past. MatchBool (eqb n (8 * i + 2)) (Extends slots me.0.past (event.Take i 0) (answer.Take (InWork 0)) past) (past ≡ me.0.past))
  withdraws_past i = exchanges (8 * i + 2) (8 * i + 4) (event.Take i 0) (answer.Take (InWork 0))
      (λ s moves board bell h r many at cells found.
      let x = held_word s moves board bell h r many at cells i 2 (omega arith) (omega arith) found (Claimed i) (λ y e. shown_claimed y i e) in
      (i, Withdrawn i, take_in_work (x.1, refl, refl), no_claim, x.0, refl))

  used : (x : Content ℕ) → (shown x ≡ 0 → ⊥) → option_map (state_of itself) (Some x) ≢ Some state.Empty
  used (Empty spent) e = absurd (e refl)
  used (Offered j) e = λ q. absurd cc
  used (Claimed j) e = λ q. absurd cc
  used (Ready j) e = λ q. absurd cc
  used (Withdrawn j) e = λ q. absurd cc

  pub looks_past : Past_after number slots id me c (λ n. n) (λ n past. MatchBool (eqb n 0) (past ≡ me.0.past) ((i : ℕ) → i % slots ≡ c → Answers slots me.0.past (event.Offer i) (answer.Offer (Busy i)) past))
  looks_past s moves board bell h r many at = go (eqb n 0) refl
    where
      n : ℕ
      n = get_or s.words c 0

      Goal : Bool → Type 0
      Goal b = (past : Past) × ((w : View) → (moves' : List Move) × (board' : BoardState ℕ) × (bell' : ℕ) × Recorded (set s.words c n) (set s.views id (record { view = w; past = past })) moves' board' bell')
          × MatchBool b (past ≡ me.0.past) ((i : ℕ) → i % slots ≡ c → Answers slots me.0.past (event.Offer i) (answer.Offer (Busy i)) past)

      go : (b : Bool) → eqb n 0 ≡ b → Goal b
      go true is = (me.0.past, (λ w. (moves, board, bell, stays r id me.0 at (set s.words c n) bell w (set-get_or s.words c 0 ∙ r.shows))), refl)
      go false is =
          let cells = as_many number s moves board bell h r ∙ many in
          let busy : (i : ℕ) → i % slots ≡ c → state_at itself board i ≢ Some state.Empty = λ i here.
          let y = held s moves board bell r at cells i here in
          let not_zero : shown y.0 ≡ 0 → ⊥ = λ e. let q : n ≡ 0 = y.1 ∙ e in absurd (true≢false (sym (eq-eqb n 0 q) ∙ is)) in
          λ e. used y.0 not_zero (ap (λ z. option_map (state_of itself) z) (sym y.2) ∙ e) in
          (record { seen = moves; mine = me.0.past.mine }, (λ w. (moves, board, bell, looks_on r id me.0 at (set s.words c n) w (set-get_or s.words c 0))), (λ i here. answers r id me.0 at (event.Offer i) (answer.Offer (Busy i)) slots (inr (busy i here), refl, refl) (sym cells)))

  -- what the desk knows of the cell tells its word
  known_word : (t : Tell) (n : ℕ) → ((x : Lane) (h : maybe.Option (Option T)) → Fits number t x h → code x ≡ n) → me.0.view.desk ≡ true → get_elem? me.0.view.tells c ≡ some t
      → (s : State (Option T) View) → Holds number s → length s.homes ≡ slots → get_elem? s.views id ≡ some me.0.view → get_or s.words c 0 ≡ n
  known_word t n is desk tell s h many at =
      let d = is_desk number h.4 id me.0.view at desk in
      let x = is_there h.0 c (let m = h.4.as_many in omega arith) in
      let g = h.4.fits c x.0 x.1 in
      let tell' : get_elem? h.1.tells c ≡ some t = subst (λ (v : View). get_elem? v.tells c ≡ some t) d.1 tell in
      let same : g.0 ≡ t = some-injective g.0 t (sym g.2 ∙ tell') in
      word_is number h.4 c x.0 x.1 ∙ is x.0 g.1 (subst (λ (z : Tell). Fits number z x.0 g.1) same g.4)

  held_lane : (x : Lane) (h : maybe.Option (Option T)) → Fits number Held x h → code x ≡ 0
  held_lane x h held_empty = refl

  ready_lane : (i : ℕ) (x : Lane) (h : maybe.Option (Option T)) → Fits number (ToldReady i) x h → code x ≡ 8 * i + 3
  ready_lane i x h (told_ready_ready n) = refl

  view_at : (s : State (Option T) Knowledge) → get_elem? s.views id ≡ some me.0 → get_elem? (bare_state s).views id ≡ some me.0.view
  view_at s at = at_map (λ (k : Knowledge). k.view) s.views id me.0 at

  pub offers_past : (i : ℕ) → i % slots ≡ c → me.0.view.desk ≡ true → me.0.view.shut ≡ false → get_elem? me.0.view.tells c ≡ some Held
      → Past_after number slots id me c (λ _. 8 * i + 1) (λ _ past. (spent : ℕ) × Extends slots me.0.past (event.Offer i) (answer.Offer (Placed spent)) past)
  offers_past i here desk not_shut tell = stores (8 * i + 1) (λ past. (spent : ℕ) × Extends slots me.0.past (event.Offer i) (answer.Offer (Placed spent)) past)
      (λ s moves board bell h r many at cells.
      let word = known_word Held 0 held_lane desk tell (bare_state s) h many (view_at s at) in
      let y = held s moves board bell r at cells i here in
      let x = shown_empty y.0 (sym y.1 ∙ word) in
      let shut : board.shut ≡ false = still_open number s moves board bell h r cells many id me.0 (view_at s at) desk not_shut in
      (i, Offered i, event.Offer i, answer.Offer (Placed x.0), offer_placed (shut, y.2 ∙ ap (λ (z : Content ℕ). Some z) x.1, refl), no_claim, here, refl, (λ past e. (x.0, e))))

  pub takes_past : (i : ℕ) → me.0.view.desk ≡ true → get_elem? me.0.view.tells c ≡ some (ToldReady i)
      → Past_after number slots id me c (λ _. 0) (λ _ past. (k : ℕ) → known (get_or me.0.view.tells c Free) ≡ Some k → Extends slots me.0.past (event.Take k 0) (answer.Take (Got k)) past)
  takes_past i desk tell = stores 0 (λ past. (k : ℕ) → known (get_or me.0.view.tells c Free) ≡ Some k → Extends slots me.0.past (event.Take k 0) (answer.Take (Got k)) past)
      (λ s moves board bell h r many at cells.
      let word = known_word (ToldReady i) (8 * i + 3) (ready_lane i) desk tell (bare_state s) h many (view_at s at) in
      let x = held_word s moves board bell h r many at cells i 3 (omega arith) (omega arith) word (Ready i) (λ y e. shown_ready y i e) in (
        i,
        Empty 0,
        event.Take i 0,
        answer.Take (Got i),
        take_got (x.1, refl, refl),
        no_claim,
        x.0,
        refl,
        (λ past e k is. let r : Some i ≡ Some k = ap known (sym (tell_of me.0.view.tells c (ToldReady i) Free tell)) ∙ is in let u : i ≡ k = cc in
            subst (λ (z : ℕ). Extends slots me.0.past (event.Take z 0) (answer.Take (Got z)) past) u e),
      ))

  pub frees_past : (i : ℕ) → me.0.view.claim ≡ Some (c, i) → me.0.view.late ≡ true
      → Past_after number slots id me c (λ _. 0) (λ _ past. (k : ℕ) → me.0.view.claim ≡ Some (c, k) → Extends slots me.0.past (event.Deposit k) (answer.Deposit Late) past)
  frees_past i claim late = stores 0 (λ past. (k : ℕ) → me.0.view.claim ≡ Some (c, k) → Extends slots me.0.past (event.Deposit k) (answer.Deposit Late) past)
      (λ s moves board bell h r many at cells.
      let lane = h.4.lates id me.0.view c i (view_at s at) claim late in
      let word = word_is number h.4 c (withdrawn i id) lane in
      let x = held_word s moves board bell h r many at cells i 4 (omega arith) (omega arith) word (Withdrawn i) (λ y e. shown_withdrawn y i e) in (
        i,
        Empty i,
        event.Deposit i,
        answer.Deposit Late,
        deposit_late (x.1, refl),
        no_claim,
        x.0,
        refl,
        (λ past e k is. let pq : (c, i) ≡ (c, k) = let z : Some (c, i) ≡ Some (c, k) = sym claim ∙ is in cc in
            subst (λ (z : ℕ). Extends slots me.0.past (event.Deposit z) (answer.Deposit Late) past) (ap (λ (z : ℕ × ℕ). z.1) pq) e),
      ))

module _ {T : Type 0} (number : T → ℕ) (slots id : ℕ) (me : Me (Option T) Knowledge) where
  shut_words : (cells : List (Content ℕ)) (shut bell : ℕ) → length cells ≡ slots → set (map shown cells ++ shut ∷ bell ∷ []) slots 1 ≡ map shown cells ++ 1 ∷ bell ∷ []
  shut_words cells shut bell many =
      let long : length (map shown cells) ≡ slots = simp length-map many in
      set-append_right (map shown cells) (shut ∷ bell ∷ []) slots slots 1 long (omega arith) ∙ ap (λ (z : ℕ). map shown cells ++ set (shut ∷ bell ∷ []) z 1) (let q : slots - slots ≡ 0 = omega arith in q)

  bell_words : (cells : List (Content ℕ)) (shut bell n : ℕ) → length cells ≡ slots → set (map shown cells ++ shut ∷ bell ∷ []) (slots + 1) n ≡ map shown cells ++ shut ∷ n ∷ []
  bell_words cells shut bell n many =
      let long : length (map shown cells) ≡ slots = simp length-map many in
      set-append_right (map shown cells) (shut ∷ bell ∷ []) slots (slots + 1) n long (omega arith) ∙ ap (λ (z : ℕ). map shown cells ++ set (shut ∷ bell ∷ []) z n) (let q : slots + 1 - slots ≡ 1 = omega arith in q)

  pub shuts_past : Past_after number slots id me slots (λ _. 1) (λ _ past. Extends slots me.0.past event.Shut answer.Shut past)
  shuts_past s moves board bell h r many at =
      let cells = as_many number s moves board bell h r ∙ many in
      let m : Move = move id event.Shut answer.Shut in
      let board' : BoardState ℕ = record { cells = board.cells; shut = true } in
      let shows = ap (λ (z : List ℕ). set z slots 1) r.shows ∙ shut_words board.cells (if board.shut then 1 else 0) bell cells in (
        after_move me.0.past moves m,
        (λ w. (moves ++ m ∷ [], board', bell, moves_on r id me.0 at (set s.words slots 1) board' event.Shut answer.Shut w (board_shut refl) no_claim refl shows)),
        extends r id me.0 at (set s.words slots 1) board' event.Shut answer.Shut slots (board_shut refl) no_claim (sym cells),
      )

  pub rings_past : (f : ℕ → ℕ) → Past_after number slots id me (slots + 1) f (λ _ past. past ≡ me.0.past)
  rings_past f s moves board bell h r many at =
      let cells = as_many number s moves board bell h r ∙ many in
      let n : ℕ = f (get_or s.words (slots + 1) 0) in
      let shows = ap (λ (z : List ℕ). set z (slots + 1) n) r.shows ∙ bell_words board.cells (if board.shut then 1 else 0) bell n cells in
      (me.0.past, (λ w. (moves, board, n, stays r id me.0 at (set s.words (slots + 1) n) n w shows)), refl)

  is_shut_word : (b : Bool) (n : ℕ) → n ≡ (if b then 1 else 0) → b ≡ eqb n 1
  is_shut_word true n e = rw e refl
  is_shut_word false n e = rw e refl

  pub loads_past : (c : ℕ) → Past_after number slots id me c (λ n. n) (λ n past. MatchBool (eqb c slots) (Sees slots (eqb n 1) me.0.past past) (past ≡ me.0.past))
  loads_past c s moves board bell h r many at = go (eqb c slots) refl
    where
      n : ℕ
      n = get_or s.words c 0

      Goal : Bool → Type 0
      Goal b = (past : Past) × ((w : View) → (moves' : List Move) × (board' : BoardState ℕ) × (bell' : ℕ) × Recorded (set s.words c n) (set s.views id (record { view = w; past = past })) moves' board' bell')
          × MatchBool b (Sees slots (eqb n 1) me.0.past past) (past ≡ me.0.past)

      go : (b : Bool) → eqb c slots ≡ b → Goal b
      go true is =
          let same : c ≡ slots = grind (arith, nat_tests) in
          let cells = as_many number s moves board bell h r ∙ many in
          let a : get_or s.words (length board.cells) 0 ≡ (if board.shut then 1 else 0) = ap (λ (z : List ℕ). get_or z (length board.cells) 0) r.shows ∙ word_after shown board.cells _ _ in
          let word : n ≡ (if board.shut then 1 else 0) = ap (λ (z : ℕ). get_or s.words z 0) (same ∙ sym cells) ∙ a in
          (record { seen = moves; mine = me.0.past.mine }, (λ w. (moves, board, bell, looks_on r id me.0 at (set s.words c n) w (set-get_or s.words c 0))), sees r id me.0 at (eqb n 1) slots (is_shut_word board.shut n word) (sym cells))
      go false is = (me.0.past, (λ w. (moves, board, bell, stays r id me.0 at (set s.words c n) bell w (set-get_or s.words c 0 ∙ r.shows))), refl)
