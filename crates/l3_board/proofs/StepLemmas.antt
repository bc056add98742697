-- Each reply of a board is a step of the machine.
use Rattle.std.proofs.Common.{◌≡◌, inl, inr, ◌%◌, ◌==◌, ℕ, Bool, true, false, if◌then◌else◌, Option, Some, None, List, length, set, get_or, slice_get, refl, ap, sym, ◌∙◌, subst}
use Rattle.std.proofs.lemmas.Option.{get_or_from_slice_get}
use Rattle.std.proofs.lemmas.Bool.{eqb-true, eqb-false}
use Rattle.std.specs.List.{flat_map}
use Rattle.l3_board.specs.declared.cell.Content.{Content}
use Rattle.l3_board.specs.declared.cell.Content.TheVariants.{Empty, Offered, Claimed, Ready, Withdrawn}
use Rattle.l3_board.specs.declared.event.Event.TheVariants as event
use Rattle.l3_board.specs.declared.event.Answer.TheVariants as answer
use Rattle.l3_board.specs.declared.event.Event.{Event}
use Rattle.l3_board.specs.declared.event.Offer.{Offer}
use Rattle.l3_board.specs.declared.event.Offer.TheVariants.{Busy}
use Rattle.l3_board.specs.declared.event.Deposit.{Deposit}
use Rattle.l3_board.specs.declared.event.Take.{Take}
use Rattle.l3_board.specs.declared.event.Deposit.TheVariants.{Kept, Late, Stray}
use Rattle.l3_board.specs.declared.event.Take.TheVariants.{Got, Revoked, InWork, NotOffered}
use Rattle.l3_board.specs.declared.event.Claim.{Claim}
use Rattle.l3_board.specs.declared.event.Claim.TheVariants.{Job, Nothing, Shut}
use Rattle.l3_board.specs.Machine.{BoardState, IsSound, Step, cell_of, with_cell}
use Rattle.l3_board.specs.Items.{on_offer}
use Rattle.l3_board.specs.Replies.{least_item, claimed_least, IsLeastAt, IsLeastOffered, offer_at, claim_at, claim_outcome, deposit_at, take_at, reply, after_event}
use Rattle.l3_board.proofs.LeastLemmas.{nothing_offered, least_on_offer, least_cell}

module _ {T : Type 0} (number : T → ℕ) where
  -- that an outcome, an answer with the board after it, is a step
  abbrev OfferStep : BoardState T → T → Offer T × BoardState T → Type 0
  OfferStep board x o = Step number board (event.Offer x) (answer.Offer o.0) o.1

  abbrev ClaimStep : BoardState T → Claim T × BoardState T → Type 0
  ClaimStep board o = Step number board event.Claim (answer.Claim o.0) o.1

  abbrev DepositStep : BoardState T → T → Deposit T × BoardState T → Type 0
  DepositStep board x o = Step number board (event.Deposit x) (answer.Deposit o.0) o.1

  abbrev TakeStep : BoardState T → ℕ → T → Take T × BoardState T → Type 0
  TakeStep board i spare o = Step number board (event.Take i spare) (answer.Take o.0) o.1

  -- an item on offer stands in its own cell
  pub offered_cell : (board : BoardState T) → IsSound number board → (c : ℕ) (x : T) → slice_get board.cells c ≡ Some (Offered x) → cell_of board (number x) ≡ Some (Offered x)
  offered_cell board sound c x at = let e : number x % length board.cells ≡ c = sound.placed c (Offered x) at in ap (slice_get board.cells) e ∙ at

  claim_at-step : (board : BoardState T) → IsSound number board → board.shut ≡ false → (o : Option T) → claimed_least number board ≡ o → ClaimStep board (claim_at number board o)
  claim_at-step board sound unshut None e = (unshut, nothing_offered number board.cells e, refl)
  claim_at-step board sound unshut (Some x) e = let at = least_cell number board.cells x e in (unshut, offered_cell board sound at.0 x at.1, refl)

  claim_if-step : (board : BoardState T) → IsSound number board → (b : Bool) → board.shut ≡ b →
      ClaimStep board (if b then (Shut, board) else claim_at number board (claimed_least number board))
  claim_if-step board sound true e = (e, refl)
  claim_if-step board sound false e = claim_at-step board sound e (claimed_least number board) refl

  -- a claim is a step
  pub claim-step : (board : BoardState T) → IsSound number board → ClaimStep board (claim_outcome number board)
  claim-step board sound = claim_if-step board sound board.shut refl

  -- the cell of the least item on offer has that item
  pub offered_there : (cells : List (Content T)) (at i : ℕ) (x : T) (cell : Content T) → IsLeastAt number cells at i x → cell ≡ get_or cells at cell → cell ≡ Offered x
  offered_there cells at i x cell least is = is ∙ get_or_from_slice_get cells at (Offered x) cell least.offered

  -- what a claim hands out is the claim's outcome
  pub job_outcome : (board : BoardState T) (cells : List (Content T)) (shut : Bool) (at i : ℕ) (x job : T) (new : Content T) → record { cells = cells; shut = shut } ≡ board → IsSound number record { cells = cells; shut = shut } → shut ≡ false → IsLeastAt number cells at i x → x ≡ job → new ≡ Claimed i →
      (Job job, record { cells = set cells at new; shut = shut }) ≡ claim_outcome number board
  job_outcome board cells shut at i x job new view sound unshut least same claimed =
      let place : number x % length cells ≡ at = sound.placed at (Offered x) least.offered in
      let n : new ≡ Claimed (number x) = cc in
      let whole : record { cells = cells; shut = shut } ≡ board = view in
      subst (λ (b : BoardState T). (Job job, record { cells = set cells at new; shut = shut }) ≡ claim_outcome number b) view
      (rw (unshut, least.least, ← same, n, place) refl)

  pub nothing_step : (board : BoardState T) (cells : List (Content T)) (shut : Bool) → record { cells = cells; shut = shut } ≡ board → shut ≡ false → least_item number (flat_map on_offer cells) ≡ None → Step number board event.Claim (answer.Claim Nothing) board
  nothing_step board cells shut view unshut none =
      subst (λ (b : BoardState T). Step number b event.Claim (answer.Claim Nothing) b) view (unshut, nothing_offered number cells none, refl)

  -- a claim's outcome is a step
  pub outcome_step : (board after : BoardState T) (cells : List (Content T)) (shut : Bool) (a : Claim T) → record { cells = cells; shut = shut } ≡ board → IsSound number record { cells = cells; shut = shut } → (a, after) ≡ claim_outcome number board → Step number board event.Claim (answer.Claim a) after
  outcome_step board after cells shut a view sound is =
      let sound' : IsSound number board = subst (λ (b : BoardState T). IsSound number b) view sound in
      subst (ClaimStep board) (sym is) (claim-step board sound')

  -- the job of a claim is the least on offer
  pub job_least : (board : BoardState T) (cells : List (Content T)) (shut : Bool) (at i : ℕ) (x job : T) → record { cells = cells; shut = shut } ≡ board → IsLeastAt number cells at i x → x ≡ job → IsLeastOffered number board job
  job_least board cells shut at i x job view least same =
      subst (λ (b : BoardState T). IsLeastOffered number b job) view (rw (← same) (least_on_offer number cells x least.least))

  offer_at-step : (board : BoardState T) (x : T) → board.shut ≡ false → (o : Option (Content T)) → cell_of board (number x) ≡ o → OfferStep board x (offer_at number board x o)
  offer_at-step board x unshut None e = (inr (λ q. let r = rw e at q in cc), refl, refl)
  offer_at-step board x unshut (Some (Empty spent)) e = (unshut, e, refl)
  offer_at-step board x unshut (Some (Offered y)) e = (inr (λ q. let r = rw e at q in cc), refl, refl)
  offer_at-step board x unshut (Some (Claimed i)) e = (inr (λ q. let r = rw e at q in cc), refl, refl)
  offer_at-step board x unshut (Some (Ready y)) e = (inr (λ q. let r = rw e at q in cc), refl, refl)
  offer_at-step board x unshut (Some (Withdrawn i)) e = (inr (λ q. let r = rw e at q in cc), refl, refl)

  offer_if-step : (board : BoardState T) (x : T) → (b : Bool) → board.shut ≡ b →
      OfferStep board x (if b then (Busy x, board) else offer_at number board x (cell_of board (number x)))
  offer_if-step board x true e = (inl e, refl, refl)
  offer_if-step board x false e = offer_at-step board x e (cell_of board (number x)) refl

  claimed_at-step : (board : BoardState T) (x : T) (i : ℕ) → cell_of board (number x) ≡ Some (Claimed i) → (b : Bool) → (i == number x) ≡ b →
      DepositStep board x (if b then (Kept, with_cell board (number x) (Ready x)) else (Stray x, board))
  claimed_at-step board x i e true t = let n = eqb-true i (number x) t in (e ∙ ap (λ j. Some (Claimed j)) n, refl)
  claimed_at-step board x i e false t =
      (λ q. let r = rw e at q in eqb-false i (number x) t cc, λ q. let r = rw e at q in cc, refl, refl)

  withdrawn_at-step : (board : BoardState T) (x : T) (i : ℕ) → cell_of board (number x) ≡ Some (Withdrawn i) → (b : Bool) → (i == number x) ≡ b →
      DepositStep board x (if b then (Late, with_cell board (number x) (Empty x)) else (Stray x, board))
  withdrawn_at-step board x i e true t = let n = eqb-true i (number x) t in (e ∙ ap (λ j. Some (Withdrawn j)) n, refl)
  withdrawn_at-step board x i e false t =
      (λ q. let r = rw e at q in cc, λ q. let r = rw e at q in eqb-false i (number x) t cc, refl, refl)

  deposit_at-step : (board : BoardState T) (x : T) (o : Option (Content T)) → cell_of board (number x) ≡ o → DepositStep board x (deposit_at number board x o)
  deposit_at-step board x None e = (λ q. let r = rw e at q in cc, λ q. let r = rw e at q in cc, refl, refl)
  deposit_at-step board x (Some (Empty y)) e = (λ q. let r = rw e at q in cc, λ q. let r = rw e at q in cc, refl, refl)
  deposit_at-step board x (Some (Offered y)) e = (λ q. let r = rw e at q in cc, λ q. let r = rw e at q in cc, refl, refl)
  deposit_at-step board x (Some (Claimed i)) e = claimed_at-step board x i e (i == number x) refl
  deposit_at-step board x (Some (Ready y)) e = (λ q. let r = rw e at q in cc, λ q. let r = rw e at q in cc, refl, refl)
  deposit_at-step board x (Some (Withdrawn i)) e = withdrawn_at-step board x i e (i == number x) refl

  ready_at-step : (board : BoardState T) (i : ℕ) (spare x : T) → cell_of board i ≡ Some (Ready x) → (b : Bool) → (number x == i) ≡ b →
      TakeStep board i spare (if b then (Got x, with_cell board i (Empty spare)) else (NotOffered spare, board))
  ready_at-step board i spare x e true t = (e, eqb-true (number x) i t, refl)
  ready_at-step board i spare x e false t =
      (λ q. let r = rw e at q in eqb-false (number x) i t cc, λ q. let r = rw e at q in cc, λ q. let r = rw e at q in cc, refl, refl)

  offered_at-step : (board : BoardState T) (i : ℕ) (spare x : T) → cell_of board i ≡ Some (Offered x) → (b : Bool) → (number x == i) ≡ b →
      TakeStep board i spare (if b then (Revoked x, with_cell board i (Empty spare)) else (NotOffered spare, board))
  offered_at-step board i spare x e true t = (e, eqb-true (number x) i t, refl)
  offered_at-step board i spare x e false t =
      (λ q. let r = rw e at q in cc, λ q. let r = rw e at q in eqb-false (number x) i t cc, λ q. let r = rw e at q in cc, refl, refl)

  in_work_at-step : (board : BoardState T) (i : ℕ) (spare : T) (j : ℕ) → cell_of board i ≡ Some (Claimed j) → (b : Bool) → (j == i) ≡ b →
      TakeStep board i spare (if b then (InWork spare, with_cell board i (Withdrawn i)) else (NotOffered spare, board))
  in_work_at-step board i spare j e true t = let n = eqb-true j i t in (e ∙ ap (λ k. Some (Claimed k)) n, refl, refl)
  in_work_at-step board i spare j e false t =
      (λ q. let r = rw e at q in cc, λ q. let r = rw e at q in cc, λ q. let r = rw e at q in eqb-false j i t cc, refl, refl)

  take_at-step : (board : BoardState T) (i : ℕ) (spare : T) (o : Option (Content T)) → cell_of board i ≡ o → TakeStep board i spare (take_at number board i spare o)
  take_at-step board i spare None e = (λ q. let r = rw e at q in cc, λ q. let r = rw e at q in cc, λ q. let r = rw e at q in cc, refl, refl)
  take_at-step board i spare (Some (Empty y)) e = (λ q. let r = rw e at q in cc, λ q. let r = rw e at q in cc, λ q. let r = rw e at q in cc, refl, refl)
  take_at-step board i spare (Some (Offered x)) e = offered_at-step board i spare x e (number x == i) refl
  take_at-step board i spare (Some (Claimed j)) e = in_work_at-step board i spare j e (j == i) refl
  take_at-step board i spare (Some (Ready x)) e = ready_at-step board i spare x e (number x == i) refl
  take_at-step board i spare (Some (Withdrawn j)) e = (λ q. let r = rw e at q in cc, λ q. let r = rw e at q in cc, λ q. let r = rw e at q in cc, refl, refl)

  -- each reply is a step
  pub reply-step : (board : BoardState T) (e : Event T) → IsSound number board → Step number board e (reply number board e) (after_event number board e)
  reply-step board (event.Offer x) sound = offer_if-step board x board.shut refl
  reply-step board event.Claim sound = claim-step board sound
  reply-step board (event.Deposit x) sound = deposit_at-step board x (cell_of board (number x)) refl
  reply-step board (event.Take i spare) sound = take_at-step board i spare (cell_of board i) refl
  reply-step board event.Shut sound = refl
