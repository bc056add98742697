-- A step other than a claim is the one that the board makes.
use Rattle.std.proofs.Common.{◌≡◌, ◌≢◌, ◌⊎◌, inl, inr, ℕ, Bool, true, false, if◌then◌else◌, Option, Some, None, refl, ap}
use Rattle.std.proofs.lemmas.Bool.{eq-eqb}
use Rattle.std.proofs.lemmas.Bool.Decides.{eqb_tells}
use Rattle.l3_board.specs.declared.cell.Cell.TheVariants as state
use Rattle.l3_board.specs.declared.cell.Content.{Content}
use Rattle.l3_board.specs.declared.cell.Content.TheVariants.{Empty, Offered, Claimed, Ready, Withdrawn}
use Rattle.l3_board.specs.declared.event.Event.TheVariants as event
use Rattle.l3_board.specs.declared.event.Answer.TheVariants as answer
use Rattle.l3_board.specs.declared.event.Offer.{Offer}
use Rattle.l3_board.specs.declared.event.Offer.TheVariants.{Placed, Busy}
use Rattle.l3_board.specs.declared.event.Deposit.{Deposit}
use Rattle.l3_board.specs.declared.event.Deposit.TheVariants.{Kept, Late, Stray}
use Rattle.l3_board.specs.declared.event.Take.{Take}
use Rattle.l3_board.specs.declared.event.Take.TheVariants.{Got, Revoked, InWork, NotOffered}
use Rattle.l3_board.specs.Machine.{BoardState, Step, cell_of, with_cell, state_at}
use Rattle.l3_board.specs.Replies.{offer_at, offer_outcome, deposit_at, deposit_outcome, take_at, take_outcome}
use Rattle.l3_board.specs.Laws.{OneOutcome}

module _ {T : Type 0} (number : T → ℕ) where
  busy : (board : BoardState T) (x : T) (b : Bool) → board.shut ≡ b → (o : Option (Content T)) → cell_of board (number x) ≡ o → (board.shut ≡ true) ⊎ (state_at number board (number x) ≢ Some state.Empty) → (Busy x, board) ≡ (if b then (Busy x, board) else offer_at number board x o)
  busy board x true u o e h = refl
  busy board x false u None e h = refl
  busy board x false u (Some (Empty y)) e (inl t) = absurd cc
  busy board x false u (Some (Empty y)) e (inr n) = absurd (n (rw e refl))
  busy board x false u (Some (Offered y)) e h = refl
  busy board x false u (Some (Claimed i)) e h = refl
  busy board x false u (Some (Ready y)) e h = refl
  busy board x false u (Some (Withdrawn i)) e h = refl

  placed : (board : BoardState T) (x y : T) (b : Bool) → b ≡ false → (o : Option (Content T)) → o ≡ Some (Empty y) → (Placed y, with_cell board (number x) (Offered x)) ≡ (if b then (Busy x, board) else offer_at number board x o)
  placed board x y b unshut o e = rw (unshut, e) refl

  -- an offer has one outcome
  pub offer_one : (before after : BoardState T) (x : T) (a : Offer T) → Step number before (event.Offer x) (answer.Offer a) after → (a, after) ≡ offer_outcome number before x
  offer_one before after x (Placed y) s = rw s.2 (placed before x y before.shut s.0 (cell_of before (number x)) s.1)
  offer_one before after x (Busy y) s = rw (s.1, s.2) (busy before x before.shut refl (cell_of before (number x)) refl s.0)

  stray : (board : BoardState T) (x : T) (o : Option (Content T)) → cell_of board (number x) ≡ o → state_at number board (number x) ≢ Some (state.Claimed (number x)) → state_at number board (number x) ≢ Some (state.Withdrawn (number x)) → (Stray x, board) ≡ deposit_at number board x o
  stray board x None e claimed withdrawn = refl
  stray board x (Some (Empty y)) e claimed withdrawn = refl
  stray board x (Some (Offered y)) e claimed withdrawn = refl
  stray board x (Some (Claimed i)) e claimed withdrawn =
      elim (eqb_tells i (number x)) [ inl p ↦ absurd (claimed (rw e (ap (λ j. Some (state.Claimed j)) p.1))) | inr p ↦ rw p.0 refl ]
  stray board x (Some (Ready y)) e claimed withdrawn = refl
  stray board x (Some (Withdrawn i)) e claimed withdrawn =
      elim (eqb_tells i (number x)) [ inl p ↦ absurd (withdrawn (rw e (ap (λ j. Some (state.Withdrawn j)) p.1))) | inr p ↦ rw p.0 refl ]

  -- a deposit has one outcome
  pub deposit_one : (before after : BoardState T) (x : T) (a : Deposit T) → Step number before (event.Deposit x) (answer.Deposit a) after → (a, after) ≡ deposit_outcome number before x
  deposit_one before after x Kept s = rw (s.1, s.0, eq-eqb (number x) (number x) refl) refl
  deposit_one before after x Late s = rw (s.1, s.0, eq-eqb (number x) (number x) refl) refl
  deposit_one before after x (Stray y) s = rw (s.2, s.3) (stray before x (cell_of before (number x)) refl s.0 s.1)

  not_offered : (board : BoardState T) (i : ℕ) (spare : T) (o : Option (Content T)) → cell_of board i ≡ o → state_at number board i ≢ Some (state.Ready i) → state_at number board i ≢ Some (state.Offered i) → state_at number board i ≢ Some (state.Claimed i) → (NotOffered spare, board) ≡ take_at number board i spare o
  not_offered board i spare None e ready offered claimed = refl
  not_offered board i spare (Some (Empty y)) e ready offered claimed = refl
  not_offered board i spare (Some (Offered y)) e ready offered claimed =
      elim (eqb_tells (number y) i) [ inl p ↦ absurd (offered (rw e (ap (λ j. Some (state.Offered j)) p.1))) | inr p ↦ rw p.0 refl ]
  not_offered board i spare (Some (Claimed j)) e ready offered claimed =
      elim (eqb_tells j i) [ inl p ↦ absurd (claimed (rw e (ap (λ k. Some (state.Claimed k)) p.1))) | inr p ↦ rw p.0 refl ]
  not_offered board i spare (Some (Ready y)) e ready offered claimed =
      elim (eqb_tells (number y) i) [ inl p ↦ absurd (ready (rw e (ap (λ j. Some (state.Ready j)) p.1))) | inr p ↦ rw p.0 refl ]
  not_offered board i spare (Some (Withdrawn j)) e ready offered claimed = refl

  -- a take has one outcome
  pub take_one : (before after : BoardState T) (i : ℕ) (spare : T) (a : Take T) → Step number before (event.Take i spare) (answer.Take a) after → (a, after) ≡ take_outcome number before i spare
  take_one before after i spare (Got x) s = rw (s.2, s.0, eq-eqb (number x) i s.1) refl
  take_one before after i spare (Revoked x) s = rw (s.2, s.0, eq-eqb (number x) i s.1) refl
  take_one before after i spare (InWork y) s = rw (s.1, s.2, s.0, eq-eqb i i refl) refl
  take_one before after i spare (NotOffered y) s = rw (s.3, s.4) (not_offered before i spare (cell_of before i) refl s.0 s.1 s.2)

  -- an event other than a claim has one outcome
  pub one_outcome : OneOutcome number
  one_outcome before after (event.Offer x) (answer.Offer a) s not = let q = offer_one before after x a s in (ap (λ (o : Offer T × BoardState T). answer.Offer o.0) q, ap (λ (o : Offer T × BoardState T). o.1) q)
  one_outcome before after event.Claim a s not = absurd (not refl)
  one_outcome before after (event.Deposit x) (answer.Deposit a) s not = let q = deposit_one before after x a s in (ap (λ (o : Deposit T × BoardState T). answer.Deposit o.0) q, ap (λ (o : Deposit T × BoardState T). o.1) q)
  one_outcome before after (event.Take i spare) (answer.Take a) s not = let q = take_one before after i spare a s in (ap (λ (o : Take T × BoardState T). answer.Take o.0) q, ap (λ (o : Take T × BoardState T). o.1) q)
  one_outcome before after event.Shut answer.Shut s not = (refl, s)
  one_outcome before after _ _ s not = absurd s
