-- Where the items of a board are, and how events move them.
use Rattle.std.specs.Prelude.{ℕ, List, [], ◌∷◌}
use Rattle.std.specs.List.{flat_map, zip}
use Rattle.l3_board.specs.declared.cell.Content.{Content}
use Rattle.l3_board.specs.declared.cell.Content.TheVariants.{Empty, Offered, Ready}
use Rattle.l3_board.specs.declared.event.Event.{Event}
use Rattle.l3_board.specs.declared.event.Event.TheVariants as event
use Rattle.l3_board.specs.declared.event.Answer.{Answer}
use Rattle.l3_board.specs.declared.event.Answer.TheVariants as answer
use Rattle.l3_board.specs.declared.event.Offer.TheVariants.{Placed, Busy}
use Rattle.l3_board.specs.declared.event.Claim.TheVariants.{Job}
use Rattle.l3_board.specs.declared.event.Deposit.TheVariants.{Kept, Late, Stray}
use Rattle.l3_board.specs.declared.event.Take.TheVariants.{Got, Revoked, InWork, NotOffered}

module _ {T : Type 0} where
  -- the item of a cell, if it has one
  abbrev pub items_of : Content T → List T
  items_of (Empty x) = x ∷ []
  items_of (Offered x) = x ∷ []
  items_of (Ready x) = x ∷ []
  items_of _ = []

  -- the item of an empty cell: a spent one
  abbrev pub spent : Content T → List T
  spent (Empty x) = x ∷ []
  spent _ = []

  -- the item of a cell on offer
  abbrev pub on_offer : Content T → List T
  on_offer (Offered x) = x ∷ []
  on_offer _ = []

  -- the item of a cell that is ready
  abbrev pub ready : Content T → List T
  ready (Ready x) = x ∷ []
  ready _ = []

  -- the item that comes with an event
  abbrev pub given : Event T → List T
  given (event.Offer x) = x ∷ []
  given (event.Deposit x) = x ∷ []
  given (event.Take i spare) = spare ∷ []
  given _ = []

  -- the item that goes out with an answer
  abbrev pub handed_out : Answer T → List T
  handed_out (answer.Offer (Placed x)) = x ∷ []
  handed_out (answer.Offer (Busy x)) = x ∷ []
  handed_out (answer.Claim (Job x)) = x ∷ []
  handed_out (answer.Deposit (Stray x)) = x ∷ []
  handed_out (answer.Take (Got x)) = x ∷ []
  handed_out (answer.Take (Revoked x)) = x ∷ []
  handed_out (answer.Take (InWork x)) = x ∷ []
  handed_out (answer.Take (NotOffered x)) = x ∷ []
  handed_out _ = []

  -- the spent item that goes out for one that is put on offer
  abbrev pub replaced : Answer T → List T
  replaced (answer.Offer (Placed x)) = x ∷ []
  replaced _ = []

  -- the item that a claimant gets
  abbrev pub job : Answer T → List T
  job (answer.Claim (Job x)) = x ∷ []
  job _ = []

  -- the item that goes out as it was offered: to a claimant, or by a take
  abbrev pub as_offered : Answer T → List T
  as_offered (answer.Claim (Job x)) = x ∷ []
  as_offered (answer.Take (Revoked x)) = x ∷ []
  as_offered _ = []

  -- the item that goes out as it was handed in
  abbrev pub got : Answer T → List T
  got (answer.Take (Got x)) = x ∷ []
  got _ = []

  -- the item that is put on offer
  abbrev pub put_on_offer : Event T → Answer T → List T
  put_on_offer (event.Offer x) (answer.Offer (Placed y)) = x ∷ []
  put_on_offer _ _ = []

  -- the item that is handed in and kept
  abbrev pub kept : Event T → Answer T → List T
  kept (event.Deposit x) (answer.Deposit Kept) = x ∷ []
  kept _ _ = []

  -- the item that stays as a spent one: a late item, or the spare for one that is taken
  abbrev pub left_as_spent : Event T → Answer T → List T
  left_as_spent (event.Deposit x) (answer.Deposit Late) = x ∷ []
  left_as_spent (event.Take i spare) (answer.Take (Got x)) = spare ∷ []
  left_as_spent (event.Take i spare) (answer.Take (Revoked x)) = spare ∷ []
  left_as_spent _ _ = []

  -- the granule that a take takes off the board: it was ready, on offer or in work
  abbrev pub taken : Event T → Answer T → List ℕ
  taken (event.Take i spare) (answer.Take (Got x)) = i ∷ []
  taken (event.Take i spare) (answer.Take (Revoked x)) = i ∷ []
  taken (event.Take i spare) (answer.Take (InWork y)) = i ∷ []
  taken _ _ = []

  -- what events with their answers have of this, in order
  abbrev pub along : {A : Type 0} → (Event T → Answer T → List A) → List (Event T) → List (Answer T) → List A
  along part events answers = flat_map (λ turn. part turn.0 turn.1) (zip events answers)
