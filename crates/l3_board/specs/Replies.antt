-- The board's answers where a claim takes the granule of the least number: a run of the machine
-- that chooses nothing.
use Rattle.std.specs.Prelude.{◌≡◌, ◌≤◌, ◌==◌, ℕ, nat_le, if◌then◌else◌, true, Option, Some, None, List, [], ◌∷◌, slice_get}
use Rattle.std.specs.List.{flat_map}
use Rattle.l3_board.specs.declared.cell.Content.{Content}
use Rattle.l3_board.specs.declared.cell.Content.TheVariants.{Empty, Offered, Claimed, Ready, Withdrawn}
use Rattle.l3_board.specs.declared.event.Event.{Event}
use Rattle.l3_board.specs.declared.event.Event.TheVariants as event
use Rattle.l3_board.specs.declared.event.Answer.{Answer}
use Rattle.l3_board.specs.declared.event.Answer.TheVariants as answer
use Rattle.l3_board.specs.declared.event.Offer.{Offer}
use Rattle.l3_board.specs.declared.event.Offer.TheVariants.{Placed, Busy}
use Rattle.l3_board.specs.declared.event.Claim.{Claim}
use Rattle.l3_board.specs.declared.event.Claim.TheVariants.{Job, Nothing, Shut}
use Rattle.l3_board.specs.declared.event.Deposit.{Deposit}
use Rattle.l3_board.specs.declared.event.Deposit.TheVariants.{Kept, Late, Stray}
use Rattle.l3_board.specs.declared.event.Take.{Take}
use Rattle.l3_board.specs.declared.event.Take.TheVariants.{Got, Revoked, InWork, NotOffered}
use Rattle.l3_board.specs.Machine.{BoardState, cell_of, with_cell}
use Rattle.l3_board.specs.Items.{on_offer}

module _ {T : Type 0} (number : T → ℕ) where
  -- the item of the lesser number, the first where they are equal
  abbrev pub lesser : T → Option T → T
  lesser x None = x
  lesser x (Some y) = if nat_le (number x) (number y) then x else y

  -- the item of the least number
  abbrev pub least_item : List T → Option T
  least_item [] = None
  least_item (x ∷ xs) = Some (lesser x (least_item xs))

  -- the item that a claim hands out
  abbrev pub claimed_least : BoardState T → Option T
  claimed_least board = least_item (flat_map on_offer board.cells)

  -- the item of the least number on offer, by its cell and its number
  pub record IsLeastAt (cells : List (Content T)) (at i : ℕ) (x : T) : Type 0 where
    pub offered : slice_get cells at ≡ Some (Offered x)
    pub number_is : i ≡ number x
    pub least : least_item (flat_map on_offer cells) ≡ Some x

  -- the cell and the number of the least item on offer, where one is
  -- (only the inside of this crate)
  abbrev pub FindsLeast : List (Content T) → Option (ℕ × ℕ) → Type 0
  FindsLeast cells None = least_item (flat_map on_offer cells) ≡ None
  FindsLeast cells (Some found) = (x : T) × IsLeastAt cells found.0 found.1 x

  -- no item on offer has a lesser number
  abbrev pub IsLeastOffered : BoardState T → T → Type 0
  IsLeastOffered board x = (c : ℕ) (y : T) → slice_get board.cells c ≡ Some (Offered y) → number x ≤ number y

  -- an offer's answer and the board after it, by what the item's cell holds
  abbrev pub offer_at : BoardState T → T → Option (Content T) → Offer T × BoardState T
  offer_at board x (Some (Empty spent)) = (Placed spent, with_cell board (number x) (Offered x))
  offer_at board x _ = (Busy x, board)

  -- an offer's answer and the board after it
  abbrev pub offer_outcome : BoardState T → T → Offer T × BoardState T
  offer_outcome board x = if board.shut then (Busy x, board) else offer_at board x (cell_of board (number x))

  -- a claim's answer and the board after it, by the item that is to go out
  abbrev pub claim_at : BoardState T → Option T → Claim T × BoardState T
  claim_at board None = (Nothing, board)
  claim_at board (Some x) = (Job x, with_cell board (number x) (Claimed (number x)))

  -- a claim's answer and the board after it
  abbrev pub claim_outcome : BoardState T → Claim T × BoardState T
  claim_outcome board = if board.shut then (Shut, board) else claim_at board (claimed_least board)

  -- a deposit's answer and the board after it, by what the item's cell holds
  abbrev pub deposit_at : BoardState T → T → Option (Content T) → Deposit T × BoardState T
  deposit_at board x (Some (Claimed i)) =
      if i == number x then (Kept, with_cell board (number x) (Ready x)) else (Stray x, board)
  deposit_at board x (Some (Withdrawn i)) =
      if i == number x then (Late, with_cell board (number x) (Empty x)) else (Stray x, board)
  deposit_at board x _ = (Stray x, board)

  -- a deposit's answer and the board after it
  abbrev pub deposit_outcome : BoardState T → T → Deposit T × BoardState T
  deposit_outcome board x = deposit_at board x (cell_of board (number x))

  -- a take's answer and the board after it, by what the granule's cell holds
  abbrev pub take_at : BoardState T → ℕ → T → Option (Content T) → Take T × BoardState T
  take_at board i spare (Some (Ready x)) =
      if number x == i then (Got x, with_cell board i (Empty spare)) else (NotOffered spare, board)
  take_at board i spare (Some (Offered x)) =
      if number x == i then (Revoked x, with_cell board i (Empty spare)) else (NotOffered spare, board)
  take_at board i spare (Some (Claimed j)) =
      if j == i then (InWork spare, with_cell board i (Withdrawn i)) else (NotOffered spare, board)
  take_at board i spare _ = (NotOffered spare, board)

  -- a take's answer and the board after it
  abbrev pub take_outcome : BoardState T → ℕ → T → Take T × BoardState T
  take_outcome board i spare = take_at board i spare (cell_of board i)

  -- the answer to an event
  abbrev pub reply : BoardState T → Event T → Answer T
  reply board (event.Offer x) = answer.Offer (offer_outcome board x).0
  reply board event.Claim = answer.Claim (claim_outcome board).0
  reply board (event.Deposit x) = answer.Deposit (deposit_outcome board x).0
  reply board (event.Take i spare) = answer.Take (take_outcome board i spare).0
  reply board event.Shut = answer.Shut

  -- the board after an event
  abbrev pub after_event : BoardState T → Event T → BoardState T
  after_event board (event.Offer x) = (offer_outcome board x).1
  after_event board event.Claim = (claim_outcome board).1
  after_event board (event.Deposit x) = (deposit_outcome board x).1
  after_event board (event.Take i spare) = (take_outcome board i spare).1
  after_event board event.Shut = record { cells = board.cells; shut = true }

  -- the answers to events in order
  abbrev pub replies : BoardState T → List (Event T) → List (Answer T)
  replies board [] = []
  replies board (e ∷ events) = reply board e ∷ replies (after_event board e) events

  -- the board after events in order
  abbrev pub state_after : BoardState T → List (Event T) → BoardState T
  state_after board [] = board
  state_after board (e ∷ events) = state_after (after_event board e) events
