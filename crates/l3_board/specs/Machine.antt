-- The board as a machine: its cells, the steps that it may take, and its runs over lists of events.
use Rattle.std.specs.Prelude.{◌≡◌, ◌≢◌, ◌⊎◌, ◌<◌, ◌≤◌, ◌%◌, ℕ, Bool, true, false, Option, Some, List, [], ◌∷◌, length, map, count_by, slice_get, slice_set}
use Rattle.std.specs.Option.{option_map}
use Rattle.l3_board.specs.declared.cell.Cell.{Cell}
use Rattle.l3_board.specs.declared.cell.Cell.TheVariants as state
use Rattle.l3_board.specs.declared.cell.Content.{Content}
use Rattle.l3_board.specs.declared.cell.Content.TheVariants.{Empty, Offered, Claimed, Ready, Withdrawn}
use Rattle.l3_board.specs.declared.event.Event.{Event}
use Rattle.l3_board.specs.declared.event.Event.TheVariants as event
use Rattle.l3_board.specs.declared.event.Answer.{Answer}
use Rattle.l3_board.specs.declared.event.Answer.TheVariants as answer
use Rattle.l3_board.specs.declared.event.Offer.TheVariants.{Placed, Busy}
use Rattle.l3_board.specs.declared.event.Claim.TheVariants.{Job, Nothing, Shut}
use Rattle.l3_board.specs.declared.event.Deposit.TheVariants.{Kept, Late, Stray}
use Rattle.l3_board.specs.declared.event.Take.TheVariants.{Got, Revoked, InWork, NotOffered}

-- a board: what its cells hold, and whether it is shut
pub record BoardState (T : Type 0) : Type 0 where
  pub cells : List (Content T)
  pub shut : Bool

module _ {T : Type 0} where
  -- a board that begins: each cell is empty and has a blank item
  abbrev pub fresh : List T → BoardState T
  fresh blanks = record { cells = map Empty blanks; shut = false }

  -- what the cell of granule i holds: cell i mod L, of L cells
  abbrev pub cell_of : BoardState T → ℕ → Option (Content T)
  cell_of board i = slice_get board.cells (i % length board.cells)

  -- the board with another content in the cell of granule i
  abbrev pub with_cell : BoardState T → ℕ → Content T → BoardState T
  with_cell board i content =
      record { cells = slice_set board.cells (i % length board.cells) content; shut = board.shut }

  -- a cell is held unless it is empty
  abbrev pub is_held : Content T → Bool
  is_held (Empty spent) = false
  is_held _ = true

  -- how many cells are held
  abbrev pub held_of : BoardState T → ℕ
  held_of board = count_by is_held board.cells

module _ {T : Type 0} (number : T → ℕ) where
  -- a cell's state; an item on offer or ready tells the granule's number
  abbrev pub state_of : Content T → Cell
  state_of (Empty spent) = state.Empty
  state_of (Offered x) = state.Offered (number x)
  state_of (Claimed i) = state.Claimed i
  state_of (Ready x) = state.Ready (number x)
  state_of (Withdrawn i) = state.Withdrawn i

  -- the state of the cell of granule i
  abbrev pub state_at : BoardState T → ℕ → Option Cell
  state_at board i = option_map state_of (cell_of board i)

  -- cell c, of so many cells, may hold this: a granule stands in its own cell alone
  abbrev pub StandsIn : ℕ → ℕ → Content T → Type 0
  StandsIn cells c (Empty spent) = Unit {0}
  StandsIn cells c (Offered x) = number x % cells ≡ c
  StandsIn cells c (Claimed i) = i % cells ≡ c
  StandsIn cells c (Ready x) = number x % cells ≡ c
  StandsIn cells c (Withdrawn i) = i % cells ≡ c

  -- a board of 1 to 64 cells, in which each granule stands in its own cell
  pub record IsSound (board : BoardState T) : Type 0 where
    pub some : 0 < length board.cells
    pub limit : length board.cells ≤ 64
    pub placed : (c : ℕ) (content : Content T) → slice_get board.cells c ≡ Some content →
        StandsIn (length board.cells) c content

  -- no cell is on offer
  abbrev pub NothingOffered : BoardState T → Type 0
  NothingOffered board = (c : ℕ) (x : T) → slice_get board.cells c ≢ Some (Offered x)

  -- from the board before, the machine may give this answer to the event and go on to the board
  -- after
  abbrev pub Step : BoardState T → Event T → Answer T → BoardState T → Type 0
  -- an item is put on offer where its cell is empty, and comes back else
  Step before (event.Offer x) (answer.Offer (Placed spent)) after =
      (before.shut ≡ false)
      × (cell_of before (number x) ≡ Some (Empty spent))
      × (after ≡ with_cell before (number x) (Offered x))
  Step before (event.Offer x) (answer.Offer (Busy y)) after =
      ((before.shut ≡ true) ⊎ (state_at before (number x) ≢ Some state.Empty)) × (y ≡ x) × (after ≡ before)
  -- any item on offer may be handed out
  Step before event.Claim (answer.Claim Shut) after =
      (before.shut ≡ true) × (after ≡ before)
  Step before event.Claim (answer.Claim Nothing) after =
      (before.shut ≡ false) × NothingOffered before × (after ≡ before)
  Step before event.Claim (answer.Claim (Job x)) after =
      (before.shut ≡ false)
      × (cell_of before (number x) ≡ Some (Offered x))
      × (after ≡ with_cell before (number x) (Claimed (number x)))
  -- an item that is handed in is ready, or is late and stays as a spent one, or comes back
  Step before (event.Deposit x) (answer.Deposit Kept) after =
      (cell_of before (number x) ≡ Some (Claimed (number x))) × (after ≡ with_cell before (number x) (Ready x))
  Step before (event.Deposit x) (answer.Deposit Late) after =
      (cell_of before (number x) ≡ Some (Withdrawn (number x))) × (after ≡ with_cell before (number x) (Empty x))
  Step before (event.Deposit x) (answer.Deposit (Stray y)) after =
      (state_at before (number x) ≢ Some (state.Claimed (number x)))
      × (state_at before (number x) ≢ Some (state.Withdrawn (number x)))
      × (y ≡ x) × (after ≡ before)
  -- a granule that is ready or on offer goes out and the spare stays as a spent one; else the spare
  -- comes back
  Step before (event.Take i spare) (answer.Take (Got x)) after =
      (cell_of before i ≡ Some (Ready x)) × (number x ≡ i) × (after ≡ with_cell before i (Empty spare))
  Step before (event.Take i spare) (answer.Take (Revoked x)) after =
      (cell_of before i ≡ Some (Offered x)) × (number x ≡ i) × (after ≡ with_cell before i (Empty spare))
  Step before (event.Take i spare) (answer.Take (InWork y)) after =
      (cell_of before i ≡ Some (Claimed i)) × (y ≡ spare) × (after ≡ with_cell before i (Withdrawn i))
  Step before (event.Take i spare) (answer.Take (NotOffered y)) after =
      (state_at before i ≢ Some (state.Ready i))
      × (state_at before i ≢ Some (state.Offered i))
      × (state_at before i ≢ Some (state.Claimed i))
      × (y ≡ spare) × (after ≡ before)
  -- the board is shut from then on
  Step before event.Shut answer.Shut after = after ≡ record { cells = before.cells; shut = true }
  -- an event has no answer of another kind
  Step before _ _ after = ⊥

  -- the machine may give these answers to these events, one after another
  abbrev pub Run : BoardState T → List (Event T) → List (Answer T) → BoardState T → Type 0
  Run before [] [] after = after ≡ before
  Run before (e ∷ events) (a ∷ answers) after = (mid : BoardState T) × Step before e a mid × Run mid events answers after
  Run before _ _ after = ⊥
