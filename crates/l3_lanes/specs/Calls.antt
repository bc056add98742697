-- What the desk and the seats keep between calls, and what each call notes.
use Rattle.std.specs.Prelude.{◌≡◌, ◌≢◌, ℕ, ◌+◌, ◌<◌, ◌≤◌, ◌%◌, ◌^◌, ◌⊎◌, Bool, true, false, List, [], ◌∷◌, ◌++◌, length, All, Option, Some, None, slice_index_or}
use Rattle.atomic_table.specs.Table.{Me}
use Rattle.l3_board.specs.declared.event.Event.TheVariants as event
use Rattle.l3_board.specs.declared.event.Answer.TheVariants as answer
use Rattle.l3_board.specs.declared.event.Offer.{Offer}
use Rattle.l3_board.specs.declared.event.Offer.TheVariants.{Placed, Busy}
use Rattle.l3_board.specs.declared.event.Claim.{Claim}
use Rattle.l3_board.specs.declared.event.Claim.TheVariants.{Job, Nothing, Shut}
use Rattle.l3_board.specs.declared.event.Deposit.{Deposit}
use Rattle.l3_board.specs.declared.event.Deposit.TheVariants.{Kept, Late, Stray}
use Rattle.l3_board.specs.declared.event.Take.{Take}
use Rattle.l3_board.specs.declared.event.Take.TheVariants.{Got, Revoked, InWork, NotOffered}
use Rattle.l3_lanes.specs.declared.seats.LaneBoard.{LaneBoard}
use Rattle.l3_lanes.specs.declared.seats.LaneDesk.{LaneDesk}
use Rattle.l3_lanes.specs.declared.seats.LaneSeat.{LaneSeat}
use Rattle.l3_lanes.specs.declared.view.View.{View}
use Rattle.l3_lanes.specs.declared.view.Past.{Past}
use Rattle.l3_lanes.specs.Words.{offered_word, claimed_word, ready_word, withdrawn_word, IsOffered}
use Rattle.l3_lanes.specs.Views.{Knows, words_at}
use Rattle.l3_lanes.specs.History.{Extends, Sees, Answers, bare}

-- the desk of so many cells holds no slot, and its list has the granule of each cell that was
-- offered and not taken
pub record IsDesk {S : Type 0} (cells : ℕ) (me : Me S View) (granules : List (Option ℕ)) (shut : Bool) : Type 0 where
  pub desk : me.0.desk ≡ true
  pub no_slot : me.1 ≡ []
  pub shut_is : me.0.shut ≡ shut
  pub as_many : length granules ≡ cells
  pub places : length me.0.notes ≡ cells + 1
  pub knows : (c : ℕ) → c < cells → Knows me.0 c (slice_index_or granules c None)

-- a worker holds the slot of its claim, in the cell of the claim's granule, and no other
abbrev pub HoldsFor : {S : Type 0} → ℕ → List (ℕ × S) → Option (ℕ × ℕ) → Type 0
HoldsFor cells slots None = slots ≡ []
HoldsFor {S} cells slots (Some claim) = (claim.0 < cells) × (claim.1 % cells ≡ claim.0) × (claim.1 < 2 ^ 61) × ((y : S) × (slots ≡ (claim.0, y) ∷ []))

pub record IsSeat {S : Type 0} (cells : ℕ) (me : Me S View) (claim : Option (ℕ × ℕ)) : Type 0 where
  pub desk : me.0.desk ≡ false
  pub late : me.0.late ≡ false
  pub claim_is : me.0.claim ≡ claim
  pub slot : HoldsFor cells me.1 claim
  pub places : length me.0.notes ≡ cells + 1

abbrev pub granule_claimed : Option (ℕ × ℕ) → Option ℕ
granule_claimed None = None
granule_claimed (Some claim) = Some claim.1

module _ {T : Type 0} where
  -- the desk was made with this board
  abbrev pub IsDeskOf : LaneBoard T → LaneDesk T → Type 0
  IsDeskOf board desk = (desk.token.table_id ≡ board.lanes.shared.table_id) × IsDesk board.cells (bare desk.token.me) desk.granules.items desk.shut × (length desk.kept.last ≡ board.cells)

  -- the seat was made with this board
  abbrev pub IsSeatOf : LaneBoard T → LaneSeat T → Type 0
  IsSeatOf board seat = (seat.token.table_id ≡ board.lanes.shared.table_id) × IsSeat board.cells (bare seat.token.me) seat.claim

  abbrev pub desk_view : LaneDesk T → View
  desk_view desk = desk.token.me.0.view

  abbrev pub seat_view : LaneSeat T → View
  seat_view seat = seat.token.me.0.view

  -- what the desk knows of the history
  abbrev pub desk_past : LaneDesk T → Past
  desk_past desk = desk.token.me.0.past

  -- what the seat knows of the history
  abbrev pub seat_past : LaneSeat T → Past
  seat_past seat = seat.token.me.0.past

  -- the granule that the seat has claimed and not handed in
  abbrev pub claimed : LaneSeat T → Option ℕ
  claimed seat = granule_claimed seat.claim

  -- the granule of the cell that the desk offered and has not taken
  abbrev pub granule_at : LaneDesk T → ℕ → Option ℕ
  granule_at desk cell = slice_index_or desk.granules.items cell None

  -- what an offer of granule i notes at its cell: 0 was read, and the word of granule i on offer
  -- left; or another word was read. The desk of a board that it has shut notes nothing.
  abbrev pub OfferNotes : Bool → ℕ → Offer T → List ℕ → Type 0
  OfferNotes true i (Placed x) words = ⊥
  OfferNotes true i (Busy x) words = words ≡ []
  OfferNotes false i (Placed x) words = words ≡ offered_word i ∷ 0 ∷ []
  OfferNotes false i (Busy x) words = (n : ℕ) × (n ≢ 0) × (words ≡ n ∷ [])

  -- what is known of the cell after an offer of granule i
  abbrev pub granule_offered : ℕ → Option ℕ → Offer T → Option ℕ
  granule_offered i before (Placed x) = Some i
  granule_offered i before (Busy x) = before

  -- what a take of granule i notes at its cell, the newest first, where the desk knows this granule
  -- there:
  -- Revoked: the first exchange found it on offer and left 0;
  -- Got: that exchange read that it is ready, or it read that it is claimed and the second read
  -- that it is ready; then 0 was left;
  -- InWork: the first read that it is claimed, and the second found it so and left it withdrawn.
  -- Where an item goes out, the load by which the slot goes home reads 0 at last. Else NotOffered,
  -- with no step.
  abbrev pub TakeNotes : Option ℕ → ℕ → Take T → List ℕ → Type 0
  TakeNotes before i (Revoked x) words = (before ≡ Some i) × (words ≡ 0 ∷ 0 ∷ [])
  TakeNotes before i (Got x) words =
      (before ≡ Some i) × ((words ≡ 0 ∷ 0 ∷ ready_word i ∷ []) ⊎ (words ≡ 0 ∷ 0 ∷ ready_word i ∷ claimed_word i ∷ []))
  TakeNotes before i (InWork x) words = (before ≡ Some i) × (words ≡ withdrawn_word i ∷ claimed_word i ∷ [])
  TakeNotes before i (NotOffered x) words = (before ≢ Some i) × (words ≡ [])

  -- what is known of the cell after a take
  abbrev pub granule_taken : Option ℕ → Take T → Option ℕ
  granule_taken before (Got x) = None
  granule_taken before (Revoked x) = None
  granule_taken before (InWork x) = None
  granule_taken before (NotOffered x) = before

  -- what a deposit of granule i notes at its cell: it was found claimed and left ready; or it was
  -- read that it is withdrawn, and 0 left
  abbrev pub DepositNotes : ℕ → Deposit T → List ℕ → Type 0
  DepositNotes i Kept words = words ≡ ready_word i ∷ []
  DepositNotes i Late words = words ≡ 0 ∷ withdrawn_word i ∷ []
  DepositNotes i (Stray x) words = ⊥

module _ {T : Type 0} (cells : ℕ) where
  -- the move of an offer of granule i; where it is busy and the desk has not shut the board, so is
  -- the board machine
  abbrev pub OfferMoves : Bool → ℕ → Offer T → Past → Past → Type 0
  OfferMoves true i (Placed x) v w = ⊥
  OfferMoves true i (Busy x) v w = w ≡ v
  OfferMoves false i (Placed x) v w = (spent : ℕ) × Extends cells v (event.Offer i) (answer.Offer (Placed spent)) w
  OfferMoves false i (Busy x) v w = Answers cells v (event.Offer i) (answer.Offer (Busy i)) w

  -- the move of a claim, after the word for shut was read: it is that of an open board where an
  -- item is handed out or nothing is found, and that of a board that is shut at Shut
  abbrev pub ClaimMoves : (T → ℕ) → Claim T → Past → Past → Type 0
  ClaimMoves number (Job x) v w = (read : Past) × Sees cells false v read × Extends cells read event.Claim (answer.Claim (Job (number x))) w
  ClaimMoves number Nothing v w = Sees cells false v w
  ClaimMoves number Shut v w = Sees cells true v w

  -- the move of a deposit of granule i
  abbrev pub DepositMoves : ℕ → Deposit T → Past → Past → Type 0
  DepositMoves i Kept v w = Extends cells v (event.Deposit i) (answer.Deposit Kept) w
  DepositMoves i Late v w = Extends cells v (event.Deposit i) (answer.Deposit Late) w
  DepositMoves i (Stray x) v w = ⊥

  -- the move of a take of granule i
  abbrev pub TakeMoves : ℕ → Take T → Past → Past → Type 0
  TakeMoves i (Got x) v w = Extends cells v (event.Take i 0) (answer.Take (Got i)) w
  TakeMoves i (Revoked x) v w = Extends cells v (event.Take i 0) (answer.Take (Revoked i)) w
  TakeMoves i (InWork x) v w = Extends cells v (event.Take i 0) (answer.Take (InWork 0)) w
  TakeMoves i (NotOffered x) v w = w ≡ v

-- the move of a shut of a board that was shut before, or not
abbrev pub ShutMoves : ℕ → Bool → Past → Past → Type 0
ShutMoves cells true v w = w ≡ v
ShutMoves cells false v w = Extends cells v event.Shut answer.Shut w

-- from the view v to the view w the cell was found to be on offer and left claimed, by one load and
-- one exchange
abbrev pub WasClaimed : ℕ → ℕ → View → View → Type 0
WasClaimed cell i v w = words_at w cell ≡ claimed_word i ∷ offered_word i ∷ words_at v cell

-- from the view v to the view w the cell was read once, and was not on offer, or it was on offer
-- and an exchange read another word
abbrev pub WasLost : ℕ → View → View → Type 0
WasLost cell v w =
    (n : ℕ) × (((IsOffered n → ⊥) × (words_at w cell ≡ n ∷ words_at v cell))
    ⊎ ((m : ℕ) × IsOffered n × (m ≢ n) × (words_at w cell ≡ m ∷ n ∷ words_at v cell)))

-- from the view v to the view w at most one load and one exchange were at the cell
abbrev pub IsTried : ℕ → View → View → Type 0
IsTried cell v w = (words : List ℕ) × (length words ≤ 2) × (words_at w cell ≡ words ++ words_at v cell)

-- the word for shut was read: first words that were not 1, and last n
abbrev pub ReadsShut : ℕ → List ℕ → ℕ → View → View → Type 0
ReadsShut place earlier n v w = (words_at w place ≡ n ∷ earlier ++ words_at v place) × All (λ m. m ≢ 1) earlier
