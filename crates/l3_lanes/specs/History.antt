-- The history of the board: the moves that changed it, in one order.
-- A move is an event of the board machine with its answer. An item stands as the number of its
-- granule, and a spent one as any number: a take leaves 0.
use Rattle.std.specs.Prelude.{◌≡◌, ◌==◌, ◌≤◌, ℕ, Bool, if◌then◌else◌, true, false, List, [], ◌∷◌, ◌++◌, map, length, replicate, Option}
use mathlib.Core.Option.{some}
use lib.ListN.{get_elem?}
use Rattle.atomic_table.specs.Table.{State, Me}
use Rattle.l3_board.specs.declared.cell.Content.{Content}
use Rattle.l3_board.specs.declared.cell.Content.TheVariants.{Empty, Offered, Claimed, Ready, Withdrawn}
use Rattle.l3_board.specs.declared.event.Event.{Event}
use Rattle.l3_board.specs.declared.event.Event.TheVariants as event
use Rattle.l3_board.specs.declared.event.Answer.{Answer}
use Rattle.l3_board.specs.declared.event.Answer.TheVariants as answer
use Rattle.l3_board.specs.declared.event.Offer.TheVariants.{Placed}
use Rattle.l3_board.specs.declared.event.Claim.TheVariants.{Job}
use Rattle.l3_board.specs.declared.event.Deposit.TheVariants.{Kept, Late}
use Rattle.l3_board.specs.declared.event.Take.TheVariants.{Got, Revoked, InWork}
use Rattle.l3_board.specs.Machine.{BoardState, Step, fresh}
use Rattle.l3_lanes.specs.declared.view.View.{View}
use Rattle.l3_lanes.specs.declared.view.Move.{Move}
use Rattle.l3_lanes.specs.declared.view.Past.{Past}
use Rattle.l3_lanes.specs.declared.view.Knowledge.{Knowledge}
use Rattle.l3_lanes.specs.Words.{offered_word, claimed_word, ready_word, withdrawn_word}
use Rattle.l3_lanes.specs.Rule.{Holds}

-- an item is its granule's number
abbrev pub itself : ℕ → ℕ
itself i = i

-- the word that shows what a cell of the machine holds
abbrev pub shown : Content ℕ → ℕ
shown (Empty spent) = 0
shown (Offered i) = offered_word i
shown (Claimed i) = claimed_word i
shown (Ready i) = ready_word i
shown (Withdrawn i) = withdrawn_word i

-- the board, were it not shut
abbrev pub opened : BoardState ℕ → BoardState ℕ
opened board = record { cells = board.cells; shut = false }

-- the board may make this move, of one of the eight kinds: it is a step of the board machine. But a
-- claim, which has read before that the board is not shut, may come after the shut
pub data IsMove : BoardState ℕ → Event ℕ → Answer ℕ → BoardState ℕ → Type 0 where
  offer_placed : {before after : BoardState ℕ} {i spent : ℕ} → Step itself before (event.Offer i) (answer.Offer (Placed spent)) after → IsMove before (event.Offer i) (answer.Offer (Placed spent)) after
  claim_job : {before after : BoardState ℕ} {i : ℕ} → Step itself (opened before) event.Claim (answer.Claim (Job i)) (opened after) → after.shut ≡ before.shut → IsMove before event.Claim (answer.Claim (Job i)) after
  deposit_kept : {before after : BoardState ℕ} {i : ℕ} → Step itself before (event.Deposit i) (answer.Deposit Kept) after → IsMove before (event.Deposit i) (answer.Deposit Kept) after
  deposit_late : {before after : BoardState ℕ} {i : ℕ} → Step itself before (event.Deposit i) (answer.Deposit Late) after → IsMove before (event.Deposit i) (answer.Deposit Late) after
  take_got : {before after : BoardState ℕ} {i spare j : ℕ} → Step itself before (event.Take i spare) (answer.Take (Got j)) after → IsMove before (event.Take i spare) (answer.Take (Got j)) after
  take_revoked : {before after : BoardState ℕ} {i spare j : ℕ} → Step itself before (event.Take i spare) (answer.Take (Revoked j)) after → IsMove before (event.Take i spare) (answer.Take (Revoked j)) after
  take_in_work : {before after : BoardState ℕ} {i spare j : ℕ} → Step itself before (event.Take i spare) (answer.Take (InWork j)) after → IsMove before (event.Take i spare) (answer.Take (InWork j)) after
  board_shut : {before after : BoardState ℕ} → Step itself before event.Shut answer.Shut after → IsMove before event.Shut answer.Shut after

-- the board may make these moves, one after another
abbrev pub AreMoves : BoardState ℕ → List Move → BoardState ℕ → Type 0
AreMoves before [] after = after ≡ before
AreMoves before (m ∷ moves) after = (mid : BoardState ℕ) × IsMove before m.event m.answer mid × AreMoves mid moves after

-- the moves of one seat, in their order
abbrev pub moves_of : ℕ → List Move → List Move
moves_of seat [] = []
moves_of seat (m ∷ moves) = if m.seat == seat then m ∷ moves_of seat moves else moves_of seat moves

abbrev pub is_shut : Event ℕ → Bool
is_shut event.Shut = true
is_shut _ = false

abbrev pub is_claim : Event ℕ → Bool
is_claim event.Claim = true
is_claim _ = false

-- the moves before the first shut, and those from it on
abbrev pub before_shut : List Move → List Move
before_shut [] = []
before_shut (m ∷ moves) = if is_shut m.event then [] else m ∷ before_shut moves

abbrev pub from_shut : List Move → List Move
from_shut [] = []
from_shut (m ∷ moves) = if is_shut m.event then m ∷ moves else from_shut moves

-- the claims, and all other moves
abbrev pub claims_in : List Move → List Move
claims_in [] = []
claims_in (m ∷ moves) = if is_claim m.event then m ∷ claims_in moves else claims_in moves

abbrev pub others_in : List Move → List Move
others_in [] = []
others_in (m ∷ moves) = if is_claim m.event then others_in moves else m ∷ others_in moves

-- no seat claims after a move of its own
abbrev pub ClaimsFirst : List Move → Type 0
ClaimsFirst [] = Unit {0}
ClaimsFirst (m ∷ moves) = (moves_of m.seat (claims_in moves) ≡ []) × ClaimsFirst moves

-- these moves lead from a fresh board of so many cells to this one, and a seat that claims after
-- the shut has made no move between the two: its call began before the shut
abbrev pub IsHistory : ℕ → List Move → BoardState ℕ → Type 0
IsHistory cells moves board = AreMoves (fresh (replicate cells 0)) moves board × ClaimsFirst (from_shut moves)

-- the moves in the order of the board machine: claims that came after the shut stand right before
-- it
abbrev pub in_order : List Move → List Move
in_order moves = before_shut moves ++ (claims_in (from_shut moves) ++ others_in (from_shut moves))

abbrev pub move : ℕ → Event ℕ → Answer ℕ → Move
move seat e a = record { seat = seat; event = e; answer = a }

-- the list begins with the other
abbrev pub BeginsWith : List Move → List Move → Type 0
BeginsWith moves seen = (more : List Move) × (moves ≡ seen ++ more)

-- a seat makes this move: the history so far begins with what the seat had seen and ends with the
-- move, and of the seat it has just the moves that it has made, in their order
pub record Extends (cells : ℕ) (v : Past) (e : Event ℕ) (a : Answer ℕ) (w : Past) : Type 0 where
  pub seat : ℕ
  pub between : List Move
  pub board : BoardState ℕ
  pub history : IsHistory cells w.seen board
  pub seen : w.seen ≡ (v.seen ++ between) ++ move seat e a ∷ []
  pub mine : w.mine ≡ v.mine ++ move seat e a ∷ []
  pub own : moves_of seat w.seen ≡ w.mine

-- a seat reads the word for shut: the history so far begins with what the seat had seen, has of the
-- seat just the moves that it has made, and leaves a board that is shut or not
pub record Sees (cells : ℕ) (shut : Bool) (v w : Past) : Type 0 where
  pub seat : ℕ
  pub board : BoardState ℕ
  pub history : IsHistory cells w.seen board
  pub shut_is : board.shut ≡ shut
  pub seen : BeginsWith w.seen v.seen
  pub mine : w.mine ≡ v.mine
  pub own : moves_of seat w.seen ≡ w.mine

-- a seat makes no move, and its answer is that of the board machine: the history so far begins with
-- what the seat had seen, has of the seat just the moves that it has made, and leaves a board on
-- which the machine answers so and stays
pub record Answers (cells : ℕ) (v : Past) (e : Event ℕ) (a : Answer ℕ) (w : Past) : Type 0 where
  pub seat : ℕ
  pub board : BoardState ℕ
  pub history : IsHistory cells w.seen board
  pub stays : Step itself board e a board
  pub seen : BeginsWith w.seen v.seen
  pub mine : w.mine ≡ v.mine
  pub own : moves_of seat w.seen ≡ w.mine

-- a seat that has seen this past has seen no shut (only the inside of this crate)
abbrev pub HasSeenOpen : ℕ → Past → Type 0
HasSeenOpen cells v = (board : BoardState ℕ) × IsHistory cells v.seen board × (board.shut ≡ false)

-- there is one history. The words show the board that it leaves; it begins with what each seat has
-- seen, which has all moves of the seat, and has of each seat just the moves that it has made, in
-- their order, and none of others
pub record Recorded (words : List ℕ) (seats : List Knowledge) (moves : List Move) (board : BoardState ℕ) (bell : ℕ) : Type 0 where
  pub shows : words ≡ map shown board.cells ++ (if board.shut then 1 else 0) ∷ bell ∷ []
  pub history : IsHistory (length board.cells) moves board
  pub seen : (p : ℕ) (k : Knowledge) → get_elem? seats p ≡ some k → BeginsWith moves k.past.seen × (moves_of p moves ≡ k.past.mine) × (moves_of p k.past.seen ≡ k.past.mine)
  pub others : (p : ℕ) → length seats ≤ p → moves_of p moves ≡ []

-- what a seat holds, with its view alone
abbrev pub bare : {S : Type 0} → Me S Knowledge → Me S View
bare me = (me.0.view, me.1)

-- the board, with the seats' views alone
abbrev pub bare_state : {S : Type 0} → State S Knowledge → State S View
bare_state s = record { words = s.words; homes = s.homes; views = map (λ (k : Knowledge). k.view) s.views }

module _ {T : Type 0} (number : T → ℕ) where
  -- the rule that every step keeps: that of words and views, and that there is one history
  abbrev pub HoldsRecorded : State (Option T) Knowledge → Type 0
  HoldsRecorded s = Holds number (bare_state s)
      × ((moves : List Move) × (board : BoardState ℕ) × (bell : ℕ) × Recorded s.words s.views moves board bell)
