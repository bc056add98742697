-- What a history is to the board machine.
use Rattle.std.specs.Prelude.{◌≡◌, ◌≤◌, ℕ, if◌then◌else◌, List, [], ◌∷◌, ◌++◌, map, length, replicate, Option}
use mathlib.Core.Option.{some}
use lib.ListN.{get_elem?}
use Rattle.atomic_table.specs.Table.{State}
use Rattle.l3_board.specs.Machine.{BoardState, Run, fresh}
use Rattle.l3_lanes.specs.declared.view.Move.{Move}
use Rattle.l3_lanes.specs.declared.view.Knowledge.{Knowledge}
use Rattle.l3_lanes.specs.History.{itself, shown, IsHistory, moves_of, in_order, HoldsRecorded}

-- these moves are a run of the board machine, from a fresh board of so many cells to this one
abbrev pub IsRun : ℕ → List Move → BoardState ℕ → Type 0
IsRun cells moves board = Run itself (fresh (replicate cells 0)) (map (λ m. m.event) moves) (map (λ m. m.answer) moves) board

-- a history is a run of the board machine to the same board, once the claims after the shut are put
-- right before it, which leaves the moves of each seat in their order
abbrev pub HistoryIsRun : Type 0
HistoryIsRun = (cells : ℕ) (moves : List Move) (board : BoardState ℕ) → IsHistory cells moves board
    → IsRun cells (in_order moves) board × ((seat : ℕ) → moves_of seat (in_order moves) ≡ moves_of seat moves)

module _ {T : Type 0} (number : T → ℕ) where
  -- where the rule holds, the words show the board that a run of the board machine leaves, in which
  -- each seat has made just its own moves, in their order
  abbrev pub RuleHasRun : Type 0
  RuleHasRun = (s : State (Option T) Knowledge) → HoldsRecorded number s
      → (moves : List Move) × (board : BoardState ℕ) × (bell : ℕ)
      × (s.words ≡ map shown board.cells ++ (if board.shut then 1 else 0) ∷ bell ∷ [])
      × IsRun (length board.cells) (in_order moves) board
      × ((seat : ℕ) (k : Knowledge) → get_elem? s.views seat ≡ some k → moves_of seat (in_order moves) ≡ k.past.mine)
      × ((seat : ℕ) → length s.views ≤ seat → moves_of seat (in_order moves) ≡ [])
