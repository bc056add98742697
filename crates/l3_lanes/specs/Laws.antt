-- What the rule says of the board, in the words of each party, and what a claim that found nothing
-- had counted.
use Rattle.std.specs.Prelude.{◌≡◌, ◌≢◌, ℕ, ◌+◌, ◌<◌, ◌≤◌, ◌%◌, ◌⊎◌, true, length, Option, Some, slice_index_or}
use mathlib.Core.Option.{some}
use lib.ListN.{get_elem?}
use Rattle.atomic_table.specs.Table.{State}
use Rattle.l3_lanes.specs.declared.view.View.{View}
use Rattle.l3_lanes.specs.Words.{offered_word, claimed_word, ready_word, withdrawn_word, IsOffered}
use Rattle.l3_lanes.specs.Views.{Knows, words_at}
use Rattle.l3_lanes.specs.Rule.{Holds}
use Rattle.l3_lanes.specs.Calls.{WasLost}

-- the word is that of granule i on offer, claimed or ready: what a take may find
abbrev pub IsOnBoard : ℕ → ℕ → Type 0
IsOnBoard i word = (word ≡ offered_word i) ⊎ ((word ≡ claimed_word i) ⊎ (word ≡ ready_word i))

abbrev pub word_at : {S : Type 0} → State S View → ℕ → ℕ
word_at s cell = slice_index_or s.words cell 0

module _ {T : Type 0} (number : T → ℕ) where
  -- where the rule holds, a cell has granule i on offer, claimed or ready exactly where the desk
  -- knows granule i there
  abbrev pub DeskKnows : Type 0
  DeskKnows = (s : State (Option T) View) (p : ℕ) (desk : View) (cell : ℕ) (granule : Option ℕ) → Holds number s → get_elem? s.views p ≡ some desk → desk.desk ≡ true → cell < length s.homes
      → Knows desk cell granule → (i : ℕ) → (granule ≡ Some i → IsOnBoard i (word_at s cell)) × (IsOnBoard i (word_at s cell) → granule ≡ Some i)

  -- a cell's word is 0 or one of the four words of a granule of that cell
  abbrev pub CellWords : Type 0
  CellWords = (s : State (Option T) View) (cell : ℕ) → Holds number s → cell < length s.homes
      → (word_at s cell ≡ 0) ⊎ ((i : ℕ) × (i % length s.homes ≡ cell) × (IsOnBoard i (word_at s cell) ⊎ (word_at s cell ≡ withdrawn_word i)))

  -- a claim is of a claimed or withdrawn cell, and no two seats have claims of one cell
  abbrev pub OneClaim : Type 0
  OneClaim = (s : State (Option T) View) (p q : ℕ) (v w : View) (cell i j : ℕ) → Holds number s → get_elem? s.views p ≡ some v → get_elem? s.views q ≡ some w → v.claim ≡ Some (cell, i) → w.claim ≡ Some (cell, j)
      → (p ≡ q) × (i ≡ j) × ((word_at s cell ≡ claimed_word i) ⊎ (word_at s cell ≡ withdrawn_word i))

-- how often the seat noted a word at the place
abbrev pub readings : View → ℕ → ℕ
readings v place = length (words_at v place)

-- the word noted last at the place, and the one noted before it, 0 for none
abbrev pub last_word : View → ℕ → ℕ
last_word v place = slice_index_or (words_at v place) 0 0

abbrev pub word_before : View → ℕ → ℕ
word_before v place = slice_index_or (words_at v place) 1 0

-- a cell that was lost was read at least once, and its last word is not on offer; or twice, and its
-- two last words differ
abbrev pub LostByCounts : Type 0
LostByCounts = (cell : ℕ) (v w : View) → WasLost cell v w
    → ((readings v cell < readings w cell) × (IsOffered (last_word w cell) → ⊥)) ⊎ ((readings v cell + 2 ≤ readings w cell) × (last_word w cell ≢ word_before w cell))
