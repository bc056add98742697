-- The granules that a desk has on its board, and what an offer and a take do to the desk's record.
use Rattle.std.specs.Prelude.{◌≡◌, ◌≢◌, ◌⊎◌, ℕ, ◌+◌, ◌%◌, ◌<◌, ◌≤◌, Bool, true, List, length, map, replicate, Option, Some, None, slice_index_or}
use Rattle.l3_board.specs.declared.entry.Entry.{Entry}
use Rattle.l3_board.specs.declared.entry.Entry.TheVariants.{Free, Told, Busied, Left, Gone}
use Rattle.l3_board.specs.Desk.{entry_of, is_offered, fresh_desk}

-- the granule that is on offer in a cell, by what the desk was last told of it
abbrev pub told_of : Entry → Option ℕ
told_of (Told i) = Some i
told_of other = None

-- the granule that stands in each cell, and the granule that is to be taken next
pub record OffersView : Type 0 where
  pub placed : List (Option ℕ)
  pub next : ℕ

-- of so many cells, with nothing on offer
abbrev pub no_offers : ℕ → OffersView
no_offers cells = record { placed = replicate cells None; next = 0 }

-- the granule that stands in granule i's cell: cell i mod L, of L cells
abbrev pub placed_at : List (Option ℕ) → ℕ → Option ℕ
placed_at placed i = slice_index_or placed (i % length placed) None

-- each granule stands in its own cell, and is one of the next ones, of which there are as many as
-- cells
abbrev pub AreAhead : OffersView → Type 0
AreAhead v = (c i : ℕ) → slice_index_or v.placed c None ≡ Some i → (i % length v.placed ≡ c) × (v.next ≤ i) × (i < v.next + length v.placed)

-- granule i is one of the next ones, of which there are as many as cells
abbrev pub IsNear : OffersView → ℕ → Type 0
IsNear v i = (v.next ≤ i) × (i < v.next + length v.placed)

-- a desk's entries of granules on offer are of just these
abbrev pub GoesWith : List Entry → OffersView → Type 0
GoesWith last v = map told_of last ≡ v.placed

-- a desk that begins goes with nothing on offer
abbrev pub FreshDesksGo : Type 0
FreshDesksGo = (cells : ℕ) → GoesWith (fresh_desk cells).last (no_offers cells)

-- the granule is on offer, or its cell was busy when it was offered now
pub record IsOfferedAnew (cells : ℕ) (old new : List Entry) (i : ℕ) : Type 0 where
  pub offered : is_offered i (entry_of cells new i) ≡ true
  pub anew : (turn : Bool) → entry_of cells new i ≡ Busied i turn → entry_of cells old i ≢ Busied i turn

-- no entry but that of granule i's cell is another
abbrev pub OthersStay : ℕ → (old new : List Entry) → ℕ → Type 0
OthersStay cells old new i = (k : ℕ) → k % cells ≢ i % cells → entry_of cells new k ≡ entry_of cells old k

-- the granule is on offer no longer: taken, left to a worker, or unknown to the board
abbrev pub HasEnded : ℕ → Entry → Type 0
HasEnded i entry = (entry ≡ Free) ⊎ ((entry ≡ Left i) ⊎ (entry ≡ Gone i))
