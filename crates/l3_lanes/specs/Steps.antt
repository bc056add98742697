-- What each kind of step tells the seat that takes it: its view and its slots afterwards.
-- Eight kinds decide: Offers, Claims, Deposits, Frees, Revokes, Withdraws, Takes and Shuts. Each
-- notes the word that it leaves. A load and a failed exchange note the word that was read.
use Rattle.std.specs.Prelude.{◌≡◌, ◌⊎◌, ℕ, ◌+◌, ◌/◌, ◌%◌, ◌==◌, true, false, ◌∷◌, Option, Some, None, slice_index_or, MatchBool}
use Rattle.atomic_table.specs.Table.{Step, Me, rest}
use Rattle.l3_lanes.specs.declared.view.View.{View}
use Rattle.l3_lanes.specs.declared.view.Tell.{Tell}
use Rattle.l3_lanes.specs.declared.view.Tell.TheVariants.{Free, Held, Told, ToldClaimed, ToldReady, Left}
use Rattle.l3_lanes.specs.Words.{IsFull, HasNumber}
use Rattle.l3_lanes.specs.Views.{noted, told, known, is_held}

module _ {T : Type 0} (number : T → ℕ) where
  -- the desk offers the item in the slot that it holds; n is the word stored
  abbrev pub Offers : Step (Option T) → Me (Option T) View → ℕ → Me (Option T) View → Type 0
  Offers s me n new = (new.0 ≡ told (noted me.0 s.word n) s.word (Told (n / 8))) × (new.1 ≡ rest me.1)

  -- a worker claims the granule of the offered word s.first, one of this cell: it has the claim and
  -- the slot with the granule's item; or it read another word
  abbrev pub Claims : Step (Option T) → Me (Option T) View → ℕ → Me (Option T) View → Type 0
  Claims s me n new =
      MatchBool (n == s.first)
      ((new.0 ≡ record (noted me.0 s.word s.second) { claim = Some (s.word, s.first / 8) }) × ((y : Option T) × (new.1 ≡ (s.word, y) ∷ me.1) × HasNumber number (s.first / 8) y) × (s.first / 8 % s.slots ≡ s.word))
      ((new.0 ≡ noted me.0 s.word n) × (new.1 ≡ me.1))

  -- a worker hands in the item in the slot of its claim, and has no claim then; or it read that its
  -- claim is withdrawn
  abbrev pub Deposits : Step (Option T) → Me (Option T) View → ℕ → Me (Option T) View → Type 0
  Deposits s me n new =
      MatchBool (n == s.first)
      ((new.0 ≡ record (noted me.0 s.word s.second) { claim = None }) × (new.1 ≡ rest me.1))
      ((n ≡ s.first + 2) × (new.0 ≡ record (noted me.0 s.word n) { late = true }) × (new.1 ≡ me.1))

  -- a worker that read that its claim is withdrawn sets the cell free; its item stays as a spent
  -- one
  abbrev pub Frees : Step (Option T) → Me (Option T) View → ℕ → Me (Option T) View → Type 0
  Frees s me n new = (new.0 ≡ record (noted me.0 s.word 0) { claim = None; late = false }) × (new.1 ≡ rest me.1)

  -- the desk takes back the granule of the offered word s.first, with the slot; or it read that it
  -- is claimed or ready
  abbrev pub Revokes : Step (Option T) → Me (Option T) View → ℕ → Me (Option T) View → Type 0
  Revokes s me n new =
      MatchBool (n == s.first)
      ((new.0 ≡ told (noted me.0 s.word 0) s.word Held) × ((y : Option T) × (new.1 ≡ (s.word, y) ∷ me.1) × HasNumber number (s.first / 8) y))
      ((new.1 ≡ me.1) × (((n ≡ s.first + 1) × (new.0 ≡ told (noted me.0 s.word n) s.word (ToldClaimed (s.first / 8)))) ⊎ ((n ≡ s.first + 2) × (new.0 ≡ told (noted me.0 s.word n) s.word (ToldReady (s.first / 8))))))

  -- the desk leaves the granule of the claimed word s.first to its worker; or it read that it is
  -- ready
  abbrev pub Withdraws : Step (Option T) → Me (Option T) View → ℕ → Me (Option T) View → Type 0
  Withdraws s me n new =
      (new.1 ≡ me.1) × MatchBool (n == s.first)
      (new.0 ≡ told (noted me.0 s.word s.second) s.word (Left (s.first / 8)))
      ((n ≡ s.first + 1) × (new.0 ≡ told (noted me.0 s.word n) s.word (ToldReady (s.first / 8))))

  -- the desk takes granule i, which is ready, with the slot
  abbrev pub Takes : ℕ → Step (Option T) → Me (Option T) View → ℕ → Me (Option T) View → Type 0
  Takes i s me n new = (new.0 ≡ told (noted me.0 s.word 0) s.word Held) × ((y : Option T) × (new.1 ≡ (s.word, y) ∷ me.1) × (HasNumber number i y))

  -- the same, of the granule that the desk knows there
  abbrev pub TakesKnown : Step (Option T) → Me (Option T) View → ℕ → Me (Option T) View → Type 0
  TakesKnown s me n new = (i : ℕ) → known (slice_index_or me.0.tells s.word Free) ≡ Some i → Takes i s me n new

  -- the desk shuts the board
  abbrev pub Shuts : Step (Option T) → Me (Option T) View → ℕ → Me (Option T) View → Type 0
  Shuts s me n new = (new.0 ≡ record (noted me.0 s.word 1) { shut = true }) × (new.1 ≡ me.1)

  -- a worker's load
  abbrev pub Loads : Step (Option T) → Me (Option T) View → ℕ → Me (Option T) View → Type 0
  Loads s me n new = (new.0 ≡ noted me.0 s.word n) × (new.1 ≡ me.1)

  -- the desk's load of a cell: it takes the slot of an empty one, and else what is known stays true
  abbrev pub Looks : Step (Option T) → Me (Option T) View → ℕ → Me (Option T) View → Type 0
  Looks s me n new =
      MatchBool (n == 0)
      ((new.0 ≡ told (noted me.0 s.word n) s.word Held) × ((y : Option T) × (new.1 ≡ (s.word, y) ∷ me.1) × IsFull y))
      ((new.1 ≡ me.1) × ((t : Tell) × (new.0 ≡ told (noted me.0 s.word n) s.word t) × (known t ≡ known (slice_index_or me.0.tells s.word Free)) × (is_held t ≡ false)))

  -- the desk's load of an empty cell whose slot it holds: the slot goes home
  abbrev pub Returns : Step (Option T) → Me (Option T) View → ℕ → Me (Option T) View → Type 0
  Returns s me n new = (n ≡ 0) × (new.0 ≡ told (noted me.0 s.word n) s.word Free) × (new.1 ≡ rest me.1)

  -- raising the bell tells nothing
  abbrev pub Rings : Step (Option T) → Me (Option T) View → ℕ → Me (Option T) View → Type 0
  Rings s me n new = (new.0 ≡ me.0) × (new.1 ≡ me.1)
