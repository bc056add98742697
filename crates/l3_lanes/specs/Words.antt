-- The state of a cell, and the word that shows it.
use Rattle.std.specs.Prelude.{◌≡◌, ℕ, ◌+◌, ◌*◌, ◌%◌, ◌⊎◌, Option, Some, None}

-- the state of a cell with its granule, and with the seat that has the claim
pub data Lane : Type 0 where
  empty : Lane
  offered : ℕ → Lane
  claimed : ℕ → ℕ → Lane
  ready : ℕ → Lane
  withdrawn : ℕ → ℕ → Lane

abbrev pub offered_word : ℕ → ℕ
offered_word i = 8 * i + 1

abbrev pub claimed_word : ℕ → ℕ
claimed_word i = 8 * i + 2

abbrev pub ready_word : ℕ → ℕ
ready_word i = 8 * i + 3

abbrev pub withdrawn_word : ℕ → ℕ
withdrawn_word i = 8 * i + 4

-- the word of a cell: 0, or one of the four words of its granule
abbrev pub code : Lane → ℕ
code empty = 0
code (offered i) = 8 * i + 1
code (claimed i p) = 8 * i + 2
code (ready i) = 8 * i + 3
code (withdrawn i p) = 8 * i + 4

-- the word is that of some granule on offer
abbrev pub IsOffered : ℕ → Type 0
IsOffered word = word % 8 ≡ 1

abbrev pub granule_of : Lane → Option ℕ
granule_of empty = None
granule_of (offered i) = Some i
granule_of (claimed i p) = Some i
granule_of (ready i) = Some i
granule_of (withdrawn i p) = Some i

-- the seat p has the claim of granule i on the cell
abbrev pub IsOwned : Lane → ℕ → ℕ → Type 0
IsOwned x p i = (x ≡ claimed i p) ⊎ (x ≡ withdrawn i p)

-- there is an item in the slot
abbrev pub IsFull : {T : Type 0} → Option T → Type 0
IsFull {T} y = (x : T) × (y ≡ Some x)

-- there is an item of this number in the slot
abbrev pub HasNumber : {T : Type 0} → (T → ℕ) → ℕ → Option T → Type 0
HasNumber {T} number i y = (x : T) × (y ≡ Some x) × (number x ≡ i)
