-- What the desk and the seats know, each by its own steps alone.
use Rattle.std.specs.Prelude.{◌≡◌, ℕ, ◌+◌, Bool, true, false, List, [], ◌∷◌, ◌++◌, length, Option, Some, None, slice_index_or, slice_set, replicate}
use mathlib.Core.Option.{some}
use lib.ListN.{get_elem?}
use Rattle.l3_lanes.specs.declared.view.View.{View}
use Rattle.l3_lanes.specs.declared.view.Tell.{Tell}
use Rattle.l3_lanes.specs.declared.view.Tell.TheVariants.{Free, Held, Told, ToldClaimed, ToldReady, Left}

-- the words that the seat noted at a place, a cell or the word for shut, the newest first
abbrev pub words_at : View → ℕ → List ℕ
words_at v place = slice_index_or v.notes place []

-- the word n is noted at a place
abbrev pub noted : View → ℕ → ℕ → View
noted v place n = record v { notes = slice_set v.notes place (n ∷ words_at v place) }

-- what the desk knows of a cell becomes t
abbrev pub told : View → ℕ → Tell → View
told v cell t = record v { tells = slice_set v.tells cell t }

-- the desk of so many cells at the start: each cell is free
abbrev pub opening_desk : ℕ → View
opening_desk count = record { desk = true; shut = false; tells = replicate count Free; claim = None; late = false; notes = replicate (count + 1) [] }

-- a new worker, split from a seat of this view, has no claim and has noted nothing
abbrev pub newcomer : View → View
newcomer v = record { desk = false; shut = false; tells = []; claim = None; late = false; notes = replicate (length v.notes) [] }

-- the granule that the desk offered and has not taken
abbrev pub known : Tell → Option ℕ
known Free = None
known Held = None
known (Told i) = Some i
known (ToldClaimed i) = Some i
known (ToldReady i) = Some i
known (Left i) = None

abbrev pub is_held : Tell → Bool
is_held Held = true
is_held Free = false
is_held (Told i) = false
is_held (ToldClaimed i) = false
is_held (ToldReady i) = false
is_held (Left i) = false

-- what the desk knows of the cell, where it holds no slot
abbrev pub Knows : View → ℕ → Option ℕ → Type 0
Knows v cell granule = (t : Tell) × (get_elem? v.tells cell ≡ some t) × (known t ≡ granule) × (is_held t ≡ false)

-- the desk's view after steps on a cell, of which it knows t then (only the inside of this crate)
pub record HasTold (v : View) (cell : ℕ) (t : Tell) (w : View) : Type 0 where
  pub desk : w.desk ≡ v.desk
  pub shut : w.shut ≡ v.shut
  pub claim : w.claim ≡ v.claim
  pub late : w.late ≡ v.late
  pub tells : w.tells ≡ slice_set v.tells cell t

-- from the view v to the view w these words were noted at the place, the newest first, and none
-- elsewhere
pub record Notes (place : ℕ) (words : List ℕ) (v w : View) : Type 0 where
  pub here : words_at w place ≡ words ++ words_at v place
  pub elsewhere : (k : ℕ) → (k ≡ place → ⊥) → words_at w k ≡ words_at v k
  pub places : length w.notes ≡ length v.notes
