-- The rule of the board without locks, which every step keeps.
--
-- 1. Each cell's word is 0 or one of the four words of a granule of that cell; the word for shut is
-- 1 exactly where the
--    desk's view says shut, and else 0. The bell may be any number.
-- 2. A cell is claimed or withdrawn exactly where one seat has the claim, and no two have it. The
-- claim of a seat that
--    has read the word of a withdrawn cell is of a withdrawn cell.
-- 3. The item at home in a cell on offer or ready is the granule's.
-- 4. What the desk knows of a cell is true: `Fits`. A cell of a granule that was offered is on
-- offer, claimed or ready;
--    where the desk last read that it is claimed it is claimed or ready, and where it last read
-- ready it is ready. One
--    that was left in work is withdrawn, or empty with its slot at home. A free one is empty.
-- 5. The first seat is the desk, and no other is.
use Rattle.std.specs.Prelude.{◌≡◌, ℕ, ◌%◌, true, if◌then◌else◌, List, [], ◌∷◌, ◌++◌, map, length, Option, Some}
use mathlib.Core.Option.{some}
use mathlib.Core.Option as maybe
use lib.ListN.{get_elem?}
use Rattle.atomic_table.specs.Table.{State}
use Rattle.l3_lanes.specs.declared.view.View.{View}
use Rattle.l3_lanes.specs.declared.view.Tell.{Tell}
use Rattle.l3_lanes.specs.declared.view.Tell.TheVariants.{Free, Held, Told, ToldClaimed, ToldReady, Left}
use Rattle.l3_lanes.specs.Words.{Lane, empty, offered, claimed, ready, withdrawn, code, granule_of, IsOwned, IsFull, HasNumber}

-- a cell has granules of its own alone
abbrev pub IsPlaced : ℕ → ℕ → Lane → Type 0
IsPlaced cells c x = (i : ℕ) → granule_of x ≡ Some i → i % cells ≡ c

module _ {T : Type 0} (number : T → ℕ) where
  -- what the desk knows of a cell, the cell, and the value at home in its slot, if the slot is at
  -- home
  pub data Fits : Tell → Lane → maybe.Option (Option T) → Type 0 where
    free_empty : {y : Option T} → IsFull y → Fits Free empty (some y)
    held_empty : {h : maybe.Option (Option T)} → Fits Held empty h
    told_offered : {i : ℕ} {y : Option T} → HasNumber number i y → Fits (Told i) (offered i) (some y)
    told_claimed : {i p : ℕ} {h : maybe.Option (Option T)} → Fits (Told i) (claimed i p) h
    told_ready : {i : ℕ} {y : Option T} → HasNumber number i y → Fits (Told i) (ready i) (some y)
    told_claimed_claimed : {i p : ℕ} {h : maybe.Option (Option T)} → Fits (ToldClaimed i) (claimed i p) h
    told_claimed_ready : {i : ℕ} {y : Option T} → HasNumber number i y → Fits (ToldClaimed i) (ready i) (some y)
    told_ready_ready : {i : ℕ} {y : Option T} → HasNumber number i y → Fits (ToldReady i) (ready i) (some y)
    left_withdrawn : {i p : ℕ} {h : maybe.Option (Option T)} → Fits (Left i) (withdrawn i p) h
    left_empty : {i : ℕ} {y : Option T} → IsFull y → Fits (Left i) empty (some y)

  -- the rule, of words, values at home and views, with the cells' states, the desk's view, and the
  -- two other words
  pub record Kept (words : List ℕ) (homes : List (maybe.Option (Option T))) (views : List View) (cells : List Lane) (desk : View) (shut bell : ℕ) : Type 0 where
    -- 1
    pub shows : words ≡ map code cells ++ shut ∷ bell ∷ []
    pub as_many : length cells ≡ length homes
    pub placed : (c : ℕ) (x : Lane) → get_elem? cells c ≡ some x → IsPlaced (length homes) c x
    pub shut_is : shut ≡ (if desk.shut then 1 else 0)
    -- 2
    pub owner : (c : ℕ) (x : Lane) (p i : ℕ) → get_elem? cells c ≡ some x → IsOwned x p i → (v : View) × (get_elem? views p ≡ some v) × (v.claim ≡ Some (c, i))
    pub claims : (p : ℕ) (v : View) (c i : ℕ) → get_elem? views p ≡ some v → v.claim ≡ Some (c, i) → (x : Lane) × (get_elem? cells c ≡ some x) × IsOwned x p i
    pub lates : (p : ℕ) (v : View) (c i : ℕ) → get_elem? views p ≡ some v → v.claim ≡ Some (c, i) → v.late ≡ true → get_elem? cells c ≡ some (withdrawn i p)
    -- 3 and 4
    pub fits : (c : ℕ) (x : Lane) → get_elem? cells c ≡ some x → (t : Tell) × (h : maybe.Option (Option T)) × (get_elem? desk.tells c ≡ some t) × (get_elem? homes c ≡ some h) × Fits t x h
    -- 5
    pub desk_is : desk.desk ≡ true
    pub desk_at : get_elem? views 0 ≡ some desk
    pub one_desk : (p : ℕ) (v : View) → get_elem? views p ≡ some v → v.desk ≡ true → p ≡ 0

  abbrev pub Holds : State (Option T) View → Type 0
  Holds s = (cells : List Lane) × (desk : View) × (shut : ℕ) × (bell : ℕ) × Kept s.words s.homes s.views cells desk shut bell
