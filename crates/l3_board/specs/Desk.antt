-- The desk's record: what it was last told of each cell, how far it was served, and with how much
-- work done.
use Rattle.std.specs.Prelude.{ℕ, ◌+◌, ◌%◌, ◌==◌, Bool, false, not, ◌&&◌, if◌then◌else◌, List, replicate, slice_index_or, slice_set}
use Rattle.l3_board.specs.declared.event.Offer.{Offer}
use Rattle.l3_board.specs.declared.event.Offer.TheVariants.{Placed, Busy}
use Rattle.l3_board.specs.declared.event.Take.{Take}
use Rattle.l3_board.specs.declared.event.Take.TheVariants.{Got, Revoked, InWork, NotOffered}
use Rattle.l3_board.specs.declared.entry.Entry.{Entry}
use Rattle.l3_board.specs.declared.entry.Entry.TheVariants.{Free, Told, Busied, Left, Gone}

-- what a desk keeps: an entry for each cell, the number up to which it was served, the work of what
-- it got last
pub record DeskState : Type 0 where
  pub last : List Entry
  pub served : ℕ
  pub got : ℕ

-- a desk that begins: each entry is free
abbrev pub fresh_desk : ℕ → DeskState
fresh_desk cells = record { last = replicate cells Free; served = 0; got = 0 }

-- the entry of granule i's cell: cell i mod L, of L cells
abbrev pub entry_of : ℕ → List Entry → ℕ → Entry
entry_of cells last i = slice_index_or last (i % cells) Free

module _ {T : Type 0} where
  -- the entry after this answer to an offer of granule i
  abbrev pub offer_entry : ℕ → Offer T → Entry → Entry
  offer_entry i (Placed spent) before = Told i
  offer_entry i (Busy x) (Told j) = Told j
  offer_entry i (Busy x) (Busied j turn) = Busied i (if j == i then not turn else false)
  offer_entry i (Busy x) before = Busied i false

  -- the entry that this answer to a take of granule i leaves, where no other granule was told
  abbrev pub taken_entry : ℕ → Take T → Entry
  taken_entry i (Got x) = Free
  taken_entry i (Revoked x) = Free
  taken_entry i (InWork spare) = Left i
  taken_entry i (NotOffered spare) = Gone i

  -- the entry after this answer to a take of granule i
  abbrev pub take_entry : ℕ → Take T → Entry → Entry
  take_entry i answer (Told j) = if j == i then taken_entry i answer else Told j
  take_entry i answer before = taken_entry i answer

  -- all entries after this answer to an offer of granule i: that of its cell alone moves
  abbrev pub last_after_offer : ℕ → List Entry → ℕ → Offer T → List Entry
  last_after_offer cells last i answer =
      slice_set last (i % cells) (offer_entry i answer (entry_of cells last i))

  -- all entries after this answer to a take of granule i: that of its cell alone moves
  abbrev pub last_after_take : ℕ → List Entry → ℕ → Take T → List Entry
  last_after_take cells last i answer =
      slice_set last (i % cells) (take_entry i answer (entry_of cells last i))

  -- the work of the item that a take hands out, and 0 where only the spare comes back
  abbrev pub work_got : (T → ℕ) → Take T → ℕ
  work_got work (Got x) = work x
  work_got work (Revoked x) = work x
  work_got work (InWork spare) = 0
  work_got work (NotOffered spare) = 0

-- the entry is of an offer of granule i: it was put on offer, or its cell was busy
abbrev pub is_offered : ℕ → Entry → Bool
is_offered i (Told j) = j == i
is_offered i (Busied j turn) = j == i
is_offered i before = false

-- a take of granule i serves it: all before it were served, and its cell's entry is of an offer of
-- it
abbrev pub is_served : ℕ → ℕ → Entry → Bool
is_served served i before = (served == i) && is_offered i before

-- the number up to which granules were served, after a take of granule i
abbrev pub served_after : ℕ → ℕ → Entry → ℕ
served_after served i before = if is_served served i before then i + 1 else served

-- the work of what was got last, after this answer to a take of granule i: it changes where i is
-- served
abbrev pub got_after : {T : Type 0} → (T → ℕ) → ℕ → ℕ → ℕ → Entry → Take T → ℕ
got_after work got served i before answer = if is_served served i before then work_got work answer else got
