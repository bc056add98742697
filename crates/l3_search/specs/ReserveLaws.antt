-- Laws of the bit reservoir, each carried by a function of src/laws.rt.
use Rattle.std.specs.Prelude.{◌≡◌, ℕ, ◌+◌, ◌*◌, ◌≤◌}
use Rattle.l3_search.specs.Budget.{borrowed, begin_after, stuffing_after}

-- no unit borrows more than the reserve
abbrev pub BorrowsWithinReserve : Type 0
BorrowsWithinReserve = (reserve mean begin_limit demand : ℕ) → borrowed reserve mean begin_limit demand ≤ reserve

-- at a frame's end each bit of the reserve is stuffed or kept for the next frame
abbrev pub EndsExactly : Type 0
EndsExactly = (reserve begin_limit : ℕ) → 8 * begin_after reserve begin_limit + stuffing_after reserve begin_limit ≡ reserve
