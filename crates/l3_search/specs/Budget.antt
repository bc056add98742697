-- What a unit may take of the bit reservoir, and what the end of a frame leaves of it (ISO/IEC
-- 11172-3, Annex C, C.1.5.4; the numbers 100, six tenths and eight tenths are this project's own).
-- All in bits, but begins in bytes.
use Rattle.std.specs.Prelude.{ℕ, ◌+◌, ◌-◌, ◌*◌, ◌/◌, max, min, nat_le, if◌then◌else◌}

-- what a demand is above the mean, where that is more than 100 bits, and else nothing
abbrev pub excess_of : (mean demand : ℕ) → ℕ
excess_of mean demand = if nat_le (demand - mean) 100 then 0 else demand - mean

-- what a unit borrows: its excess, up to six tenths of the reserve,
-- and never less than the reserve holds above eight tenths of the greatest main_data_begin
abbrev pub borrowed : (reserve mean begin_limit demand : ℕ) → ℕ
borrowed reserve mean begin_limit demand =
    max (min (excess_of mean demand) (6 * reserve / 10)) (reserve - 64 * begin_limit / 10)

-- the mean and what is borrowed, up to the greatest part2_3_length
abbrev pub budget_of : (reserve mean begin_limit demand : ℕ) → ℕ
budget_of reserve mean begin_limit demand = min (mean + borrowed reserve mean begin_limit demand) 4095

-- the reserve after a unit that took so many bits
abbrev pub left_by : (reserve mean used : ℕ) → ℕ
left_by reserve mean used = reserve + mean - used

-- main_data_begin of the next frame: the whole bytes
-- of the reserve, up to the greatest main_data_begin
abbrev pub begin_after : (reserve begin_limit : ℕ) → ℕ
begin_after reserve begin_limit = min (reserve / 8) begin_limit

-- the bits that stay zero at a frame's end: those that the next frame cannot reach
abbrev pub stuffing_after : (reserve begin_limit : ℕ) → ℕ
stuffing_after reserve begin_limit = reserve - 8 * begin_after reserve begin_limit
