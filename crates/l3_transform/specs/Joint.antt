-- Middle and side of two channels, in whole numbers, and when they are to be coded in place of left
-- and right: this project's own rule.
use Rattle.std.specs.Prelude.{ℕ, ◌+◌, ◌^◌, Bool, nat_lt, List, ℤ, pos, ◌+ℤ◌, ◌-ℤ◌, ◌*ℤ◌}
use Rattle.l3_base.specs.Lists.{entry, tabulate}
use Rattle.l3_base.specs.Sums.{floor_div}

-- a number over the square root of 2, to the nearest; 23170 is 2^15 over that root
unfoldable pub over_root_two : ℤ → ℤ
over_root_two x = floor_div (x *ℤ pos 23170 +ℤ pos (2 ^ 14)) (2 ^ 15)

-- the middle of a line of left and right
abbrev pub middle_line : ℤ → ℤ → ℤ
middle_line left right = over_root_two (left +ℤ right)

-- the side of a line of left and right
abbrev pub side_line : ℤ → ℤ → ℤ
side_line left right = over_root_two (left -ℤ right)

-- the spectrum of the middle
unfoldable pub middle_of : List ℤ → List ℤ → List ℤ
middle_of left right = tabulate 576 (λ k. middle_line (entry left k) (entry right k))

-- the spectrum of the side
unfoldable pub side_of : List ℤ → List ℤ → List ℤ
side_of left right = tabulate 576 (λ k. side_line (entry left k) (entry right k))

-- whether middle and side together demand less than left and right
abbrev pub prefers : (left right middle side : ℕ) → Bool
prefers left right middle side = nat_lt (middle + side) (left + right)
