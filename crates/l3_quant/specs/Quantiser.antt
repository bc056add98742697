-- The quantised value of a line at a gain, of lines at one gain, and which values can be coded.
use Rattle.std.specs.Prelude.{◌≡◌, ◌⊎◌, ℕ, ◌+◌, ◌-◌, ◌*◌, ◌/◌, ◌%◌, ◌^◌, ◌≤◌, Bool, ◌==◌, ◌||◌, nat_le, List, map, All, ℤ, pos, negsuc, ◌-ℤ◌, unsigned_abs}
use Rattle.std.specs.List.{list_all}
use Rattle.l3_base.specs.Choosing.{greatest_passing}
use Rattle.l3_base.specs.Steps.{quarter_at}

-- quarter steps from a gain up to 258, which for a gain of at most 258 is a number: 210, where the
-- step is that of the lines' own unit, and 48 more, which are 12 doublings
abbrev pub steps_of : ℤ → ℕ
steps_of gain = unsigned_abs (pos 258 -ℤ gain)

-- x * 2^((210 - gain) / 4) / 2^12, rounded down, at h quarter steps below 258: whole steps by a
-- power of 2, the others by the table. The table's unit 2^-30 and the 2^12 make 2^42; with the 12
-- doublings between 210 and 258 that is 2^54
unfoldable pub scaled : ℕ → ℕ → ℕ
scaled x h = x * unsigned_abs (quarter_at (h % 4)) * 2 ^ (h / 4) / 2 ^ 54

-- n is 0, or n - 13 / 32 is at most the three-quarter power of y / 2^12
abbrev pub Reaches : ℕ → ℕ → Type 0
Reaches y n = (n ≡ 0) ⊎ ((32 * n - 13) ^ 4 * 2 ^ 16 ≤ y ^ 3)

-- the same as a test
abbrev pub is_reached : ℕ → ℕ → Bool
is_reached y n = n == 0 || nat_le ((32 * n - 13) ^ 4 * 2 ^ 16) (y ^ 3)

-- the greatest n that y reaches, which is at most y
unfoldable pub greatest_reached : ℕ → ℕ
greatest_reached y = greatest_passing (y + 1) (is_reached y)

-- what that means, over numbers of any size
pub record IsGreatestReached (y n : ℕ) : Type 0 where
  pub reached : Reaches y n
  pub greatest : (m : ℕ) → Reaches y m → m ≤ n

-- the quantised value of an absolute value x, so many quarter steps below 258
abbrev pub magnitude_at : ℕ → ℕ → ℕ
magnitude_at x h = greatest_reached (scaled x h)

-- the absolute value of the quantised value of a line at a gain
abbrev pub magnitude : ℤ → ℤ → ℕ
magnitude gain x = magnitude_at (unsigned_abs x) (steps_of gain)

-- n with the sign of x
abbrev pub with_sign_of : ℤ → ℕ → ℤ
with_sign_of (pos x) n = pos n
with_sign_of (negsuc x) n = pos 0 -ℤ pos n

-- the quantised value of a line at a gain
abbrev pub quantised : ℤ → ℤ → ℤ
quantised gain x = with_sign_of x (magnitude gain x)

-- the quantised values of lines at one gain
abbrev pub quantised_lines : ℤ → List ℤ → List ℤ
quantised_lines gain lines = map (quantised gain) lines

-- quantised values can be coded: each is at most 8191 either way
abbrev pub IsCodable : List ℤ → Type 0
IsCodable values = All (λ q. unsigned_abs q ≤ 8191) values

-- the same as a test
abbrev pub is_codable : List ℤ → Bool
is_codable values = list_all (λ q. nat_le (unsigned_abs q) 8191) values
