-- What a quantised value stands for: the requantisation of Layer III (ISO/IEC 11172-3, 2.4) in
-- whole numbers; the roundings are this project's own.
use Rattle.std.specs.Prelude.{ℕ, ◌+◌, ◌*◌, ◌/◌, ◌%◌, ◌^◌, ◌≤◌, nat_le, ℤ, unsigned_abs}
use Rattle.l3_base.specs.Choosing.{greatest_passing}
use Rattle.l3_base.specs.Steps.{quarter_at}
use Rattle.l3_quant.specs.Quantiser.{steps_of}

-- n to the power 4/3 in units of 2^-12, rounded down: the greatest v with v^3 <= n^4 * 2^36
unfoldable pub four_thirds_of : ℕ → ℕ
four_thirds_of n = greatest_passing (n ^ 2 * 2 ^ 12 + 1) (λ v. nat_le (v ^ 3) (n ^ 4 * 2 ^ 36))

-- what that means, over numbers of any size
pub record IsFourThirds (n power : ℕ) : Type 0 where
  pub within : power ^ 3 ≤ n ^ 4 * 2 ^ 36
  pub greatest : (v : ℕ) → v ^ 3 ≤ n ^ 4 * 2 ^ 36 → v ≤ power

abbrev pub FourThirdsIsGreatest : Type 0
FourThirdsIsGreatest = (n : ℕ) → IsFourThirds n (four_thirds_of n)

-- the absolute value of the line that n stands for at a gain, rounded down: the power over
-- 2^((210 - gain) / 4), so many quarter steps below 258. The units 2^-12 of the power and 2^-24 of
-- a line make 2^12, and the table's unit and the 12 doublings 2^30 and 2^12: that is 2^54
unfoldable pub reconstructed : ℕ → ℤ → ℕ
reconstructed n gain =
    four_thirds_of n * 2 ^ 54
    / (unsigned_abs (quarter_at (steps_of gain % 4)) * 2 ^ (steps_of gain / 4))
