-- The energies of a spectrum's bands, and the bits that it demands: this project's own rule.
use Rattle.std.specs.Prelude.{◌≡◌, ℕ, ◌+◌, ◌-◌, ◌*◌, ◌/◌, ◌^◌, ◌<◌, ◌≤◌, nat_lt, List, ℤ, slice_range, unsigned_abs}
use Rattle.std.specs.List.{sum, sum_by}
use Rattle.l3_base.specs.Choosing.{least_passing}
use Rattle.l3_base.specs.Bands.{edge_at, band_width}
use Rattle.l3_base.specs.Lists.{tabulate}

-- what a line counts for: its absolute value in units of 2^-16 of full scale, rounded down and then
-- squared
abbrev pub energy_of_line : ℤ → ℕ
energy_of_line x = (unsigned_abs x / 256) ^ 2

-- the lines of a band
abbrev pub lines_of_band : ℕ → List ℤ → ℕ → List ℤ
lines_of_band rate lines band = slice_range lines (edge_at rate band) (edge_at rate (band + 1))

-- the energy of a band: what its lines count for
unfoldable pub energy_of : ℕ → List ℤ → ℕ → ℕ
energy_of rate lines band = sum_by energy_of_line (lines_of_band rate lines band)

-- the energies of the 22 bands
unfoldable pub energies_of : ℕ → List ℤ → List ℕ
energies_of rate lines = tabulate 22 (energy_of rate lines)

-- how many binary digits a number has: the least k for which it is below 2^k
unfoldable pub binary_digits : ℕ → ℕ
binary_digits n = least_passing (n + 1) (λ k. nat_lt n (2 ^ k))

-- what that means: the highest of the digits is a 1, and 0 has none
pub record HasDigits (n digits : ℕ) : Type 0 where
  pub below : n < 2 ^ digits
  pub highest : 0 < n → 2 ^ (digits - 1) ≤ n
  pub none : n ≡ 0 → digits ≡ 0

-- what a band demands, in eighths of a bit: for each of its lines as many as their mean energy,
-- rounded down, has binary digits
unfoldable pub eighths_of : ℕ → List ℤ → ℕ → ℕ
eighths_of rate lines band = band_width rate band * binary_digits (energy_of rate lines band / band_width rate band)

-- the demand of a spectrum in whole bits
unfoldable pub demand_of : ℕ → List ℤ → ℕ
demand_of rate lines = sum (tabulate 22 (eighths_of rate lines)) / 8
