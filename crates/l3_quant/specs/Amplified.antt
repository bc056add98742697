-- The quantised values of a spectrum whose bands are amplified: one gain for each band.
use Rattle.std.specs.Prelude.{ℕ, ◌+◌, ◌*◌, nat_lt, List, map, ℤ, pos, ◌-ℤ◌, slice_index}
use Rattle.std.specs.List.{enumerate_from}
use Rattle.l3_base.specs.Choosing.{least_passing}
use Rattle.l3_quant.specs.Quantiser.{quantised}

-- the gain of a band: two steps less for each of its amplification, which is 0 behind the 21 bands
abbrev pub band_gain : List ℕ → ℤ → ℕ → ℤ
band_gain amp gain band = gain -ℤ pos (2 * slice_index amp band)

-- the band of a line: the first of the 22 that ends above it
unfoldable pub band_of : List ℕ → ℕ → ℕ
band_of edges at = least_passing 22 (λ band. nat_lt at (slice_index edges (band + 1)))

-- the quantised values of a spectrum's lines, each at the gain of its band
unfoldable pub quantised_bands : List ℕ → List ℕ → ℤ → List ℤ → List ℤ
quantised_bands edges amp gain lines =
    map (λ line. quantised (band_gain amp gain (band_of edges line.0)) line.1)
    (enumerate_from 0 lines)
