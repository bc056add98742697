-- Noise of the bands of a unit, how much of it is allowed, and what the scale factors of an
-- amplification take: after the outer loop of ISO/IEC 11172-3, Annex C. What noise is allowed and
-- all roundings are this project's own.
use Rattle.std.specs.Prelude.{ℕ, ◌+◌, ◌*◌, ◌/◌, ◌^◌, Bool, ◌&&◌, nat_lt, List, count_by, slice_index, slice_index_or, slice_range, [], ℤ, pos, ◌-ℤ◌, unsigned_abs, if◌then◌else◌}
use Rattle.std.specs.List.{filter, list_all, range_with_len, sum_by}
use Rattle.l3_base.specs.Bands.{band_width}
use Rattle.l3_base.specs.Lists.{tabulate}
use Rattle.l3_base.specs.declared.bands.TheConstants.{SLEN}
use Rattle.l3_transform.specs.Demand.{lines_of_band}
use Rattle.l3_quant.specs.Quantiser.{quantised}
use Rattle.l3_quant.specs.Amplified.{band_gain}
use Rattle.l3_quant.specs.Reconstruction.{reconstructed}
use Rattle.l3_count.specs.Regions.{cheapest}
use Rattle.l3_search.specs.declared.scalefactors.Part2.{Part2}

-- ---- scale factors

-- the bits of a scale factor of bands 0 to 10, slen1, and of bands 11 to 20, slen2
unfoldable pub slen1_of : ℕ → ℕ
slen1_of compress = slice_index (slice_index_or SLEN compress []) 0

unfoldable pub slen2_of : ℕ → ℕ
slen2_of compress = slice_index (slice_index_or SLEN compress []) 1

-- the bits of all scale factors of a unit under a scalefac_compress
unfoldable pub scalefactor_bits : ℕ → ℕ
scalefactor_bits compress = 11 * slen1_of compress + 10 * slen2_of compress

-- whether each number of a list has room in so many bits
abbrev pub have_room : ℕ → List ℕ → Bool
have_room bits numbers = list_all (λ n. nat_lt n (2 ^ bits)) numbers

-- whether the amplification of each band has room under a scalefac_compress
abbrev pub holds_amp : List ℕ → ℕ → Bool
holds_amp amp compress = have_room (slen1_of compress) (slice_range amp 0 11) && have_room (slen2_of compress) (slice_range amp 11 21)

-- the scalefac_compress of 0 to 15 that holds an amplification in the fewest bits, and of such the
-- least number
unfoldable pub compress_of : List ℕ → ℕ
compress_of amp = cheapest scalefactor_bits 0 (filter (holds_amp amp) (range_with_len 0 16))

-- the same with its bits
unfoldable pub part2_of : List ℕ → Part2
part2_of amp = record { compress = compress_of amp; bits = scalefactor_bits (compress_of amp) }

-- ---- noise

-- the noise of a line that is quantised to a value of absolute value n at a gain: by how much what
-- n stands for misses the line's absolute value, in units of 2^-16 of full scale, rounded down and
-- then squared
unfoldable pub noise_of_value : ℤ → ℤ → ℕ → ℕ
noise_of_value gain x n = (unsigned_abs (pos (unsigned_abs x) -ℤ pos (reconstructed n gain)) / 256) ^ 2

-- the noise of a line at a gain: that of its quantised value
abbrev pub noise_of_line : ℤ → ℤ → ℕ
noise_of_line gain x = noise_of_value gain x (unsigned_abs (quantised gain x))

-- the noise of a band under an amplification at a gain: that of its lines
unfoldable pub noise_of : ℕ → List ℕ → ℕ → List ℤ → ℕ → ℕ
noise_of rate amp gain lines band = sum_by (noise_of_line (band_gain amp (pos gain) band)) (lines_of_band rate lines band)

-- the noise of the 22 bands
unfoldable pub noises_of : ℕ → List ℕ → ℕ → List ℤ → List ℕ
noises_of rate amp gain lines = tabulate 22 (noise_of rate amp gain lines)

-- ---- allowed noise

-- what noise is allowed in a band: a 32nd of its energy, rounded down, and 1 for each line
unfoldable pub allowed_of : ℕ → List ℕ → ℕ → ℕ
allowed_of rate energies band = slice_index energies band / 32 + band_width rate band

-- what is allowed in the 22 bands
unfoldable pub allowances_of : ℕ → List ℕ → List ℕ
allowances_of rate energies = tabulate 22 (allowed_of rate energies)

-- whether the noise of a band is over what is allowed
abbrev pub is_over : List ℕ → List ℕ → ℕ → Bool
is_over noise allowed band = nat_lt (slice_index allowed band) (slice_index noise band)

-- how many of bands 0 to 20 are over
unfoldable pub bands_over : List ℕ → List ℕ → ℕ
bands_over noise allowed = count_by (is_over noise allowed) (range_with_len 0 21)

-- an amplification with one more in each of these bands that is over
unfoldable pub raised : List ℕ → List ℕ → List ℕ → List ℕ
raised amp noise allowed = tabulate 21 (λ band. slice_index amp band + (if is_over noise allowed band then 1 else 0))
