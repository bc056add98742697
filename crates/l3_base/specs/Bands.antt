-- Scale factor bands of long blocks (ISO/IEC 11172-3, Annex B).
use Rattle.std.specs.Prelude.{◌≡◌, ℕ, ◌+◌, ◌-◌, ◌<◌, ◌≤◌, List, [], ℤ, pos, length, slice_index, slice_index_or}
use Rattle.l3_base.specs.declared.rate.SampleRate.{SampleRate}
use Rattle.l3_base.specs.Rates.{hertz_index_of}
use Rattle.l3_base.specs.declared.bands.TheConstants.{EDGES, SLEN}

-- the 23 edges at a sampling frequency: 44100, 48000, 32000 Hz
unfoldable pub edges_at : ℕ → List ℕ
edges_at rate = slice_index_or EDGES rate []

-- the edges of the bands of a sampling frequency
abbrev pub band_edges : SampleRate → List ℕ
band_edges rate = edges_at (hertz_index_of rate)

-- the first line of a band
unfoldable pub edge_at : ℕ → ℕ → ℕ
edge_at rate band = slice_index (edges_at rate) band

-- how many lines a band has
abbrev pub band_width : ℕ → ℕ → ℕ
band_width rate band = edge_at rate (band + 1) - edge_at rate band

-- 22 bands of at least one line cover the 576 lines, and none but the last may be narrower than the
-- one before
pub record AreBands (rate : ℕ) : Type 0 where
  pub count : length (edges_at rate) ≡ 23
  pub from_the_first_line : edge_at rate 0 ≡ 0
  pub to_the_last_line : edge_at rate 22 ≡ 576
  pub rising : (b : ℕ) → b < 22 → edge_at rate b < edge_at rate (b + 1)
  pub widening : (b : ℕ) → b < 20 → band_width rate b ≤ band_width rate (b + 1)

-- the numbers of a list, by index
abbrev pub numbers : List ℕ → ℕ → ℤ
numbers xs i = pos (slice_index xs i)

-- slen1 (part 0) or slen2 (part 1) of each scalefac_compress
abbrev pub slen_part : ℕ → ℕ → ℤ
slen_part part i = numbers (slice_index_or SLEN i []) part
