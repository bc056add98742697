-- What counts mean, in the words of quantiser and regions.
use Rattle.std.specs.Prelude.{◌≡◌, ◌↔◌, ◌≤◌, ◌+◌, ℕ, List, All, IsSome, Some, None, if◌then◌else◌, slice_index, ℤ, pos}
use Rattle.l3_base.specs.Amp.{IsAmp, no_amp}
use Rattle.l3_base.specs.Spectrum.{IsLine}
use Rattle.l3_huff.specs.declared.quads.QuadTable.{QuadTable}
use Rattle.l3_quant.specs.Quantiser.{is_codable, IsCodable, quantised_lines}
use Rattle.l3_quant.specs.Amplified.{quantised_bands}
use Rattle.l3_quant.specs.Gains.{first_gain_of}
use Rattle.l3_region.specs.Split.{quad_values_of, split_of}
use Rattle.l3_region.specs.Regions.{quad_bits_in}
use Rattle.l3_region.specs.Laws.{MayTake, pairs_taken}
use Rattle.l3_count.specs.Count.{Counted, counted, count_of, split_in}

-- where no band is amplified, a count is that of all lines quantised at one gain
abbrev pub CountsAtOneGain : Type 0
CountsAtOneGain = (edges : List ℕ) (lines : List ℤ) (gain : ℕ) →
    let q = quantised_lines (pos gain) lines in
    count_of edges no_amp lines gain ≡ (if is_codable q then Some (counted edges no_amp gain q) else None)

-- a count is there exactly where the spectrum is codable
abbrev pub IsThereWhereCodable : Type 0
IsThereWhereCodable = (edges amp : List ℕ) (lines : List ℤ) (gain : ℕ) →
    IsSome (count_of edges amp lines gain) ↔ IsCodable (quantised_bands edges amp (pos gain) lines)

-- a count is there exactly from the first gain on
abbrev pub IsThereFromTheFirstGain : Type 0
IsThereFromTheFirstGain = (edges amp : List ℕ) (lines : List ℤ) (gain : ℕ) → gain ≤ 255 →
    IsSome (count_of edges amp lines gain) ↔ (first_gain_of edges amp lines ≤ gain)

-- a spectrum has a first gain, and at the highest gain its count has no values and no bits
pub record IsEmptyAtTheTop (edges amp : List ℕ) (lines : List ℤ) (c : Counted) : Type 0 where
  pub first : first_gain_of edges amp lines ≤ 255
  pub there : count_of edges amp lines 255 ≡ Some c
  pub bits : c.bits ≡ 0
  pub big : c.big ≡ 0
  pub quads : c.quads ≡ 0

abbrev pub EmptyAtTheTop : Type 0
EmptyAtTheTop = (edges amp : List ℕ) (lines : List ℤ) → IsAmp amp → All IsLine lines →
    (c : Counted) × IsEmptyAtTheTop edges amp lines c

-- a count is at its gain and amplification, with the split of the quantised values; its regions and
-- tables may be taken, and its bits are theirs
pub record IsCountOf (edges amp : List ℕ) (q : List ℤ) (gain : ℕ) (c : Counted) : Type 0 where
  pub amp_is : c.amp ≡ amp
  pub gain_is : c.gain ≡ gain
  pub split_is : split_in c ≡ split_of q
  pub taken : MayTake edges q c.region0 c.region1 (slice_index c.tables 0) (slice_index c.tables 1) (slice_index c.tables 2)
  pub bits_are : c.bits ≡ pairs_taken edges q c.region0 c.region1 (slice_index c.tables 0) (slice_index c.tables 1) (slice_index c.tables 2) + quad_bits_in c.quad (quad_values_of q)

abbrev pub CountsWhatIsTaken : Type 0
CountsWhatIsTaken = (edges amp : List ℕ) (lines : List ℤ) (gain : ℕ) (c : Counted) →
    count_of edges amp lines gain ≡ Some c →
    IsCountOf edges amp (quantised_bands edges amp (pos gain) lines) gain c

-- no regions, tables of pairs and table of quadruples take fewer bits
abbrev pub CountsTheFewest : Type 0
CountsTheFewest = (edges amp : List ℕ) (lines : List ℤ) (gain : ℕ) (c : Counted) →
    count_of edges amp lines gain ≡ Some c →
    let q = quantised_bands edges amp (pos gain) lines in
    (a b s t u : ℕ) (quad : QuadTable) → MayTake edges q a b s t u →
    c.bits ≤ pairs_taken edges q a b s t u + quad_bits_in quad (quad_values_of q)
