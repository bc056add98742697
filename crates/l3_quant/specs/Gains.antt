-- The first gain of a spectrum, and the laws of the quantiser.
use Rattle.std.specs.Prelude.{◌≡◌, ◌↔◌, ℕ, ◌≤◌, true, List, All, ℤ, pos}
use Rattle.l3_base.specs.Amp.{IsAmp, no_amp}
use Rattle.l3_base.specs.Choosing.{least_passing}
use Rattle.l3_base.specs.Spectrum.{IsLine}
use Rattle.l3_quant.specs.Quantiser.{quantised, quantised_lines, greatest_reached, IsGreatestReached, is_codable, IsCodable}
use Rattle.l3_quant.specs.Amplified.{quantised_bands}

-- the least gain of 0 to 255 at which the spectrum is codable under an amplification
unfoldable pub first_gain_of : List ℕ → List ℕ → List ℤ → ℕ
first_gain_of edges amp lines =
    least_passing 256 (λ gain. is_codable (quantised_bands edges amp (pos gain) lines))

-- the quantised value is the greatest that is reached, among whole numbers of any size
abbrev pub GreatestIsReached : Type 0
GreatestIsReached = (y : ℕ) → IsGreatestReached y (greatest_reached y)

-- the test of values is what its name says
abbrev pub CodableIsTested : Type 0
CodableIsTested = (values : List ℤ) → (is_codable values ≡ true) ↔ IsCodable values

-- where no band is amplified all lines have one gain
abbrev pub OneGainWithoutAmp : Type 0
OneGainWithoutAmp = (edges : List ℕ) (gain : ℤ) (lines : List ℤ) →
    quantised_bands edges no_amp gain lines ≡ quantised_lines gain lines

-- what is codable at a gain is so at each higher one
abbrev pub CodableAbove : Type 0
CodableAbove = (edges amp : List ℕ) (lines : List ℤ) (low high : ℕ) → low ≤ high → high ≤ 255 →
    IsCodable (quantised_bands edges amp (pos low) lines) →
    IsCodable (quantised_bands edges amp (pos high) lines)

-- at the gains of 249 to 255 each line becomes 0
abbrev pub ZeroAtTheTop : Type 0
ZeroAtTheTop = (gain : ℕ) (x : ℤ) → 249 ≤ gain → gain ≤ 255 → IsLine x →
    quantised (pos gain) x ≡ pos 0

-- so at the highest gain all lines do, however the bands are amplified
abbrev pub ZerosAtTheTop : Type 0
ZerosAtTheTop = (edges amp : List ℕ) (lines : List ℤ) → IsAmp amp → All IsLine lines →
    All (λ q. q ≡ pos 0) (quantised_bands edges amp (pos 255) lines)

-- and there is a first gain
abbrev pub FirstGainExists : Type 0
FirstGainExists = (edges amp : List ℕ) (lines : List ℤ) → IsAmp amp → All IsLine lines →
    first_gain_of edges amp lines ≤ 255
