-- From the values of scaled lines to those of a spectrum.
use Rattle.std.proofs.Common.{◌≡◌, ℕ, ◌+◌, ◌<◌, ◌≤◌, ◌^◌, List, length, get_or, min, arith, ℤ, pos}
use Rattle.std.specs.Prelude.{Any, unsigned_abs}
use Rattle.l3_base.specs.Bands.{edge_at, edges_at}
use Rattle.l3_quant.specs.Quantiser.{magnitude, quantised_lines, scaled, steps_of}
use Rattle.l3_quant.specs.Amplified.{band_gain, band_of, quantised_bands}
use Rattle.l3_quant.specs.Values.{AreScaled, AreValues, IsAboveAt}
use Rattle.l3_quant.proofs.Codable.{entry_above, quantised_lines-is}
use Rattle.l3_quant.proofs.BandLemmas.{band_of-holds, quantised_bands-is, quantised_bands-long, quantised_bands-size}

-- the quarter steps of a line's band
abbrev pub steps_at : ℕ → List ℕ → ℕ → ℕ → ℕ
steps_at rate amp gain k = steps_of (band_gain amp (pos gain) (band_of (edges_at rate) k))

-- all lines at one gain
pub one_gain_values : (gain : ℤ) (lines out : List ℤ) → length lines ≡ 576 → length out ≡ 576 →
    AreValues (λ _. steps_of gain) lines out → out ≡ quantised_lines gain lines
one_gain_values gain lines out long same values =
    quantised_lines-is gain lines out (omega arith) (λ k lt. values k (omega arith))

pub one_gain_above : (gain : ℤ) (lines : List ℤ) → length lines ≡ 576 →
    IsAboveAt (λ _. steps_of gain) lines →
    Any (λ x. 8191 < magnitude gain x) lines
one_gain_above gain lines long above =
    entry_above (magnitude gain) 8191 lines above.0 (omega (arith, above.1)) above.2

-- each line at the gain of its band
pub bands_scaled : (rate : ℕ) (amp : List ℕ) (gain : ℕ) (lines : List ℤ) (ys : List ℕ) → rate < 3 →
    ((b k : ℕ) → b < 22 → edge_at rate b ≤ k → k < edge_at rate (b + 1) →
    get_or ys k 0 ≡ min (scaled (unsigned_abs (get_or lines k (pos 0))) (steps_of (band_gain amp (pos gain) b))) (2 ^ 30)) →
    AreScaled (steps_at rate amp gain) lines ys
bands_scaled rate amp gain lines ys small each k lt =
    let is = band_of-holds rate k small lt in
    each (band_of (edges_at rate) k) k is.band_lt is.from is.to

pub bands_values : (rate : ℕ) (amp : List ℕ) (gain : ℕ) (lines out : List ℤ) →
    length lines ≡ 576 → length out ≡ 576 →
    AreValues (steps_at rate amp gain) lines out →
    out ≡ quantised_bands (edges_at rate) amp (pos gain) lines
bands_values rate amp gain lines out long same values =
    quantised_bands-is (edges_at rate) amp (pos gain) lines out (omega arith) (λ k lt. values k (omega arith))

pub bands_above : (rate : ℕ) (amp : List ℕ) (gain : ℕ) (lines : List ℤ) → length lines ≡ 576 →
    IsAboveAt (steps_at rate amp gain) lines →
    Any (λ q. 8191 < unsigned_abs q) (quantised_bands (edges_at rate) amp (pos gain) lines)
bands_above rate amp gain lines long above =
    let q = quantised_bands (edges_at rate) amp (pos gain) lines in
    let room : above.0 < length lines = omega (arith, above.1) in
    entry_above unsigned_abs 8191 q above.0 (omega (arith, quantised_bands-long (edges_at rate) amp (pos gain) lines, room))
    (omega (arith, quantised_bands-size (edges_at rate) amp (pos gain) lines above.0 room, above.2))
