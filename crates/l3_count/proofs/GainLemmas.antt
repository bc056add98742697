-- The words of the contracts at a gain.
use Rattle.std.proofs.Common.{◌≡◌, ℕ, ◌+◌, ◌*◌, ◌<◌, List, ℤ, pos, length, get_or, min, arith, ap, sym, ◌∙◌}
use Rattle.l3_base.specs.Amp.{no_amp}
use Rattle.l3_base.specs.declared.rate.SampleRate.{SampleRate}
use Rattle.l3_base.specs.Rates.{hertz_index_of}
use Rattle.l3_base.specs.Bands.{band_edges}
use Rattle.l3_quant.specs.Quantiser.{magnitude_at, steps_of}
use Rattle.l3_quant.specs.Amplified.{band_of, quantised_bands}
use Rattle.l3_region.specs.Lanes.{place_of}
use Rattle.l3_quant.proofs.BandLemmas.{band_gain-no_amp, quantised_bands-long, quantised_bands-size}
use Rattle.l3_count.specs.Rows.{line_at, size_at}
use Rattle.l3_count.specs.Marks.{ArePacked, band_steps, cut_at, line_steps}
use Rattle.l3_count.specs.Ends.{IsQuantised}

-- with no band amplified all bands have the gain itself
pub equal_steps : (gain band : ℕ) → band_steps no_amp gain band ≡ steps_of (pos gain)
equal_steps gain band = ap steps_of (band_gain-no_amp (pos gain) band)

pub plain_quantised : (edges : List ℕ) (gain : ℕ) (lines : List ℤ) → length lines ≡ 576 → IsQuantised lines (steps_of (pos gain)) (quantised_bands edges no_amp (pos gain) lines)
plain_quantised edges gain lines long = record {
  long = quantised_bands-long edges no_amp (pos gain) lines ∙ long;
  is = λ i lt.
      quantised_bands-size edges no_amp (pos gain) lines i (omega (arith, long))
      ∙ ap (magnitude_at (size_at lines i)) (equal_steps gain (band_of edges i));
}

-- pairs of lines that each have the gain of their band
pub pairs_are : (rate : SampleRate) (amp : List ℕ) (gain : ℕ) (lines : List ℤ) (out : List ℕ) → length lines ≡ 576 →
    ((i : ℕ) → i < 288 → get_or out i 0 ≡ 16 * cut_at lines (line_steps (hertz_index_of rate) amp gain) (2 * i) + cut_at lines (line_steps (hertz_index_of rate) amp gain) (2 * i + 1)) →
    ArePacked (quantised_bands (band_edges rate) amp (pos gain) lines) out
unfolding place_of
pairs_are rate amp gain lines out long each i lt =
    let q = quantised_bands (band_edges rate) amp (pos gain) lines in
    let steps = line_steps (hertz_index_of rate) amp gain in
    let size : (k : ℕ) → k < 576 → cut_at lines steps k ≡ min (size_at q k) 15 =
    λ k room. ap (λ n. min n 15) (sym (quantised_bands-size (band_edges rate) amp (pos gain) lines k (omega (arith, long)))) in
    each i lt ∙ (ap (λ a. 16 * a + cut_at lines steps (2 * i + 1)) (size (2 * i) (omega arith)) ∙ ap (λ b. 16 * min (size_at q (2 * i)) 15 + b) (size (2 * i + 1) (omega arith)))

-- cells of one line are one
pub one_cell : (a b : ℕ) → line_at a ≡ line_at b → a ≡ b
one_cell a b same = omega arith
