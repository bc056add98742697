-- Spectra of zeros.
use Rattle.std.proofs.Common.{◌≡◌, ℕ, ◌+◌, ◌*◌, ◌<◌, ◌≤◌, List, length, replicate, get_or, leb, true, ℤ, pos, negsuc, refl, sym, ap, ◌∙◌, arith}
use Rattle.std.specs.Prelude.{All, unsigned_abs, slice_range}
use Rattle.std.proofs.lemmas.Bool.{le-leb}
use Rattle.std.proofs.lemmas.List.{get_or-replicate}
use Rattle.std.proofs.lemmas.List.Elements.{All-from_get_or}
use Rattle.l3_base.specs.declared.rate.SampleRate.{SampleRate}
use Rattle.l3_base.specs.Rates.{hertz_index_of}
use Rattle.l3_base.specs.Bands.{band_edges, edge_at}
use Rattle.l3_base.specs.Lists.{entry}
use Rattle.l3_base.proofs.Edges.{index_small}
use Rattle.l3_huff.specs.Tables.{greatest_of}
use Rattle.l3_quant.specs.Quantiser.{magnitude_at, steps_of}
use Rattle.l3_quant.specs.Amplified.{band_gain, band_of, quantised_bands}
use Rattle.l3_quant.specs.Magnitudes.{AreLinePeaks}
use Rattle.l3_quant.proofs.Codable.{all_at_most, magnitude_at-zero, quantised-none}
use Rattle.l3_quant.proofs.BandLemmas.{quantised_bands-at, quantised_bands-long}
use Rattle.l3_quant.proofs.PeakLemmas.{bands_cover}
use Rattle.l3_region.specs.declared.split.Split.{Split}
use Rattle.l3_region.specs.Split.{split_of}
use Rattle.l3_region.specs.Lanes.{lane_class, lane_table, place_of}
use Rattle.l3_region.specs.Pairs.{ArePairsOf}
use Rattle.l3_region.proofs.AllPass.{all_true}
use Rattle.l3_region.proofs.Ranges.{All-slice}
use Rattle.l3_count.proofs.Tops.{AreZero, zeros-split}

zero_pair : (q : List ℤ) (i : ℕ) → length q ≡ 576 → AreZero q → i < 288 → place_of (entry q (2 * i)) (entry q (2 * i + 1)) ≡ 0
unfolding place_of
zero_pair q i long zeros lt =
    let x : get_or q (2 * i) (pos 0) ≡ pos 0 = zeros (2 * i) (pos 0) (omega (arith, long)) in
    let y : get_or q (2 * i + 1) (pos 0) ≡ pos 0 = zeros (2 * i + 1) (pos 0) (omega (arith, long)) in
    rw (x, y) refl

-- zeros have pairs of 0, and class 0 holds them
pub zeros_pairs : (edges : List ℕ) (q : List ℤ) (pairs classes : List ℕ) → length q ≡ 576 → AreZero q →
    pairs ≡ replicate 288 0 → classes ≡ replicate 32 0 → ArePairsOf edges q pairs classes
zeros_pairs edges q pairs classes long zeros none low = record {
  long = long;
  codable = λ k d lt. rw (zeros k d lt) (omega arith);
  pairs_are = λ i lt. ap (λ l. get_or l i 0) none ∙ (get_or-replicate 288 i 0 0 lt ∙ sym (zero_pair q i long zeros lt));
  classed = λ b lt k room.
      all_true (λ x. leb (unsigned_abs x) (greatest_of (lane_table k))) (slice_range q (get_or edges b 0) (get_or edges (b + 1) 0))
      (λ j d small. rw (All-slice (λ x. x ≡ pos 0) q (get_or edges b 0) (get_or edges (b + 1) 0) zeros j d small) (le-leb 0 (greatest_of (lane_table k)) (omega arith)))
      ∙ sym (ap (λ c. leb c (lane_class k)) (class b lt) ∙ le-leb 0 (lane_class k) (omega arith));
  few = λ b lt. omega (arith, class b lt);
}
  where
    class : (b : ℕ) → b < 22 → get_or classes b 0 ≡ 0
    class b lt = ap (λ l. get_or l b 0) low ∙ get_or-replicate 32 b 0 0 (omega arith)

-- a split of so many pairs and quadruples
abbrev split_into : ℕ → ℕ → Split
split_into big quads = record { big = big; quads = quads }

pub zero_split : (q : List ℤ) → AreZero q → split_into 0 0 ≡ split_of q
zero_split q zeros =
    let is = zeros-split q zeros in
    ap (λ b. split_into b 0) is.0 ∙ ap (λ n. split_into (split_of q).big n) is.1

-- zeros are quantised to zeros
pub zeros_quantised : (edges amp : List ℕ) (gain : ℤ) (lines : List ℤ) → AreZero lines → AreZero (quantised_bands edges amp gain lines)
zeros_quantised edges amp gain lines zeros =
    All-from_get_or (λ q. q ≡ pos 0) (quantised_bands edges amp gain lines) (pos 0)
    (λ k lt.
    let room : k < length lines = omega (arith, quantised_bands-long edges amp gain lines) in
    let x = get_or lines k (pos 0) in
    let own = band_gain amp gain (band_of edges k) in
    quantised_bands-at edges amp gain lines k room
    ∙ quantised-none own x (ap (λ (z : ℤ). magnitude_at (unsigned_abs z) (steps_of own)) (zeros k (pos 0) room) ∙ magnitude_at-zero (steps_of own)))

-- a line of no size is 0
none_is_zero : (x : ℤ) → unsigned_abs x ≤ 0 → x ≡ pos 0
none_is_zero (pos n) le = ap pos (omega (arith, le))
none_is_zero (negsuc n) le = absurd (omega (arith, le))

-- where each band's greatest line is 0 all lines are
pub zeros_from_peaks : (rate : SampleRate) (lines : List ℤ) (peaks : List ℕ) → AreLinePeaks (band_edges rate) lines peaks →
    ((b : ℕ) → b < 22 → get_or peaks b 0 ≡ 0) → AreZero lines
unfolding edge_at
zeros_from_peaks rate lines peaks are none =
    let all = bands_cover (λ x. leb (unsigned_abs x) 0) (hertz_index_of rate) lines (index_small rate) are.long
    (λ b lt. are.peaks_are b lt 0 ∙ ap (λ p. leb p 0) (none b lt)) in
    λ k d lt. none_is_zero (get_or lines k d) ((all_at_most unsigned_abs 0 lines).0 all k d lt)
