-- Where all values can be coded, and the classes of bands.
use Rattle.std.proofs.Common.{◌≡◌, ℕ, ◌+◌, ◌*◌, ◌<◌, ◌≤◌, leb, ℤ, pos, List, get_or, arith, refl, sym, ◌∙◌, subst, inl, inr}
use Rattle.std.specs.Prelude.{unsigned_abs, slice_range, nat_le}
use Rattle.std.proofs.lemmas.Bool.{cases_lt, le-leb, lt-leb, true≢false}
use Rattle.l3_base.specs.declared.rate.SampleRate.{SampleRate}
use Rattle.l3_base.specs.Rates.{hertz_index_of}
use Rattle.l3_base.specs.Bands.{band_edges, edge_at}
use Rattle.l3_base.proofs.Edges.{edge_rises, index_small}
use Rattle.l3_huff.specs.Tables.{greatest_of}
use Rattle.l3_quant.specs.Quantiser.{magnitude_at, IsCodable}
use Rattle.l3_quant.specs.Amplified.{quantised_bands}
use Rattle.l3_quant.specs.Magnitudes.{AreLinePeaks}
use Rattle.l3_quant.proofs.Codable.{codable_is_tested}
use Rattle.l3_quant.proofs.BandLemmas.{quantised_bands-long}
use Rattle.l3_quant.proofs.PeakLemmas.{band_peak, bands_cover, slice-fails}
use Rattle.l3_region.specs.Lanes.{IsClass, lane_class, lane_table}
use Rattle.l3_count.specs.Planes.{IsPlane, key_at}
use Rattle.l3_count.specs.Marks.{band_steps}
use Rattle.l3_count.specs.Classes.{AreClassPlanes, least_at}

last_least : least_at 13 ≡ 8192
unfolding least_at
last_least = refl

-- row 13 has the planes of 8192
first_is : (peaks planes : List ℕ) (b : ℕ) → b < 22 → AreClassPlanes peaks planes → IsPlane 8192 (get_or peaks b 0) (get_or planes (416 + b) 0)
first_is peaks planes b lt are =
    let e : 32 * 13 + b ≡ 416 + b = omega arith in
    subst (λ (n : ℕ). IsPlane n (get_or peaks b 0) (get_or planes (416 + b) 0)) last_least
    (subst (λ (i : ℕ). IsPlane (least_at 13) (get_or peaks b 0) (get_or planes i 0)) e (are.is 13 (omega arith) b lt))

pub first_few : (peaks planes : List ℕ) (b h key : ℕ) → b < 22 → AreClassPlanes peaks planes → key ≡ key_at h → get_or planes (416 + b) 0 < key → magnitude_at (get_or peaks b 0) h ≤ 8191
first_few peaks planes b h key lt are same under =
    elim (cases_lt 8191 (magnitude_at (get_or peaks b 0) h)) [
      | inl over ↦ (let le : key_at h ≤ get_or planes (416 + b) 0 = ((first_is peaks planes b lt are).reaches h).1 (omega arith) in absurd (omega (arith, le, same, under)))
      | inr few ↦ few
    ]

pub first_below : (peaks planes : List ℕ) (b h key : ℕ) → b < 22 → AreClassPlanes peaks planes → key ≡ key_at h → magnitude_at (get_or peaks b 0) h ≤ 8191 → get_or planes (416 + b) 0 < key
first_below peaks planes b h key lt are same few =
    elim (cases_lt (get_or planes (416 + b) 0) key) [
      | inl under ↦ under
      | inr at ↦ (let le : key_at h ≤ get_or planes (416 + b) 0 = omega (arith, same, at) in let over : 8192 ≤ magnitude_at (get_or peaks b 0) h = ((first_is peaks planes b lt are).reaches h).0 le in absurd (omega arith))
    ]

-- values can be coded where each band's greatest can
pub codable_from : (rate : SampleRate) (amp : List ℕ) (gain : ℕ) (lines : List ℤ) (peaks : List ℕ) → AreLinePeaks (band_edges rate) lines peaks →
    ((b : ℕ) → b < 22 → magnitude_at (get_or peaks b 0) (band_steps amp gain b) ≤ 8191) → IsCodable (quantised_bands (band_edges rate) amp (pos gain) lines)
codable_from rate amp gain lines peaks are few =
    let q = quantised_bands (band_edges rate) amp (pos gain) lines in
    (codable_is_tested q).0 (bands_cover (λ x. leb (unsigned_abs x) 8191) (hertz_index_of rate) q (index_small rate) (quantised_bands-long (band_edges rate) amp (pos gain) lines ∙ are.long)
    (λ b lt. band_peak rate amp (pos gain) lines peaks b lt are 8191 ∙ le-leb _ 8191 (few b lt)))

pub codable_to : (rate : SampleRate) (amp : List ℕ) (gain : ℕ) (lines : List ℤ) (peaks : List ℕ) (b : ℕ) → b < 22 → AreLinePeaks (band_edges rate) lines peaks →
    IsCodable (quantised_bands (band_edges rate) amp (pos gain) lines) → magnitude_at (get_or peaks b 0) (band_steps amp gain b) ≤ 8191
codable_to rate amp gain lines peaks b lt are codable =
    let q = quantised_bands (band_edges rate) amp (pos gain) lines in
    let index = hertz_index_of rate in
    elim (cases_lt 8191 (magnitude_at (get_or peaks b 0) (band_steps amp gain b))) [
      | inl above ↦
          absurd (true≢false (sym ((codable_is_tested q).1 codable)
          ∙ slice-fails (λ x. leb (unsigned_abs x) 8191) q (edge_at index b) (edge_at index (b + 1)) (omega (arith, edge_rises index b (index_small rate) lt))
          (band_peak rate amp (pos gain) lines peaks b lt are 8191 ∙ lt-leb _ 8191 above)))
      | inr few ↦ few
    ]

-- the class of a band's greatest value is that of the band
pub band_class : (rate : SampleRate) (amp : List ℕ) (gain : ℕ) (lines : List ℤ) (peaks : List ℕ) (b class : ℕ) → b < 22 → AreLinePeaks (band_edges rate) lines peaks →
    ((k : ℕ) → k < 24 → nat_le (magnitude_at (get_or peaks b 0) (band_steps amp gain b)) (greatest_of (lane_table k)) ≡ nat_le class (lane_class k)) →
    IsClass (slice_range (quantised_bands (band_edges rate) amp (pos gain) lines) (get_or (band_edges rate) b 0) (get_or (band_edges rate) (b + 1) 0)) class
unfolding edge_at
band_class rate amp gain lines peaks b class lt are each k room =
    band_peak rate amp (pos gain) lines peaks b lt are (greatest_of (lane_table k)) ∙ each k room
