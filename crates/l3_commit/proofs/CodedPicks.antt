-- The unit that is picked within a budget: it is coded,
-- within the budget, and made of the picked count.
use Rattle.std.proofs.Common.{◌≡◌, ℕ, ◌<◌, ◌≤◌, List, get_or, length, Some, refl, sym, ap, subst, ◌∙◌, arith}
use Rattle.std.specs.Prelude.{ℤ, pos, All, Any, unsigned_abs}
use Rattle.std.proofs.lemmas.List.{get_or-map, length-map}
use Rattle.l3_base.specs.Amp.{no_amp}
use Rattle.l3_base.specs.Spectrum.{IsLine}
use Rattle.l3_base.specs.declared.settings.Settings.{Settings}
use Rattle.l3_count.specs.Count.{Counted, count_of, counted}
use Rattle.l3_count.proofs.Counts.{count_of-says_at_one_gain}
use Rattle.l3_count.proofs.Memos.{no_amp-is}
use Rattle.l3_quant.specs.Quantiser.{IsCodable, magnitude, quantised, quantised_lines}
use Rattle.l3_quant.proofs.Codable.{size_of_quantised}
use Rattle.l3_search.specs.Gain.{picked, picked_gain}
use Rattle.l3_search.proofs.Fits.{counted_at, pick_there}
use Rattle.l3_stream.specs.Units.{IsCodedUnit}
use Rattle.l3_commit.specs.Units.{ChosenUnitsAreCoded, IsCountIn, unit_of, unit_within}
use Rattle.l3_base.specs.Bands.{band_edges}
use Rattle.l3_commit.proofs.CodedUnits.{coded_at_gain}

-- what is picked: the gain is one of 0 to 255, the spectrum
-- is codable there, and its count is within the budget
record IsWithin (st : Settings) (budget : ℕ) (lines : List ℤ) : Type 0 where
  pub most : picked_gain (band_edges st.sample_rate) no_amp lines budget ≤ 255
  pub codable : IsCodable (quantised_lines (pos (picked_gain (band_edges st.sample_rate) no_amp lines budget)) lines)
  pub few : (counted (band_edges st.sample_rate) no_amp (picked_gain (band_edges st.sample_rate) no_amp lines budget) (quantised_lines (pos (picked_gain (band_edges st.sample_rate) no_amp lines budget)) lines)).bits ≤ budget

picked_within : (st : Settings) (budget : ℕ) (lines : List ℤ) → All IsLine lines → IsWithin st budget lines
picked_within st budget lines small =
    let edges = band_edges st.sample_rate in
    let found = pick_there edges no_amp lines budget no_amp-is small in
    let c = found.0 in
    let says = count_of-says_at_one_gain edges lines (picked_gain edges no_amp lines budget) c found.1.count in
    let few = found.1.least.within in
    record {
      most = found.1.limit;
      codable = says.0;
      few = subst (λ (d : Counted). d.bits ≤ budget) says.1 few;
    }

pub coded_within : (st : Settings) (budget : ℕ) (lines : List ℤ) → All IsLine lines → length lines ≡ 576 → budget ≤ 4095 → IsCodedUnit st (unit_within st budget lines)
unfolding unit_within
coded_within st budget lines small long le =
    let is = picked_within st budget lines small in
    let few = is.few in
    coded_at_gain st (picked_gain (band_edges st.sample_rate) no_amp lines budget) lines long is.most is.codable (omega arith)

pub bits_within : (st : Settings) (budget : ℕ) (lines : List ℤ) → All IsLine lines → (unit_within st budget lines).length ≤ budget
unfolding unit_within
bits_within st budget lines small = (picked_within st budget lines small).few

gain_within : (st : Settings) (budget : ℕ) (lines : List ℤ) → (unit_within st budget lines).gain ≡ picked_gain (band_edges st.sample_rate) no_amp lines budget
unfolding unit_within counted
gain_within st budget lines = refl

lines_within : (st : Settings) (budget : ℕ) (lines : List ℤ) → (unit_within st budget lines).lines ≡ quantised_lines (pos (picked_gain (band_edges st.sample_rate) no_amp lines budget)) lines
unfolding unit_within
lines_within st budget lines = refl

pub units_are_coded : ChosenUnitsAreCoded
units_are_coded st budget lines small long le =
    let at = gain_within st budget lines in
    record {
      coded = coded_within st budget lines small long le;
      within = bits_within st budget lines small;
      gain_is = at;
      lines_are = lines_within st budget lines ∙ sym (ap (λ (g : ℕ). quantised_lines (pos g) lines) at);
    }

-- ---- the unit of a count that was picked

-- a count that was picked is one of the spectrum
pub picked_in : (edges : List ℕ) (budget : ℕ) (lines : List ℤ) (c : Counted) → picked edges no_amp lines budget ≡ Some c → IsCountIn lines c
picked_in edges budget lines c e =
    let at = counted_at edges no_amp lines (picked_gain edges no_amp lines budget) c e in
    (edges, subst (λ (g : ℕ). count_of edges no_amp lines g ≡ Some c) (sym at) e)

-- at the gain of a count of its own the spectrum is codable
pub count_in-codable : (lines : List ℤ) (c : Counted) → IsCountIn lines c → IsCodable (quantised_lines (pos c.gain) lines)
count_in-codable lines c own = (count_of-says_at_one_gain own.0 lines c.gain c own.1).0

-- so no value is above 8191
pub count_in-small : (lines : List ℤ) (c : Counted) (gain : ℕ) → IsCountIn lines c → gain ≡ c.gain → Any (λ x. 8191 < magnitude (pos gain) x) lines → ⊥
count_in-small lines c gain own e above =
    let i = above.0 in
    let q = quantised_lines (pos c.gain) lines in
    let within : i < length lines = above.2 in
    let lt : i < length q = omega (arith, length-map lines (quantised (pos c.gain))) in
    let small : unsigned_abs (get_or q i (pos 0)) ≤ 8191 = count_in-codable lines c own i (pos 0) lt in
    let here : get_or q i (pos 0) ≡ quantised (pos c.gain) (get_or lines i above.1) =
    get_or-map (quantised (pos c.gain)) lines i above.1 (pos 0) within in
    let size : unsigned_abs (get_or q i (pos 0)) ≡ magnitude (pos c.gain) above.1 =
    ap unsigned_abs here ∙ (size_of_quantised (pos c.gain) (get_or lines i above.1) ∙ ap (magnitude (pos c.gain)) above.3) in
    let same : magnitude (pos gain) above.1 ≡ magnitude (pos c.gain) above.1 = ap (λ (g : ℕ). magnitude (pos g) above.1) e in
    omega (arith, above.4)

-- the unit of the picked count is the unit within the budget
pub unit_of_picked : (st : Settings) (budget : ℕ) (lines : List ℤ) (c : Counted) → picked (band_edges st.sample_rate) no_amp lines budget ≡ Some c →
    unit_of c (quantised_lines (pos c.gain) lines) ≡ unit_within st budget lines
unfolding unit_within
unit_of_picked st budget lines c e =
    let edges = band_edges st.sample_rate in
    let gain = picked_gain edges no_amp lines budget in
    let q = quantised_lines (pos gain) lines in
    let at = counted_at edges no_amp lines gain c e in
    let says = count_of-says_at_one_gain edges lines gain c e in
    ap (λ (g : ℕ). unit_of c (quantised_lines (pos g) lines)) at ∙ ap (λ (d : Counted). unit_of d q) says.1
