-- What planes give of the quantised values of a spectrum is what the choice of regions needs to
-- know of them.
use Rattle.std.proofs.Common.{◌≡◌, ◌+◌, ◌<◌, ℕ, List, length, ℤ, pos, get_or, ◌∙◌, arith, false}
use Rattle.std.specs.Prelude.{slice_range}
use Rattle.std.proofs.lemmas.Bool.{false_from_ne_true}
use Rattle.l3_quant.specs.Quantiser.{is_codable, IsCodable}
use Rattle.l3_quant.proofs.Codable.{codable_is_tested}
use Rattle.l3_quant.specs.Amplified.{quantised_bands}
use Rattle.l3_quant.proofs.BandLemmas.{quantised_bands-long}
use Rattle.l3_region.specs.Lanes.{IsClass}
use Rattle.l3_region.specs.Pairs.{ArePairsOf}
use Rattle.l3_count.specs.Marks.{ArePacked}

pub quantised_pairs : (edges amp : List ℕ) (gain : ℕ) (lines : List ℤ) (pairs classes : List ℕ) →
    length lines ≡ 576 →
    IsCodable (quantised_bands edges amp (pos gain) lines) →
    ArePacked (quantised_bands edges amp (pos gain) lines) pairs →
    ((b : ℕ) → b < 22 → IsClass (slice_range (quantised_bands edges amp (pos gain) lines) (get_or edges b 0) (get_or edges (b + 1) 0)) (get_or classes b 0)) →
    ((b : ℕ) → b < 32 → get_or classes b 0 < 14) →
    ArePairsOf edges (quantised_bands edges amp (pos gain) lines) pairs classes
quantised_pairs edges amp gain lines pairs classes long codable packed classed few = record {
  long = quantised_bands-long edges amp (pos gain) lines ∙ long;
  codable = codable;
  pairs_are = packed;
  classed = classed;
  few = λ b lt. few b (omega arith);
}

-- values that cannot be coded fail their test
pub not_codable : (values : List ℤ) → (IsCodable values → ⊥) → is_codable values ≡ false
not_codable values never = false_from_ne_true _ (λ e. never ((codable_is_tested values).0 e))
