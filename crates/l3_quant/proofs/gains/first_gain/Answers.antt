use Rattle.std.proofs.Common.{List, ℤ, pos, arith, subst}
use Rattle.l3_base.specs.Peaks.{IsPeak}
use Rattle.l3_quant.specs.Quantiser.{magnitude, quantised_lines}
use Rattle.l3_quant.proofs.Codable.{codable_is_tested, one_above}
use Rattle.l3_quant.proofs.PeakLemmas.{one_peak_above, one_peak_codable, one_peak_first}
use Rattle.l3_quant.proofs.gains.first_gain.Goals as goal

pub returns-clause-value : goal.returns-clause-value
returns-clause-value c =
    let is = subst (λ (lines : List ℤ). IsPeak lines c.peak.result) c.lines.ensures.value c.peak.ensures.value in
    λ edges. one_peak_first edges c.args.spec.now c.peak.result c.least_gain.result (omega arith) is
    c.least_gain.ensures.coded c.least_gain.ensures.least

pub returns-clause-codable : goal.returns-clause-codable
returns-clause-codable c =
    let is = subst (λ (lines : List ℤ). IsPeak lines c.peak.result) c.lines.ensures.value c.peak.ensures.value in
    (codable_is_tested (quantised_lines (pos c.least_gain.result) c.args.spec.now)).0
    (one_peak_codable c.args.spec.now c.peak.result c.least_gain.result (omega arith) is c.least_gain.ensures.coded)

pub returns-clause-least : goal.returns-clause-least
returns-clause-least c =
    let is = subst (λ (lines : List ℤ). IsPeak lines c.peak.result) c.lines.ensures.value c.peak.ensures.value in
    λ k lt. one_above (magnitude (pos k)) 8191 c.args.spec.now
    (one_peak_above c.args.spec.now c.peak.result k (omega (arith, lt)) is (c.least_gain.ensures.least k (omega arith) lt))
