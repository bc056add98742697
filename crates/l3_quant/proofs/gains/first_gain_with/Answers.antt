use Rattle.std.proofs.Common.{◌≡◌, ℕ, pos, arith, subst}
use Rattle.std.specs.Prelude.{unsigned_abs}
use Rattle.l3_base.specs.Bands.{band_edges}
use Rattle.l3_quant.specs.Amplified.{quantised_bands}
use Rattle.l3_quant.proofs.Codable.{codable_is_tested, one_above}
use Rattle.l3_quant.proofs.PeakLemmas.{FirstSoFar, first_codable, first_is, first_more, none_below}
use Rattle.l3_quant.proofs.gains.first_gain_with.Goals as goal

pub loop-band-preserved : goal.loop-band-preserved
loop-band-preserved c =
    first_more c.args.amp.now c.args.peaks.now c.loop-band.band c.loop-band.gain c.least_gain-gain.result c.finer_steps.result
    c.finer_steps.ensures.value c.loop-band.invariant (omega arith) c.least_gain-gain.ensures.from
    c.least_gain-gain.ensures.coded c.least_gain-gain.ensures.least

pub returns-clause-value : goal.returns-clause-value
returns-clause-value c =
    let end : c.loop-band.band ≡ 22 = omega arith in
    let first = subst (λ (b : ℕ). FirstSoFar c.args.amp.now c.args.peaks.now b c.loop-band.gain) end c.loop-band.invariant in
    first_is c.args.amp.now c.args.peaks.now c.loop-band.gain first

pub returns-clause-codable : goal.returns-clause-codable
returns-clause-codable c =
    let end : c.loop-band.band ≡ 22 = omega arith in
    let first = subst (λ (b : ℕ). FirstSoFar c.args.amp.now c.args.peaks.now b c.loop-band.gain) end c.loop-band.invariant in
    λ rate spec are. (codable_is_tested (quantised_bands (band_edges rate) c.args.amp.now (pos c.loop-band.gain) spec)).0
    (first_codable c.args.amp.now c.args.peaks.now c.loop-band.gain first rate spec are)

pub returns-clause-least : goal.returns-clause-least
returns-clause-least c =
    let end : c.loop-band.band ≡ 22 = omega arith in
    let first = subst (λ (b : ℕ). FirstSoFar c.args.amp.now c.args.peaks.now b c.loop-band.gain) end c.loop-band.invariant in
    λ rate spec are k lt. one_above unsigned_abs 8191 (quantised_bands (band_edges rate) c.args.amp.now (pos k) spec)
    (none_below c.args.amp.now c.args.peaks.now c.loop-band.gain first rate spec are k lt)
