use Rattle.std.proofs.Common.{rules, FitsSigned, w16, to_z, of_z, arith, ap, sym, ◌≡◌, ◌∙◌, ◌+◌, List, ℤ, pos}
use Rattle.std.proofs.lemmas.Int.{to_z-of_z}
use Rattle.std.specs.Prelude.{slice_range}
use Rattle.std.specs.List.{sum_by}
use Rattle.l3_base.specs.Bands.{edge_at}
use Rattle.l3_base.proofs.Edges.{edge_rises}
use Rattle.l3_quant.specs.Quantiser.{quantised_lines}
use Rattle.l3_quant.specs.Amplified.{band_gain}
use Rattle.l3_quant.proofs.BandLemmas.{quantised_bands-band}
use Rattle.l3_search.specs.Noise.{noise_of, noise_of_line}
use Rattle.l3_search.proofs.band_noise.band_noise.Goals as goal

pub slice_bounds-sum_of_noise-count : goal.slice_bounds-sum_of_noise-count
slice_bounds-sum_of_noise-count c = omega (arith, edge_rises c.args.rate c.args.band c.requires.rate c.requires.band)

pub slice_bounds-sum_of_noise-start : goal.slice_bounds-sum_of_noise-start
slice_bounds-sum_of_noise-start c = omega (arith, edge_rises c.args.rate c.args.band c.requires.rate c.requires.band)

pub slice_bounds-sum_of_noise-count-2 : goal.slice_bounds-sum_of_noise-count-2
slice_bounds-sum_of_noise-count-2 c = omega (arith, edge_rises c.args.rate c.args.band c.requires.rate c.requires.band)

pub slice_bounds-sum_of_noise-start-2 : goal.slice_bounds-sum_of_noise-start-2
slice_bounds-sum_of_noise-start-2 c = omega (arith, edge_rises c.args.rate c.args.band c.requires.rate c.requires.band)

-- a part of a list by the band's edges
part : (c : goal.After-gain_of_band) (xs : List ℤ) → slice_range xs c.from-from.result c.from-to.result
    ≡ slice_range xs (edge_at c.args.rate c.args.band) (edge_at c.args.rate (c.args.band + 1))
part c xs =
    ap (λ from. slice_range xs from c.from-to.result) (c.from-from.ensures ∙ c.edge.ensures.value)
    ∙ ap (slice_range xs (edge_at c.args.rate c.args.band)) (c.from-to.ensures ∙ c.edge-2.ensures.value)

gain_is : (c : goal.After-gain_of_band) → to_z w16 (of_z w16 c.gain_of_band.result) ≡ band_gain c.args.amp.now (pos c.args.gain) c.args.band
gain_is c =
    let fits : FitsSigned w16 c.gain_of_band.result = search rules in
    to_z-of_z w16 c.gain_of_band.result fits ∙ c.gain_of_band.ensures.value

pub sum_of_noise-requires-clause-values : goal.sum_of_noise-requires-clause-values
sum_of_noise-requires-clause-values c =
    let from = edge_at c.args.rate c.args.band in
    let to = edge_at c.args.rate (c.args.band + 1) in
    part c c.args.values.now
    ∙ (ap (λ q. slice_range q from to) c.requires.values
    ∙ (quantised_bands-band c.args.rate c.args.band c.args.amp.now (pos c.args.gain) c.args.lines.now c.requires.rate c.requires.band
    ∙ (ap (λ g. quantised_lines g (slice_range c.args.lines.now from to)) (sym (gain_is c))
    ∙ ap (quantised_lines (to_z w16 (of_z w16 c.gain_of_band.result))) (sym (part c c.args.lines.now)))))

pub returns-clause-value : goal.returns-clause-value
unfolding noise_of
returns-clause-value c =
    let lines = c.args.lines.now in
    let from = edge_at c.args.rate c.args.band in
    let to = edge_at c.args.rate (c.args.band + 1) in
    let start = c.from-from.ensures ∙ c.edge.ensures.value in
    let end = c.from-to.ensures ∙ c.edge-2.ensures.value in
    let fits : FitsSigned w16 c.gain_of_band.result = search rules in
    let gain = to_z-of_z w16 c.gain_of_band.result fits ∙ c.gain_of_band.ensures.value in
    c.sum_of_noise.ensures.value
    ∙ (ap (λ f. sum_by (noise_of_line (to_z w16 (of_z w16 c.gain_of_band.result))) (slice_range lines f c.from-to.result)) start
    ∙ (ap (λ t. sum_by (noise_of_line (to_z w16 (of_z w16 c.gain_of_band.result))) (slice_range lines from t)) end
    ∙ ap (λ g. sum_by (noise_of_line g) (slice_range lines from to)) gain))
