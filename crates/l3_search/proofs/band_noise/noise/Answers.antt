use Rattle.std.proofs.Common.{arith, ap, sym, subst, ◌≡◌, ◌∙◌, true, inl, inr, ℕ, pos}
use Rattle.std.proofs.lemmas.Bool.{cases_Bool, OnFalse_at, OnTrue_at}
use Rattle.l3_base.specs.Rates.{hertz_index_of}
use Rattle.l3_base.specs.Bands.{band_edges, edges_at}
use Rattle.l3_base.proofs.ListLemmas.{tabulate-entries}
use Rattle.l3_quant.specs.Quantiser.{IsCodable}
use Rattle.l3_quant.specs.Amplified.{quantised_bands}
use Rattle.l3_search.specs.Noise.{noise_of, noises_of}
use Rattle.l3_search.proofs.CodedLemmas.{codable-from_count, codable-not_above}
use Rattle.l3_search.proofs.band_noise.noise.Goals as goal

-- all values can be coded
whole : (c : goal.After-amp-in-loop-band-1) → c.all_amp-coded.result ≡ true
whole c =
    let count = c.args.count.now in
    let edges = band_edges c.args.rate in
    let spec = c.args.spec.now in
    let codable = codable-from_count edges count.amp spec count.gain count c.requires in
    let same : quantised_bands edges c.amp-amp.result (pos c.gain-gain.result) spec ≡ quantised_bands edges count.amp (pos count.gain) spec =
    ap (λ a. quantised_bands edges a (pos c.gain-gain.result) spec) c.amp-amp.ensures.value
    ∙ ap (λ g. quantised_bands edges count.amp (pos g) spec) c.gain-gain.ensures.value in
    elim (cases_Bool c.all_amp-coded.result) [
      | inl e ↦ e
      | inr e ↦ absurd (codable-not_above _ (subst IsCodable (sym same) codable) (OnFalse_at e c.all_amp-coded.ensures.above))
    ]

pub band_noise-requires-clause-values : goal.band_noise-requires-clause-values
band_noise-requires-clause-values c =
    let amp = c.amp-amp.result in
    let gain = c.gain-gain.result in
    OnTrue_at (whole c) c.all_amp-coded.ensures.values
    ∙ (ap (λ (r : ℕ). quantised_bands (edges_at r) amp (pos gain) c.args.spec.now) (sym c.index-index.ensures)
    ∙ ap (quantised_bands (edges_at c.index-index.result) amp (pos gain)) (sym c.lines-lines.ensures.value))

pub band_noise-requires-clause-codable : goal.band_noise-requires-clause-codable
band_noise-requires-clause-codable c = OnTrue_at (whole c) c.all_amp-coded.ensures.bound

pub returns-clause-value : goal.returns-clause-value
unfolding noises_of
returns-clause-value c =
    let rate = c.index-index.result in
    let amp = c.amp-amp.result in
    let gain = c.gain-gain.result in
    let lines = c.lines-lines.result.now in
    let count = c.args.count.now in
    let own = hertz_index_of c.args.rate in
    tabulate-entries 22 (noise_of rate amp gain lines) 0 c.loop-band.out c.loop-band.invariant.long
    (λ k lt. c.loop-band.invariant.value k (omega arith))
    ∙ (ap (λ (r : ℕ). noises_of r amp gain lines) c.index-index.ensures
    ∙ (ap (λ a. noises_of own a gain lines) c.amp-amp.ensures.value
    ∙ (ap (λ g. noises_of own count.amp g lines) c.gain-gain.ensures.value
    ∙ ap (noises_of own count.amp count.gain) c.lines-lines.ensures.value)))
