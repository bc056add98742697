use Rattle.std.proofs.Common.{◌≡◌, ◌<◌, true, ap, ◌∙◌, arith, length, subst, List, ℕ, ℤ, pos}
use Rattle.std.specs.Prelude.{Any, unsigned_abs}
use Rattle.std.proofs.lemmas.Bool.{OnFalse_at, OnFalse_from, OnTrue_at, OnTrue_from}
use Rattle.l3_base.specs.Rates.{hertz_index_of}
use Rattle.l3_base.specs.Bands.{edges_at}
use Rattle.l3_base.proofs.Edges.{index_small}
use Rattle.l3_quant.specs.Quantiser.{IsCodable}
use Rattle.l3_quant.specs.Amplified.{quantised_bands}
use Rattle.l3_quant.specs.Values.{AreScaled}
use Rattle.l3_quant.proofs.ValueLemmas.{bands_above, bands_scaled, bands_values, steps_at}
use Rattle.l3_quant.proofs.quantiser.all_amp.Goals as goal

pub scale_bands-requires-clause-rate : goal.scale_bands-requires-clause-rate
scale_bands-requires-clause-rate c = omega (arith, c.index.ensures, index_small c.args.rate)

-- the lines are scaled by the steps of their bands
scaled_lines : (c : goal.After-write_values) →
    AreScaled (steps_at c.index.result c.args.amp.now c.args.gain) c.lines-lines.result.now c.scale_bands.new.out
scaled_lines c =
    bands_scaled c.index.result c.args.amp.now c.args.gain c.lines-lines.result.now c.scale_bands.new.out
    (omega (arith, c.index.ensures, index_small c.args.rate)) c.scale_bands.ensures

long : (c : goal.After-write_values) → length c.lines-lines.result.now ≡ 576
long c = ap length c.lines-lines.ensures.value ∙ c.lines-lines.ensures.spectrum.long

-- where all can be coded they are the values
values : (c : goal.After-write_values) → c.write_values.result ≡ true → c.write_values.new.out ≡ quantised_bands (edges_at (hertz_index_of c.args.rate)) c.args.amp.now (pos c.args.gain) c.args.spec.now
values c whole =
    let steps = steps_at c.index.result c.args.amp.now c.args.gain in
    bands_values c.index.result c.args.amp.now c.args.gain c.lines-lines.result.now c.write_values.new.out (long c)
    c.write_values.array_long (OnTrue_at whole c.write_values.ensures.values steps (scaled_lines c))
    ∙ (ap (λ (r : ℕ). quantised_bands (edges_at r) c.args.amp.now (pos c.args.gain) c.lines-lines.result.now) c.index.ensures
    ∙ ap (quantised_bands (edges_at (hertz_index_of c.args.rate)) c.args.amp.now (pos c.args.gain)) c.lines-lines.ensures.value)

pub returns-clause-values : goal.returns-clause-values
returns-clause-values c = OnTrue_from c.write_values.result _ (values c)

pub returns-clause-codable : goal.returns-clause-codable
returns-clause-codable c =
    OnTrue_from c.write_values.result _ (λ whole. subst IsCodable (values c whole) (OnTrue_at whole c.write_values.ensures.bound))

pub returns-clause-above : goal.returns-clause-above
returns-clause-above c = OnFalse_from c.write_values.result _ (λ partly.
    let steps = steps_at c.index.result c.args.amp.now c.args.gain in
    let above = bands_above c.index.result c.args.amp.now c.args.gain c.lines-lines.result.now (long c)
    (OnFalse_at partly c.write_values.ensures.above steps (scaled_lines c)) in
    let same = ap (λ (r : ℕ). quantised_bands (edges_at r) c.args.amp.now (pos c.args.gain) c.lines-lines.result.now) c.index.ensures
    ∙ ap (quantised_bands (edges_at (hertz_index_of c.args.rate)) c.args.amp.now (pos c.args.gain)) c.lines-lines.ensures.value in
    subst (λ (q : List ℤ). Any (λ x. 8191 < unsigned_abs x) q) same above)
