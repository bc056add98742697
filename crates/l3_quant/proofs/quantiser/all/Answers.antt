use Rattle.std.proofs.Common.{rules, FitsSigned, w16, true, ◌≡◌, ◌<◌, ◌^◌, ap, ◌∙◌, get_or, length, min, subst, List, ℤ, pos}
use Rattle.std.specs.Prelude.{Any, unsigned_abs}
use Rattle.std.proofs.lemmas.Bool.{OnFalse_at, OnFalse_from, OnTrue_at, OnTrue_from}
use Rattle.std.proofs.lemmas.Int.{to_z-of_z}
use Rattle.l3_quant.specs.Quantiser.{IsCodable, magnitude, quantised_lines, scaled, steps_of}
use Rattle.l3_quant.specs.Values.{AreScaled}
use Rattle.l3_quant.proofs.ValueLemmas.{one_gain_above, one_gain_values}
use Rattle.l3_quant.proofs.quantiser.all.Goals as goal

-- the lines are scaled by the steps of the gain
scaled_lines : (c : goal.After-write_values) → AreScaled (λ _. steps_of c.args.gain) c.lines-lines.result.now c.scale_lines.new.out
scaled_lines c =
    let fits : FitsSigned w16 c.args.gain = search rules in
    let steps : c.steps.result ≡ steps_of c.args.gain = c.steps.ensures.value ∙ ap steps_of (to_z-of_z w16 c.args.gain fits) in
    λ k lt. c.scale_lines.ensures k lt
    ∙ ap (λ h. min (scaled (unsigned_abs (get_or c.lines-lines.result.now k (pos 0))) h) (2 ^ 30)) steps

long : (c : goal.After-write_values) → length c.lines-lines.result.now ≡ 576
long c = ap length c.lines-lines.ensures.value ∙ c.lines-lines.ensures.spectrum.long

-- where all can be coded they are the values
values : (c : goal.After-write_values) → c.write_values.result ≡ true → c.write_values.new.out ≡ quantised_lines c.args.gain c.args.spec.now
values c whole =
    subst (λ (xs : List ℤ). c.write_values.new.out ≡ quantised_lines c.args.gain xs) c.lines-lines.ensures.value
    (one_gain_values c.args.gain c.lines-lines.result.now c.write_values.new.out (long c) c.write_values.array_long
    (OnTrue_at whole c.write_values.ensures.values (λ _. steps_of c.args.gain) (scaled_lines c)))

pub returns-clause-values : goal.returns-clause-values
returns-clause-values c = OnTrue_from c.write_values.result _ (values c)

pub returns-clause-codable : goal.returns-clause-codable
returns-clause-codable c =
    OnTrue_from c.write_values.result _ (λ whole. subst IsCodable (values c whole) (OnTrue_at whole c.write_values.ensures.bound))

pub returns-clause-above : goal.returns-clause-above
returns-clause-above c = OnFalse_from c.write_values.result _ (λ partly.
    subst (λ (xs : List ℤ). Any (λ x. 8191 < magnitude c.args.gain x) xs) c.lines-lines.ensures.value
    (one_gain_above c.args.gain c.lines-lines.result.now (long c)
    (OnFalse_at partly c.write_values.ensures.above (λ _. steps_of c.args.gain) (scaled_lines c))))
