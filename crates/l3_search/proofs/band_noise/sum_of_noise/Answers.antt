use Rattle.std.proofs.Common.{rules, FitsSigned, w16, w32, to_z, of_z, ◌≡◌, arith, ap, sym, ◌∙◌, get_or, pos}
use Rattle.std.specs.List.{sum_by}
use Rattle.std.proofs.lemmas.Int.{to_z-of_z}
use Rattle.std.proofs.lemmas.List.{get_or-map, take_all}
use Rattle.std.proofs.lemmas.List.Sums.{sum_by_more}
use Rattle.l3_quant.specs.Quantiser.{quantised}
use Rattle.l3_search.specs.Noise.{noise_of_line}
use Rattle.l3_search.proofs.Rebuilt.{noise_of_value-same}
use Rattle.l3_search.proofs.band_noise.sum_of_noise.Goals as goal

pub loop-i-preserved : goal.loop-i-preserved
loop-i-preserved c =
    let i = c.loop-i.i in
    let lines = c.args.lines.now in
    let gain = to_z w16 (of_z w16 c.args.gain) in
    let x = get_or lines i (pos 0) in
    let q = get_or c.args.values.now i (pos 0) in
    let g_fits : FitsSigned w16 c.args.gain = search rules in
    let x_fits : FitsSigned w32 x = search rules in
    let q_fits : FitsSigned w16 q = search rules in
    let g_is = to_z-of_z w16 c.args.gain g_fits in
    let value : to_z w16 (of_z w16 q) ≡ quantised gain x =
    to_z-of_z w16 q q_fits ∙ (ap (λ qs. get_or qs i (pos 0)) c.requires.values
    ∙ (get_or-map (quantised c.args.gain) lines i (pos 0) (pos 0) c.loop-i-test.true ∙ ap (λ g. quantised g x) (sym g_is))) in
    let here = c.line_noise-sum.ensures.value
    ∙ noise_of_value-same c.step_of-step.result.gain gain (to_z w32 (of_z w32 x)) x (to_z w16 (of_z w16 q))
    c.step_of-step.ensures.gain_is (to_z-of_z w32 x x_fits) value in
    let more = sum_by_more (noise_of_line gain) lines i (pos 0) c.loop-i-test.true in
    record {
      value = omega (arith, more, here, c.loop-i.invariant.value);
      bound = omega (arith, c.loop-i.invariant.bound, c.line_noise-sum.ensures.bound);
    }

pub returns-clause-value : goal.returns-clause-value
returns-clause-value c =
    let lines = c.args.lines.now in
    let g_fits : FitsSigned w16 c.args.gain = search rules in
    c.loop-i.invariant.value
    ∙ (ap (sum_by (noise_of_line (to_z w16 (of_z w16 c.args.gain)))) (take_all c.loop-i.i lines c.loop-i-test.false)
    ∙ ap (λ g. sum_by (noise_of_line g) lines) (to_z-of_z w16 c.args.gain g_fits))
