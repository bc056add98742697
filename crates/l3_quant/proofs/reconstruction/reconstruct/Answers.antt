use Rattle.std.proofs.Common.{rules, FitsSigned, w16, ◌≡◌, ◌%◌, ◌<◌, ◌^◌, ap, ◌∙◌, arith}
use Rattle.std.specs.Prelude.{unsigned_abs}
use Rattle.std.proofs.lemmas.Int.{ints, to_z-of_z}
use Rattle.l3_quant.specs.Quantiser.{steps_of}
use Rattle.l3_quant.specs.Reconstruction.{four_thirds_of}
use Rattle.l3_quant.proofs.FourThirds.{IsReconstructed, reconstructed_is}
use Rattle.l3_quant.proofs.Scales.{factor}
use Rattle.l3_quant.proofs.reconstruction.reconstruct.Goals as goal

-- the division that the code makes
divided : (c : goal.After-from-factor) → IsReconstructed c.args.n c.from-power.result c.from-factor.result c.steps-h.result c.args.gain
divided c =
    let fits : FitsSigned w16 c.args.gain = search rules in
    let steps : c.steps-h.result ≡ steps_of c.args.gain = c.steps-h.ensures.value ∙ ap steps_of (to_z-of_z w16 c.args.gain fits) in
    let power : c.from-power.result ≡ four_thirds_of c.args.n =
    c.from-power.ensures ∙ (c.four_thirds.ensures.value ∙ ap four_thirds_of c.from.ensures) in
    let quarter : c.unsigned_abs.result ≡ unsigned_abs c.quarter.result = omega (arith, ints) in
    let is : c.from-factor.result ≡ factor (c.steps-h.result % 4) =
    c.from-factor.ensures ∙ (quarter ∙ ap unsigned_abs c.quarter.ensures.value) in
    let small : c.from-power.result < 2 ^ 30 = omega (arith, c.four_thirds.ensures.small, c.from-power.ensures) in
    reconstructed_is c.args.n c.from-power.result c.from-factor.result c.steps-h.result c.args.gain power small is steps c.steps-h.ensures.bound

pub nonzero_div-result-2 : goal.nonzero_div-result-2
nonzero_div-result-2 c = (divided c).divides

pub overflow_cast-result-2 : goal.overflow_cast-result-2
overflow_cast-result-2 c = record { fits = omega (arith, (divided c).small) }

pub returns-clause-value : goal.returns-clause-value
returns-clause-value c = (divided c).value

pub returns-clause-bound : goal.returns-clause-bound
returns-clause-bound c = (divided c).small
