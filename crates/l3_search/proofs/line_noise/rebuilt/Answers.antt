use Rattle.std.proofs.Common.{◌≡◌, ◌*◌}
use Rattle.l3_search.proofs.Rebuilt.{rebuilt_is}
use Rattle.l3_search.proofs.line_noise.rebuilt.Goals as goal

pub nonzero_div-result : goal.nonzero_div-result
nonzero_div-result c =
    let product : c.in-Some.product ≡ c.power.result * c.args.step.now.doubled = c.in-Some.ensures.1 in
    let is = rebuilt_is c.args.n c.power.result c.args.step.now.doubled c.args.step.now.factor c.in-Some.product c.args.step.now.gain
    c.requires.value c.power.ensures.value c.requires.step.doubled_is c.requires.step.factor_is product in
    is.divides

pub returns-in-Some-clause-value : goal.returns-in-Some-clause-value
returns-in-Some-clause-value c =
    let product : c.in-Some.product ≡ c.power.result * c.args.step.now.doubled = c.in-Some.ensures.1 in
    let is = rebuilt_is c.args.n c.power.result c.args.step.now.doubled c.args.step.now.factor c.in-Some.product c.args.step.now.gain
    c.requires.value c.power.ensures.value c.requires.step.doubled_is c.requires.step.factor_is product in
    is.value

pub returns-in-Some-clause-bound : goal.returns-in-Some-clause-bound
returns-in-Some-clause-bound c =
    let product : c.in-Some.product ≡ c.power.result * c.args.step.now.doubled = c.in-Some.ensures.1 in
    let is = rebuilt_is c.args.n c.power.result c.args.step.now.doubled c.args.step.now.factor c.in-Some.product c.args.step.now.gain
    c.requires.value c.power.ensures.value c.requires.step.doubled_is c.requires.step.factor_is product in
    is.small
