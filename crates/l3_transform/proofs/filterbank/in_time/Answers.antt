use Rattle.std.proofs.Common.{◌≡◌, ◌-◌, arith, ap, ◌∙◌}
use Rattle.l3_base.specs.Lists.{entry}
use Rattle.l3_transform.proofs.filterbank.in_time.Goals as goal

pub returns-clause-value : goal.returns-clause-value
returns-clause-value c = λ n lt.
    let place : 511 - (511 - n) ≡ n = omega arith in
    c.loop-n.invariant.value (511 - n) (omega arith) ∙ ap (entry c.args.window.now) place
