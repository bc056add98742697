use Rattle.l3_speculation.proofs.Steps.{granule-step}
use Rattle.l3_speculation.proofs.calls.granule_is_a_step.Goals as goal

pub returns-clause-step : goal.returns-clause-step
returns-clause-step g c =
    let e = c.commit_granule-done.ensures in
    let r = c.requires in
    granule-step c.args.track.now c.commit_granule-done.new.self c.args.piece.now _ r.number r.turn r.stage r.settings c.number-number.ensures.sound e.value e.made e.tried
