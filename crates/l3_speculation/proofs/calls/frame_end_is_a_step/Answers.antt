use Rattle.l3_speculation.proofs.Steps.{frame-step}
use Rattle.l3_speculation.proofs.calls.frame_end_is_a_step.Goals as goal

pub returns : goal.returns
returns c =
    let frame = c.commit_frame-frame in
    record { step = frame-step c.args.track.now frame.follows.lender-at-none _ c.requires.turn frame.ensures.frame frame.follows.holds-at-none }
