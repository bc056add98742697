use Rattle.l3_speculation.proofs.Steps.{event-step, none-sound, one-sound}
use Rattle.l3_speculation.proofs.calls.event_is_a_step.Goals as goal

pub returns-in-Offer : goal.returns-in-Offer
returns-in-Offer c = record { step = event-step c.args.board.now c.offer.new.self c.args.event _ _ c.in-Offer.is (one-sound c.in-Offer.item c.look_at.ensures) c.offer.ensures.step }

pub returns-in-Claim : goal.returns-in-Claim
returns-in-Claim c = record { step = event-step c.args.board.now c.claim.new.self c.args.event _ _ c.in-Claim.is none-sound c.claim.ensures.step }

pub returns-in-Deposit : goal.returns-in-Deposit
returns-in-Deposit c = record { step = event-step c.args.board.now c.deposit.new.self c.args.event _ _ c.in-Deposit.is (one-sound c.in-Deposit.item c.look_at-in-Deposit.ensures) c.deposit.ensures.step }

pub returns-in-Take : goal.returns-in-Take
returns-in-Take c = record { step = event-step c.args.board.now c.take.new.self c.args.event _ _ c.in-Take.is (one-sound c.in-Take.spare c.look_at-in-Take.ensures) c.take.ensures.step }

pub returns-in-Shut : goal.returns-in-Shut
returns-in-Shut c = record { step = event-step c.args.board.now c.shut.new.self c.args.event _ _ c.in-Shut.is none-sound c.shut.ensures }
