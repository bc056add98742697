use Rattle.std.proofs.Common.{Some, refl, sym, ap}
use Rattle.l3_lanes.proofs.worker_calls.hand_in.Goals as goal

pub deposit-requires-clause-item : goal.deposit-requires-clause-item
deposit-requires-clause-item g c = (Some c.args.item, _, ap (λ m. m.1) c.exchange-old.ensures.3, (c.args.item, refl, sym c.requires.number.1))
