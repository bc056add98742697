use Rattle.std.proofs.Common.{Some, refl, ap}
use Rattle.l3_lanes.proofs.desk_calls.swap_out.Goals as goal

pub give_back-requires-clause-item : goal.give_back-requires-clause-item
give_back-requires-clause-item g c = (Some c.args.spare, _, ap (λ m. m.1) c.exchange-found.ensures.3, (c.args.spare, refl))
