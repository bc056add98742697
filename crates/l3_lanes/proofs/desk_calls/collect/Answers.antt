use Rattle.std.proofs.Common.{refl, ap, ◌∙◌}
use Rattle.l3_lanes.specs.declared.view.View.{View}
use Rattle.l3_lanes.specs.declared.view.Tell.TheVariants.{Held, ToldReady, Free}
use Rattle.l3_lanes.proofs.ViewLemmas.{tells_at, after_one, after_then}
use Rattle.l3_lanes.proofs.desk_calls.collect.Goals as goal

pub swap_out-requires-clause-desk : goal.swap_out-requires-clause-desk
swap_out-requires-clause-desk g c =
    let took = c.take_ready.ensures.told.0 in
    (ap (λ (v : View). v.desk) took ∙ c.requires.desk.0, tells_at c.args.token.now.me.0.view c.take_ready.new.seat.me.0.view c.args.cell 0 Held (ToldReady c.args.number) c.requires.desk.2 took)

pub returns-clause-after : goal.returns-clause-after
returns-clause-after g c =
    let took = c.take_ready.ensures.told.0 in
    after_then c.args.token.now.me.0.view c.take_ready.new.seat.me.0.view c.swap_out.new.token.me.0.view c.args.cell Held Free
    (after_one c.args.token.now.me.0.view c.take_ready.new.seat.me.0.view c.args.cell 0 Held Held took refl) c.swap_out.ensures.after
