use Rattle.std.proofs.Common.{◌<◌, length, ap, arith}
use Rattle.l3_lanes.specs.declared.view.View.{View}
use Rattle.l3_lanes.specs.Calls.{seat_view}
use Rattle.l3_lanes.proofs.NoteLemmas.{notes_one}
use Rattle.l3_lanes.proofs.SearchLemmas.{tried_after, lost_after}
use Rattle.l3_lanes.proofs.seats.LaneBoard.claim.Goals as goal

pub returns-in-Some-clause-tried : goal.returns-in-Some-clause-tried
returns-in-Some-clause-tried g c = λ k low.
    let within : c.from.result < length c.args.seat.now.token.me.0.view.notes = let p = c.requires.made.1.places in let q = c.from.ensures in grind arith in
    let noted = notes_one c.from.result c.load.result c.args.seat.now.token.me.0.view c.load.new.seat.me.0.view within (ap (λ (v : View). v.notes) c.load.ensures.told.0) in
    tried_after k c.args.seat.now.token.me.0.view c.load.new.seat.me.0.view (seat_view c.try_all.new.seat) (noted.elsewhere k (let q = c.from.ensures in grind arith)) (c.in-Some.ensures.tried k low)

pub returns-in-None-clause-tried : goal.returns-in-None-clause-tried
returns-in-None-clause-tried g c = λ k low.
    let within : c.from.result < length c.args.seat.now.token.me.0.view.notes = let p = c.requires.made.1.places in let q = c.from.ensures in grind arith in
    let noted = notes_one c.from.result c.load.result c.args.seat.now.token.me.0.view c.load.new.seat.me.0.view within (ap (λ (v : View). v.notes) c.load.ensures.told.0) in
    tried_after k c.args.seat.now.token.me.0.view c.load.new.seat.me.0.view (seat_view c.try_all.new.seat) (noted.elsewhere k (let q = c.from.ensures in grind arith)) (c.in-None.ensures.tried k low)

pub returns-in-None-clause-lost : goal.returns-in-None-clause-lost
returns-in-None-clause-lost g c = λ _ k low.
    let within : c.from.result < length c.args.seat.now.token.me.0.view.notes = let p = c.requires.made.1.places in let q = c.from.ensures in grind arith in
    let noted = notes_one c.from.result c.load.result c.args.seat.now.token.me.0.view c.load.new.seat.me.0.view within (ap (λ (v : View). v.notes) c.load.ensures.told.0) in
    lost_after k c.args.seat.now.token.me.0.view c.load.new.seat.me.0.view (seat_view c.try_all.new.seat) (noted.elsewhere k (let q = c.from.ensures in grind arith)) (c.in-None.ensures.lost k low)
