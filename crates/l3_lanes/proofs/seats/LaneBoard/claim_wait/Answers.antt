use Rattle.std.proofs.Common.{true, false, ◌≢◌, ℕ, ◌%◌, List, ◌∷◌, ap, ◌∙◌, refl}
use Rattle.std.proofs.lemmas.List.Elements.{All-cons}
use Rattle.l3_lanes.specs.Views.{words_at}
use Rattle.l3_lanes.specs.Calls.{seat_view, seat_past}
use Rattle.l3_lanes.proofs.HistoryLemmas.{waited_more, sees_waited}
use Rattle.l3_lanes.proofs.seats.LaneBoard.claim_wait.Goals as goal

pub returns-in-Job-clause-claimed : goal.returns-in-Job-clause-claimed
returns-in-Job-clause-claimed g c = λ x is. (words_at (seat_view c.loop.seat) (g.T.Numbered.number_of x % c.args.self.now.cells), c.in-Job.ensures.claimed x is)

pub loop-preserved : goal.loop-preserved
loop-preserved g c =
    let read = c.in-Nothing.ensures.read in
    let before = c.loop.invariant.5 in
    let not_shut : read.0 ≢ 1 = λ e. let no = read.2.1 e in let bad : ⊥ = cc in bad in (
      tt,
      tt,
      c.in-Nothing.ensures.made,
      c.in-Nothing.ensures.nothing refl,
      waited_more (seat_past c.args.seat.now) (seat_past c.loop.seat) (seat_past c.claim.new.seat) c.loop.invariant.4 (c.in-Nothing.ensures.moved.seen, c.in-Nothing.ensures.moved.mine),
      (read.0 ∷ before.0, read.1.0 ∙ ap (λ (z : List ℕ). read.0 ∷ z) before.1, All-cons (λ m. m ≢ 1) read.0 before.0 not_shut before.2),
    )

pub returns-in-Job-clause-moved : goal.returns-in-Job-clause-moved
returns-in-Job-clause-moved g c =
    let moved = c.in-Job.ensures.moved in
    (moved.0, sees_waited c.args.self.now.cells false (seat_past c.args.seat.now) (seat_past c.loop.seat) moved.0 c.loop.invariant.4 moved.1, moved.2)

pub returns-in-Shut-clause-moved : goal.returns-in-Shut-clause-moved
returns-in-Shut-clause-moved g c = sees_waited c.args.self.now.cells true (seat_past c.args.seat.now) (seat_past c.loop.seat) (seat_past c.claim.new.seat) c.loop.invariant.4 c.in-Shut.ensures.moved
