use Rattle.std.proofs.Common.{◌≡◌, ◌≢◌, ℕ, List, ◌++◌, All, None}
use Rattle.l3_lanes.specs.Views.{words_at}
use Rattle.l3_lanes.specs.Calls.{IsSeatOf, claimed, seat_view, seat_past}
use Rattle.l3_lanes.proofs.HistoryLemmas.{HasWaited}
use Rattle.l3_lanes.proofs.seats.LaneBoard.claim_wait.Given as goal

abbrev pub invariant-loop : goal.invariant-loop
invariant-loop g l =
    (goal.iterator-loop g).can_next l.iterator' × (goal.iterator-loop g).is_finite l.iterator' × IsSeatOf l.self l.seat × (claimed l.seat ≡ None) × HasWaited (seat_past l.fn.seat) (seat_past l.seat)
    × ((earlier : List ℕ) × (words_at (seat_view l.seat) l.self.cells ≡ earlier ++ words_at (seat_view l.fn.seat) l.self.cells) × All (λ m. m ≢ 1) earlier)
