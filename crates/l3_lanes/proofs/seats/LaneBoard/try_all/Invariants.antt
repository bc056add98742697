use Rattle.std.proofs.Common.{◌≡◌, ℕ, ◌<◌, ◌≤◌, None}
use Rattle.l3_lanes.specs.Views.{words_at}
use Rattle.l3_lanes.specs.Calls.{IsSeatOf, WasLost}
use Rattle.l3_lanes.proofs.seats.LaneBoard.try_all.Given as goal

abbrev pub invariant-loop-cell : goal.invariant-loop-cell
invariant-loop-cell g l = record {
  seat : IsSeatOf l.self l.seat;
  free : l.seat.claim ≡ None;
  lost : (c : ℕ) → c < l.cell → WasLost c l.fn.seat.token.me.0.view l.seat.token.me.0.view;
  past : l.seat.token.me.0.past ≡ l.fn.seat.token.me.0.past;
  others : (k : ℕ) → l.cell ≤ k → words_at l.seat.token.me.0.view k ≡ words_at l.fn.seat.token.me.0.view k;
}
