use Rattle.std.proofs.Common.{◌≡◌, All, None, vec_len}
use Rattle.l3_lanes.specs.History.{bare}
use Rattle.l3_lanes.specs.Calls.{IsSeat, seat_past}
use Rattle.l3_lanes.specs.Moves.{no_past}
use Rattle.l3_lanes.proofs.opening.hired.Given as goal

abbrev pub invariant-loop : goal.invariant-loop
invariant-loop g l = record {
  id : l.token.id ≡ l.fn.token.id;
  table : l.token.table_id ≡ l.fn.token.table_id;
  me : l.token.me ≡ l.fn.token.me;
  pasts : All (λ s. seat_past s ≡ no_past) l.seats.items;
  count : vec_len l.seats ≡ l.counter;
  seats : All (λ s. (s.token.table_id ≡ l.row.table_id) × IsSeat l.row.table_id.slots (bare s.token.me) s.claim × (s.claim ≡ None)) l.seats.items;
}
