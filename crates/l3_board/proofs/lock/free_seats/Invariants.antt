use Rattle.std.proofs.Common.{◌≡◌, None, All, vec_len}
use Rattle.l3_board.proofs.lock.free_seats.Given as goal

abbrev pub invariant-loop : goal.invariant-loop
invariant-loop l = (vec_len l.seats ≡ l.counter) × All (λ seat. seat ≡ None) l.seats.items
