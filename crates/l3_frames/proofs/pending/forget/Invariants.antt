use Rattle.std.proofs.Common.{◌≡◌, drop}
use Rattle.l3_frames.proofs.pending.forget.Given as goal

abbrev pub invariant-loop : goal.invariant-loop
invariant-loop l = l.heads.items ≡ drop l.counter l.fn.heads.items
