use Rattle.std.proofs.Common.{◌≡◌, ◌≤◌, ◌+◌, ◌-◌}
use Rattle.l3_base.specs.Lengths.{slots_before}
use Rattle.l3_frames.proofs.pending.settled.Given as goal

abbrev pub invariant-loop-k : goal.invariant-loop-k
invariant-loop-k l = record {
  place : slots_before l.settings l.first + l.bytes ≡ slots_before l.settings (l.first + l.k);
  far : slots_before l.settings (l.first + l.k) ≤ slots_before l.settings (l.first + l.count) - 511;
}
