use Rattle.std.proofs.Common.{◌≡◌, ℕ, ◌<◌}
use Rattle.l3_base.specs.Amp.{no_amp}
use Rattle.l3_count.specs.Memo.{IsMemo, empty_lane, lane_of}
use Rattle.l3_count.proofs.memo.Memo.clear.Given as goal

abbrev pub invariant-loop-lane : goal.invariant-loop-lane
invariant-loop-lane l = record {
  memo : IsMemo l.self-inside.lanes;
  emptied : (k : ℕ) → k < l.lane → lane_of l.self-inside.lanes k ≡ empty_lane no_amp;
}
