use Rattle.std.proofs.Common.{◌≡◌, ℕ, ◌+◌, ◌<◌}
use Rattle.std.specs.Bool.{OnTrue}
use Rattle.l3_base.specs.Lists.{entry}
use Rattle.l3_transform.proofs.following.follows.Given as goal

abbrev pub invariant-loop-n : goal.invariant-loop-n
invariant-loop-n l = OnTrue l.same ((m : ℕ) → m < l.n → entry l.window m ≡ entry l.before (m + 576))
