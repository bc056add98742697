use Rattle.std.proofs.Common.{◌≡◌, ◌<◌, ◌+◌, ℕ, length}
use Rattle.l3_base.specs.Lists.{entry}
use Rattle.l3_wav.proofs.filling.fill.Given as goal

abbrev pub invariant-loop-n : goal.invariant-loop-n
invariant-loop-n l = (length l.window ≡ 1632) × ((k : ℕ) → k < l.n → entry l.window k ≡ entry l.kept (l.first + k))
