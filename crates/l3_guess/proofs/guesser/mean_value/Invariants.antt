use Rattle.std.proofs.Common.{◌≡◌, ◌-◌, ◌*◌, ◌^◌, ◌≤◌, take, sum}
use Rattle.l3_guess.proofs.guesser.mean_value.Given as goal

abbrev pub invariant-loop-reserve : goal.invariant-loop-reserve
invariant-loop-reserve l = (l.all ≡ sum (take l.reserve-index l.told)) × (l.all ≤ (2 ^ 32 - 1) * l.reserve-index)
