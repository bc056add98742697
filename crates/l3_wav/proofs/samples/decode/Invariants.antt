use Rattle.std.proofs.Common.{◌≡◌, ◌+◌, ◌*◌, ◌++◌, length, take}
use Rattle.l3_wav.specs.Samples.{values_of}
use Rattle.l3_wav.proofs.samples.decode.Given as goal

abbrev pub invariant-loop-slot : goal.invariant-loop-slot
invariant-loop-slot l =
    (length l.rest + 2 * l.slot-index ≡ 2 * length l.out)
    × (take l.slot-index l.out ++ values_of l.rest ≡ values_of l.bytes)
