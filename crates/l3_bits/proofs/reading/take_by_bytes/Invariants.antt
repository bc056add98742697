use Rattle.std.proofs.Common.{◌≡◌, ◌+◌, ◌*◌, ◌-◌, ◌<◌, ◌≤◌, ◌^◌, take, drop}
use Rattle.l3_bits.specs.Bits.{bits_of, number_of}
use Rattle.l3_bits.proofs.reading.take_by_bytes.Given as goal

abbrev pub invariant-loop-done : goal.invariant-loop-done
invariant-loop-done l = record {
  within : l.done ≤ l.width;
  value : l.value ≡ number_of (take l.done (drop (8 * l.byte + l.first) (bits_of l.bytes)));
  small : l.value < 2 ^ l.done;
}

abbrev pub decreases-loop-done : goal.decreases-loop-done
decreases-loop-done l = l.width - l.done
