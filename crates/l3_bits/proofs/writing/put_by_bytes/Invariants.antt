use Rattle.std.proofs.Common.{◌≡◌, ◌+◌, ◌*◌, ◌-◌, ◌≤◌, ◌++◌, length, take, drop}
use Rattle.l3_bits.specs.Bits.{bits_of, digits}
use Rattle.l3_bits.proofs.writing.put_by_bytes.Given as goal

abbrev pub invariant-loop-done : goal.invariant-loop-done
invariant-loop-done l = record {
  within : l.done ≤ l.width;
  length : length l.out ≡ length l.fn.out;
  written : bits_of l.out
      ≡ take (8 * l.byte + l.first) (bits_of l.fn.out) ++ take l.done (digits l.width l.value)
      ++ drop (8 * l.byte + l.first + l.done) (bits_of l.fn.out);
}

abbrev pub decreases-loop-done : goal.decreases-loop-done
decreases-loop-done l = l.width - l.done
