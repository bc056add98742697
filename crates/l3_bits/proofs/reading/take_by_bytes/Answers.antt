use Rattle.std.proofs.Common.{◌≡◌, ◌<◌, ◌≤◌, ◌+◌, ◌*◌, ◌/◌, ◌%◌, ◌^◌, ℕ, take, drop, arith, ap}
use Rattle.std.proofs.Common.{subst, sym, ◌∙◌}
use Rattle.std.proofs.Math.Nat.{pow-le-pow_right}
use Rattle.std.proofs.lemmas.Nat.{pow_pos}
use Rattle.l3_bits.specs.Bits.{bits_of, number_of}
use Rattle.l3_bits.proofs.Places.{length-bits_of}
use Rattle.l3_bits.proofs.Fields.{joined-below, read_more}
use Rattle.l3_bits.proofs.reading.take_by_bytes.Goals as goal

-- the place as the code has it
placed : (byte first done : ℕ) →
    8 * (byte + (first + done) / 8) + (first + done) % 8 ≡ 8 * byte + first + done
placed byte first done = omega arith

below : (done count value part unit : ℕ) → value < 2 ^ done → part < 2 ^ count → unit ≡ 2 ^ count →
    value * unit + part < 2 ^ (done + count)
below done count value part unit small low is =
    subst (λ u. value * u + part < 2 ^ (done + count)) (sym is)
    (joined-below done count value part small low)

fits : (done count n : ℕ) → done + count ≤ 64 → n < 2 ^ (done + count) → n < 2 ^ 64
fits done count n within small =
    omega (arith, pow-le-pow_right {n = 2} (omega arith) {i = done + count} {j = 64} within)

pub overflow_mul-value : goal.overflow_mul-value
overflow_mul-value c =
    let some : 0 < 2 ^ c.min-count.result = pow_pos c.min-count.result in
    let all = below c.loop-done.done c.min-count.result c.loop-done.value 0 c.power.result
    c.loop-done.invariant.small some c.power.ensures in
    omega (
      arith,
      fits c.loop-done.done c.min-count.result (c.loop-done.value * c.power.result + 0)
          (omega arith) all,
    )

pub overflow_add-value : goal.overflow_add-value
overflow_add-value c =
    let all = below c.loop-done.done c.min-count.result c.loop-done.value c.take_in_byte-part.result
    c.power.result c.loop-done.invariant.small c.take_in_byte-part.ensures.small
    c.power.ensures in
    omega (
      arith,
      fits c.loop-done.done c.min-count.result
          (c.loop-done.value * c.power.result + c.take_in_byte-part.result) (omega arith) all,
    )

pub loop-done-preserved : goal.loop-done-preserved
loop-done-preserved c =
    let bits = bits_of c.args.bytes.now in
    let read : c.take_in_byte-part.result
    ≡ number_of (take c.min-count.result
    (drop (8 * c.args.byte + c.args.first + c.loop-done.done) bits)) =
    c.take_in_byte-part.ensures.value
    ∙ ap (λ p. number_of (take c.min-count.result (drop p bits)))
    (placed c.args.byte c.args.first c.loop-done.done) in
    record {
      within = omega arith;
      value = read_more bits (8 * c.args.byte + c.args.first) c.loop-done.done c.min-count.result
          c.loop-done.value c.take_in_byte-part.result c.power.result
          (omega (arith, length-bits_of c.args.bytes.now)) c.loop-done.invariant.value read
          c.power.ensures;
      small = below c.loop-done.done c.min-count.result c.loop-done.value c.take_in_byte-part.result
          c.power.result c.loop-done.invariant.small c.take_in_byte-part.ensures.small
          c.power.ensures;
    }
