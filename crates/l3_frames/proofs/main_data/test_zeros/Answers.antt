use Rattle.std.proofs.Common.{◌+◌, ◌/◌, ◌<◌, ◌∙◌, sym, length, drop, arith, rules}
use Rattle.std.proofs.lemmas.List.{length-drop}
use Rattle.l3_bits.specs.Bits.{bits_of}
use Rattle.l3_bits.proofs.Places.{length-bits_of}
use Rattle.l3_frames.proofs.Zeros.{zeros_passed, one_found, none_left, byte_zero, bit_zero, bit_one}
use Rattle.l3_frames.proofs.main_data.test_zeros.Goals as goal

pub loop-place-preserved-then-bytes-place-eq0 : goal.loop-place-preserved-then-bytes-place-eq0
loop-place-preserved-then-bytes-place-eq0 c =
    let bytes = c.args.bytes.now in
    let place = c.loop-place.place in
    record {
      order = omega arith;
      read = c.loop-place.invariant.read ∙ zeros_passed c.args.first bytes place c.args.end 8
          (omega arith)
          (byte_zero bytes place (place / 8) (omega arith) (omega (arith, c.requires.within))
          (search rules));
    }

pub loop-place-preserved : goal.loop-place-preserved
loop-place-preserved c =
    let bytes = c.args.bytes.now in
    let place = c.loop-place.place in
    let some : 0 < length (drop place (bits_of bytes)) = omega (
      arith,
      length-drop place
          (bits_of bytes),
      length-bits_of bytes,
      c.requires.within,
    ) in
    record {
      order = omega arith;
      read = c.loop-place.invariant.read ∙ zeros_passed c.args.first bytes place c.args.end 1
          (omega arith) (bit_zero (bits_of bytes) place some (sym c.take_bits.ensures.value
          ∙ c.if-take_bits-eq0.true));
    }

pub overflow_add-result : goal.overflow_add-result
overflow_add-result c = omega (
  arith,
  c.loop-place.invariant.order,
  c.requires.first,
  c.requires.within,
)

pub returns-else-take_bits-eq0 : goal.returns-else-take_bits-eq0
returns-else-take_bits-eq0 c =
    let bytes = c.args.bytes.now in
    let place = c.loop-place.place in
    let some : 0 < length (drop place (bits_of bytes)) = omega (
      arith,
      length-drop place
          (bits_of bytes),
      length-bits_of bytes,
      c.requires.within,
    ) in
    sym (c.loop-place.invariant.read ∙ one_found c.args.first bytes place c.args.end (omega arith)
    (bit_one (bits_of bytes) place some
    (λ none. absurd (omega (arith, c.take_bits.ensures.value, none)))))

pub returns : goal.returns
returns c =
    sym (c.loop-place.invariant.read ∙ none_left (c.args.first + c.loop-place.place)
    c.args.bytes.now c.loop-place.place c.args.end (omega arith))
