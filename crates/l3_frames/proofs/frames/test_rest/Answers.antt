use Rattle.std.proofs.Common.{◌≡◌, ◌+◌, ◌-◌, ◌*◌, ◌∙◌, ap, length, take, drop, arith}
use Rattle.std.proofs.lemmas.List.{length-take-le, length-drop, take_all}
use Rattle.l3_bits.specs.Bits.{bits_of}
use Rattle.l3_bits.proofs.Places.{length-bits_of}
use Rattle.l3_stream.specs.Faults.{clear}
use Rattle.l3_huff.specs.Words.{between}
use Rattle.l3_frames.proofs.frames.test_rest.Goals as goal

pub returns : goal.returns
returns c =
    let t = c.args.tape.now in
    let front = take t.filled t.bytes in
    let from = t.end - 8 * t.base in
    let size : length front ≡ t.filled = length-take-le t.filled t.bytes
    (omega (arith, c.requires.rest.room, c.requires.rest.few)) in
    let place : 8 * t.base + from ≡ t.end = omega (arith, c.requires.rest.begun) in
    let whole : between front from (8 * t.filled) ≡ drop from (bits_of front) = take_all
    (8 * t.filled - from) (drop from (bits_of front))
    (omega (arith, length-drop from (bits_of front), length-bits_of front)) in
    c.test_zeros.ensures ∙ (ap (λ n. clear n (between front from (8 * t.filled))) place
    ∙ ap (clear t.end) whole)
