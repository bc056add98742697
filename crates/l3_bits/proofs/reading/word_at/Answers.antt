use Rattle.std.proofs.Common.{◌<◌, ap, sym, ◌∙◌, get_or, ◌+◌, ℕ, arith}
use Rattle.l3_bits.specs.Bits.{bits_of}
use Rattle.l3_bits.proofs.Places.{bits_of_stretch, four_of}
use Rattle.l3_bits.proofs.Fields.{word_of_bytes}
use Rattle.l3_bits.proofs.reading.word_at.Goals as goal

pub returns : goal.returns
returns c =
    let bytes = c.args.bytes.now in
    let at = λ (k : ℕ). get_or bytes k 0 in
    let i = c.args.byte in
    let small : (k : ℕ) → get_or bytes k 0 < 256 = λ k. omega (arith, c.type_inv.bytes k) in
    word_of_bytes (at i) (at (i + 1)) (at (i + 2)) (at (i + 3)) c.from_be_bytes.result
    (small i) (small (i + 1)) (small (i + 2)) (small (i + 3)) c.from_be_bytes.ensures
    ∙ (ap bits_of (sym (four_of bytes i c.requires)) ∙ bits_of_stretch bytes i 4 c.requires)
