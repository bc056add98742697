use Rattle.std.proofs.Common.{◌≡◌, ap, ◌∙◌, take, drop, arith, ◌+◌, ◌-◌, ◌++◌, List, Bool}
use Rattle.l3_bits.specs.Bits.{bits_of, digits}
use Rattle.l3_bits.proofs.Places.{field_in_bytes}
use Rattle.l3_bits.proofs.Fields.{bits_of_word}
use borrow.Rule.Slice.PartMut.{put_mid}
use Rattle.l3_bits.proofs.writing.put_in_word.Goals as goal

pub returns : goal.returns
returns c =
    let out = c.args.out.now in
    let field = digits c.args.width c.args.value in
    let four : c.args.byte + 4 - c.args.byte ≡ 4 = omega arith in
    let with_bits = λ (l : List Bool). take c.args.first l ++ field
    ++ drop (c.args.first + c.args.width) l in
    let new_bits = ap bits_of (c.copy_from_slice.ensures.after ∙ c.to_be_bytes.ensures)
    ∙ (bits_of_word c.with_field-word.result
    ∙ (c.with_field-word.ensures.value
    ∙ ap with_bits (ap (digits 32) c.from.ensures ∙ c.word_at.ensures))) in
    ap (λ k. bits_of (put_mid c.args.byte k out c.copy_from_slice.new.self)) four
    ∙ field_in_bytes out c.copy_from_slice.new.self field c.args.byte 4 c.args.first c.args.width
    c.requires.within c.requires.word new_bits
