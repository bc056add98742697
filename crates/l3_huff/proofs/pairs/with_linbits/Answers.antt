use Rattle.std.proofs.Common.{◌≡◌, ◌-◌, ◌++◌, ap, sym, ◌∙◌}
use Rattle.l3_bits.specs.Bits.{digits}
use Rattle.l3_huff.specs.Codes.{linbits_code}
use Rattle.l3_huff.proofs.Tails.{linbits-lt}
use Rattle.l3_huff.proofs.Lengths.{append-none, linbits-large, linbits-small}
use Rattle.l3_huff.proofs.pairs.with_linbits.Goals as goal

pub followed_by-requires-clause-value : goal.followed_by-requires-clause-value
followed_by-requires-clause-value c =
    let above : c.from.result ≡ c.args.value - 15 = cc in
    rw (above, c.linbits.ensures.value) (linbits-lt c.args.table c.args.value c.requires.holds c.if-value-ge-FIRST_LINBITS.true)

pub returns-then-value-ge-FIRST_LINBITS-clause-code : goal.returns-then-value-ge-FIRST_LINBITS-clause-code
returns-then-value-ge-FIRST_LINBITS-clause-code c =
    let above : c.from.result ≡ c.args.value - 15 = cc in
    let front = digits c.args.code.length c.args.code.value in
    c.followed_by.ensures.digits
    ∙ (ap (λ n. front ++ digits c.linbits.result n) above
    ∙ (ap (λ l. front ++ digits l (c.args.value - 15)) c.linbits.ensures.value
    ∙ ap (λ l. front ++ l) (sym (linbits-large c.args.table c.args.value c.if-value-ge-FIRST_LINBITS.true))))

pub returns-else-value-ge-FIRST_LINBITS-clause-code : goal.returns-else-value-ge-FIRST_LINBITS-clause-code
returns-else-value-ge-FIRST_LINBITS-clause-code c =
    sym (append-none (digits c.args.code.length c.args.code.value) (linbits_code c.args.table c.args.value) (linbits-small c.args.table c.args.value c.if-value-ge-FIRST_LINBITS.false))
