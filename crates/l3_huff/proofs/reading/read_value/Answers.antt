use Rattle.std.proofs.Common.{◌≡◌, ◌-◌, ◌^◌, ◌<◌, ◌≤◌, take, drop, ap, sym, ◌∙◌, arith}
use Rattle.std.proofs.lemmas.Nat.{pow_below}
use Rattle.l3_bits.specs.Bits.{bits_of, number_of}
use Rattle.l3_huff.specs.Tables.{linbits_of}
use Rattle.l3_huff.specs.Words.{with_zeros}
use Rattle.l3_huff.proofs.ValueReading.{large-cut, large-found, large-none, last_entry, small-found, small-none}
use Rattle.l3_huff.proofs.reading.read_value.Goals as goal

pub returns-then-entry-lt-FIRST_LINBITS-clause-found : goal.returns-then-entry-lt-FIRST_LINBITS-clause-found
returns-then-entry-lt-FIRST_LINBITS-clause-found c =
    small-found c.read_sign.result c.args.table c.args.entry c.args.bytes.now c.args.at c.args.end c.if-entry-lt-FIRST_LINBITS.true c.read_sign.ensures.found

pub returns-then-entry-lt-FIRST_LINBITS-clause-none : goal.returns-then-entry-lt-FIRST_LINBITS-clause-none
returns-then-entry-lt-FIRST_LINBITS-clause-none c =
    small-none c.read_sign.result c.args.table c.args.entry c.args.bytes.now c.args.at c.args.end c.if-entry-lt-FIRST_LINBITS.true c.read_sign.ensures.none

pub returns-then-end-at-clause-none : goal.returns-then-end-at-clause-none
returns-then-end-at-clause-none c =
    let last = last_entry c.args.table c.args.entry c.requires.table c.requires.entry c.if-entry-lt-FIRST_LINBITS.false in
    let linbits : c.from.result ≡ linbits_of c.args.table = cc in
    large-cut c.args.table c.args.entry c.from.result c.args.bytes.now c.args.at c.args.end c.requires.order c.requires.within last linbits c.if-end-at.true

pub read_sign-requires-2-clause-value : goal.read_sign-requires-2-clause-value
read_sign-requires-2-clause-value c =
    let few : c.from-linbits.result ≤ 13 = omega (arith, c.from-linbits.ensures, c.linbits.ensures.limit) in
    let power : 2 ^ c.from-linbits.result < 2 ^ 14 = pow_below c.from-linbits.result 14 (omega (arith, few)) in
    omega (arith, power, c.bits_ahead-above.ensures.small)

pub returns-clause-found : goal.returns-clause-found
returns-clause-found c =
    let last = last_entry c.args.table c.args.entry c.requires.table c.requires.entry c.if-entry-lt-FIRST_LINBITS.false in
    let linbits : c.from-2.result ≡ linbits_of c.args.table = cc in
    let room : c.from-2.result ≤ c.args.end - c.args.at = omega (arith, c.if-end-at.false, c.from.ensures, c.from-2.ensures) in
    let value = c.bits_ahead-above.ensures.value ∙ ap (λ n. number_of (take n (drop c.args.at (bits_of (with_zeros c.args.bytes.now))))) (sym c.from-2.ensures) in
    large-found c.args.table c.args.entry c.from-2.result c.bits_ahead-above.result c.args.bytes.now c.args.at c.args.end c.requires.order c.requires.within last linbits room value
    c.read_sign-2.result c.read_sign-2.ensures.found

pub returns-clause-none : goal.returns-clause-none
returns-clause-none c =
    let last = last_entry c.args.table c.args.entry c.requires.table c.requires.entry c.if-entry-lt-FIRST_LINBITS.false in
    let linbits : c.from-2.result ≡ linbits_of c.args.table = cc in
    let room : c.from-2.result ≤ c.args.end - c.args.at = omega (arith, c.if-end-at.false, c.from.ensures, c.from-2.ensures) in
    let value = c.bits_ahead-above.ensures.value ∙ ap (λ n. number_of (take n (drop c.args.at (bits_of (with_zeros c.args.bytes.now))))) (sym c.from-2.ensures) in
    large-none c.args.table c.args.entry c.from-2.result c.bits_ahead-above.result c.args.bytes.now c.args.at c.args.end c.requires.order c.requires.within last linbits room value
    c.read_sign-2.result c.read_sign-2.ensures.none
