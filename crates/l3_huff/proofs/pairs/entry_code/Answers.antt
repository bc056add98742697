use Rattle.std.proofs.Common.{◌≡◌, ap, sym, ◌∙◌}
use Rattle.l3_bits.specs.Bits.{digits}
use Rattle.l3_huff.specs.Tables.{length_at, value_at}
use Rattle.l3_huff.proofs.TableCodes.{entry_code_at, table_code-at}
use Rattle.l3_huff.proofs.pairs.entry_code.Goals as goal

pub returns-clause-code : goal.returns-clause-code
returns-clause-code c =
    let value : c.from.result ≡ value_at c.place-place.result = cc in
    ap (λ l. digits l c.from.result) c.length.ensures
    ∙ (ap (digits (length_at c.place-place.result)) value
    ∙ (ap (λ p. digits (length_at p) (value_at p)) c.place-place.ensures.value ∙ sym (table_code-at c.args.table c.args.row c.args.column c.requires.table c.requires.row c.requires.column)))

pub returns-clause-small : goal.returns-clause-small
returns-clause-small c =
    let value : c.from.result ≡ value_at c.place-place.result = cc in
    rw (value, c.length.ensures) (entry_code_at c.place-place.result c.place-place.ensures.within).small

pub returns-clause-limit : goal.returns-clause-limit
returns-clause-limit c = rw c.length.ensures (entry_code_at c.place-place.result c.place-place.ensures.within).short
