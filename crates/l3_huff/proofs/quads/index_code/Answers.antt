use Rattle.std.proofs.Common.{◌≡◌, ap, sym, ◌∙◌, get_or, []}
use Rattle.l3_bits.specs.Bits.{digits}
use Rattle.l3_huff.specs.Tables.{quad_codes}
use Rattle.l3_huff.specs.Tables.{quad_length_at, quad_value_at}
use Rattle.l3_huff.proofs.Quadruples.{code_in_a, code_in_b, index_code_at}
use Rattle.l3_huff.proofs.quads.index_code.Goals as goal

pub returns-in-A-clause-code : goal.returns-in-A-clause-code
returns-in-A-clause-code c =
    let value : c.from.result ≡ quad_value_at c.args.index = cc in
    ap (λ l. digits l c.from.result) c.length.ensures ∙ (ap (digits (quad_length_at c.args.index)) value
    ∙ (code_in_a c.args.index c.requires ∙ ap (λ t. get_or (quad_codes t) c.args.index []) (sym c.in-A.is)))

pub returns-in-A-clause-small : goal.returns-in-A-clause-small
returns-in-A-clause-small c =
    let value : c.from.result ≡ quad_value_at c.args.index = cc in
    rw (value, c.length.ensures) (index_code_at c.args.index c.requires).small

pub returns-in-A-clause-limit : goal.returns-in-A-clause-limit
returns-in-A-clause-limit c = rw c.length.ensures (index_code_at c.args.index c.requires).short

pub returns-in-B-clause-code : goal.returns-in-B-clause-code
returns-in-B-clause-code c = code_in_b c.args.index c.requires ∙ ap (λ t. get_or (quad_codes t) c.args.index []) (sym c.in-B.is)
