use Rattle.std.proofs.Common.{◌≡◌, ◌+◌, ◌*◌, arith, ap, sym, ◌∙◌}
use Rattle.std.specs.Prelude.{min}
use Rattle.l3_huff.specs.Tables.{base_of, first_at, length_at, width_of}
use Rattle.l3_huff.proofs.Tails.{row-lt}
use Rattle.l3_huff.proofs.TableCodes.{entry_code_at, length-table_code}
use Rattle.l3_huff.proofs.pairs.code_length.Goals as goal

pub place-requires-clause-row : goal.place-requires-clause-row
place-requires-clause-row c = omega (arith, row-lt c.args.table c.args.x c.requires.holds_x)

pub place-requires-clause-column : goal.place-requires-clause-column
place-requires-clause-column c = omega (arith, row-lt c.args.table c.args.y c.requires.holds_y)

pub returns-clause-value : goal.returns-clause-value
returns-clause-value c =
    let table = c.args.table in
    let row = min c.args.x 15 in
    let column = min c.args.y 15 in
    let first : c.min.result ≡ row = omega arith in
    let second : c.min-2.result ≡ column = omega arith in
    let place : c.place.result ≡ first_at (base_of table) + (row * width_of table + column) = c.place.ensures.value ∙ (ap (λ r. first_at (base_of table) + (r * width_of table + c.min-2.result)) first ∙ ap (λ k. first_at (base_of table) + (row * width_of table + k)) second) in
    c.length.ensures ∙ (ap length_at place ∙ sym (length-table_code table row column c.requires.holds_x.0 (row-lt table c.args.x c.requires.holds_x) (row-lt table c.args.y c.requires.holds_y)))

pub returns-clause-limit : goal.returns-clause-limit
returns-clause-limit c =
    let short = (entry_code_at c.place.result c.place.ensures.within).short in
    rw c.length.ensures short
