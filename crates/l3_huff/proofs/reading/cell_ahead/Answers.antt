use Rattle.std.proofs.Common.{◌≡◌, ◌+◌, ◌^◌, ◌<◌, ◌≤◌, ap, ◌∙◌, arith}
use Rattle.l3_huff.specs.Tables.{base_of}
use Rattle.l3_huff.specs.ReadingTables.{cell_at, first_cell_at, longest_of}
use Rattle.l3_huff.proofs.Shapes.{shape_of}
use Rattle.l3_huff.proofs.ReadingTableFacts.{cell_is}
use Rattle.l3_huff.proofs.reading.cell_ahead.Goals as goal

pub cell-requires : goal.cell-requires
cell-requires c =
    let table = c.args.table in
    let first : c.from.result ≡ first_cell_at (base_of table) = cc in
    let cells : first_cell_at (base_of table) + 2 ^ longest_of table ≤ 13321 = (shape_of table c.requires.table).cells in
    let ahead : c.args.ahead < 2 ^ longest_of table = c.requires.ahead in
    omega (arith, first, cells, ahead)

pub returns : goal.returns
returns c =
    let table = c.args.table in
    let first : c.from.result ≡ first_cell_at (base_of table) = cc in
    let cell : c.cell.result ≡ cell_at (first_cell_at (base_of table) + c.args.ahead) = c.cell.ensures ∙ ap (λ n. cell_at (n + c.args.ahead)) first in
    rw cell (cell_is table c.args.ahead c.requires.table c.requires.ahead)
