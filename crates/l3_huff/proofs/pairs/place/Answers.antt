use Rattle.std.proofs.Common.{◌≡◌, ◌+◌, ◌*◌}
use Rattle.l3_huff.specs.Tables.{base_of, first_at, width_of}
use Rattle.l3_huff.proofs.TableCodes.{place_lt}
use Rattle.l3_huff.proofs.pairs.place.Goals as goal

pub returns-clause-within : goal.returns-clause-within
returns-clause-within c =
    let table = c.args.table in
    let same : c.from.result + (c.from-2.result * c.from-3.result + c.from-4.result) ≡ first_at (base_of table) + (c.args.row * width_of table + c.args.column) = cc in
    rw same (place_lt table c.args.row c.args.column c.requires.table c.requires.row c.requires.column)
