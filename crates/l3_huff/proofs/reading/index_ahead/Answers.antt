use Rattle.std.proofs.Common.{◌≡◌, ◌-◌, ◌/◌, sym, subst}
use Rattle.l3_huff.specs.declared.quads.QuadTable.{QuadTable}
use Rattle.l3_huff.specs.ReadingTables.{IsIndexOf, quad_index_at}
use Rattle.l3_huff.proofs.ReadingTableFacts.{index_a_is, index_b_is}
use Rattle.l3_huff.proofs.reading.index_ahead.Goals as goal

pub returns-in-A : goal.returns-in-A
returns-in-A c =
    let index : c.from.result ≡ quad_index_at c.args.ahead = cc in
    let P : QuadTable → Type 0 = λ t. IsIndexOf t c.args.ahead c.from.result in
    subst P (sym c.in-A.is) (rw index (index_a_is c.args.ahead c.requires))

pub returns-in-B : goal.returns-in-B
returns-in-B c =
    let P : QuadTable → Type 0 = λ t. IsIndexOf t c.args.ahead (15 - c.args.ahead / 4) in
    subst P (sym c.in-B.is) (index_b_is c.args.ahead c.requires)
