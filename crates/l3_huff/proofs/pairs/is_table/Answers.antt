use Rattle.std.proofs.Common.{◌≡◌, ◌≤◌, ap, sym, ◌∙◌, eqb, arith}
use Rattle.std.proofs.lemmas.Bool.{lt-ltb, ltb-true}
use Rattle.std.specs.Prelude.{not}
use Rattle.l3_huff.specs.Tables.{is_table, width_of}
use Rattle.l3_huff.proofs.Shapes.{IsTable-below}
use Rattle.l3_huff.proofs.TableCodes.{is_table-width}
use Rattle.l3_huff.proofs.pairs.is_table.Goals as goal

pub returns-then-table-lt32 : goal.returns-then-table-lt32
returns-then-table-lt32 c =
    let table = c.args.table in
    let width : c.width.result ≡ width_of table = cc in
    let same : not (eqb c.width.result 0) ≡ is_table table = ap (λ w. not (eqb w 0)) width ∙ sym (is_table-width table c.if-table-lt32.true) in
    (λ h. sym same ∙ h, λ h. same ∙ h)

pub returns-else-table-lt32 : goal.returns-else-table-lt32
returns-else-table-lt32 c =
    let table = c.args.table in
    let le : 32 ≤ table = c.if-table-lt32.false in
    (λ h. absurd (omega (arith, le, ltb-true table 32 h)), λ h. lt-ltb table 32 (IsTable-below table h))
