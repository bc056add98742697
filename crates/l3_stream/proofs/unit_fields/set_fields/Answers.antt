use Rattle.std.proofs.Common.{[], ◌∷◌, ap, ◌∙◌}
use Rattle.l3_stream.specs.SideReading.{quad_from}
use Rattle.l3_stream.proofs.SideLemmas.{set_unit, same_made}
use Rattle.l3_stream.proofs.unit_fields.set_fields.Goals as goal

pub returns : goal.returns
returns c =
    let tables = c.field-4.result ∷ c.field-5.result ∷ c.field-6.result ∷ [] in
    set_unit c.args.unit.now c.field.result c.field-2.result c.field-3.result c.field-7.result c.field-8.result tables c.quad_table-unit.result c.requires
    ∙ same_made c.args.number c.field.result c.field-2.result c.field-3.result c.field-7.result c.field-8.result c.field-4.result c.field-5.result c.field-6.result c.quad_table-unit.result
    c.field.ensures.value c.field-2.ensures.value c.field-3.ensures.value c.field-7.ensures.value c.field-8.ensures.value c.field-4.ensures.value c.field-5.ensures.value c.field-6.ensures.value
    (c.quad_table-unit.ensures ∙ ap quad_from c.field-9.ensures.value)
