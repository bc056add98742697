use Rattle.std.proofs.Common.{length, ap, subst, ◌∙◌}
use Rattle.std.proofs.lemmas.Bool.{eqb-true, eqb-false}
use Rattle.l3_stream.specs.Units.{table_at, PairsHold, QuadsHold, pairs_code, quads_code}
use Rattle.l3_stream.proofs.Shapes.{coded_unit, past_zeros, same_length}
use Rattle.l3_stream.proofs.coded.is_coded_unit.Goals as goal
use Rattle.l3_stream.proofs.coded.is_coded_unit.Goals.{then-not-has_fields-via-then-not-has_fields, then-not-has_fields-via-else-not-has_fields+then-not-has_places, then-not-has_fields-via-else-not-has_fields+else-not-has_places+then-not-are_zero}

pub returns-then-not-has_fields-clause-refused : goal.returns-then-not-has_fields-clause-refused
returns-then-not-has_fields-clause-refused c = λ _ is. elim c.then-not-has_fields.branch [
  | then-not-has_fields-via-then-not-has_fields w ↦ c.has_fields.ensures.refused w.if-not-has_fields.true is.fields
  | then-not-has_fields-via-else-not-has_fields+then-not-has_places w ↦ w.has_places.ensures.refused w.if-not-has_places.true is.places
  | then-not-has_fields-via-else-not-has_fields+else-not-has_places+then-not-are_zero w ↦
      let bad = w.if-not-are_zero.true in
      let good = w.are_zero.ensures.1 (past_zeros c.args.settings.now c.args.unit.now w.past_lines.result.now w.past_lines.ensures.value w.past_lines.ensures.count is) in
      cc
]

pub returns-in-Some-bits_of_quads-clause-coded : goal.returns-in-Some-bits_of_quads-clause-coded
returns-in-Some-bits_of_quads-clause-coded c = λ same.
    let st = c.args.settings.now in
    let u = c.args.unit.now in
    let pairs = c.pair_lines.ensures.value in
    let quads = c.quad_lines.ensures.value in
    coded_unit st u c.past_lines.result.now c.in-Some.first c.in-Some-bits_of_quads.second c.from.result
    (c.has_fields.ensures.fields c.if-not-has_fields.false) (c.has_places.ensures.places c.if-not-has_places.false) c.past_lines.ensures.lines
    c.past_lines.ensures.value c.past_lines.ensures.count (c.are_zero.ensures.0 c.if-not-are_zero.false)
    (subst (PairsHold (table_at st u) 0) pairs c.in-Some.ensures.held) (c.in-Some.ensures.value ∙ ap (λ l. length (pairs_code (table_at st u) 0 l)) pairs)
    (subst QuadsHold quads c.in-Some-bits_of_quads.ensures.held) (c.in-Some-bits_of_quads.ensures.value ∙ ap (λ l. length (quads_code u.quad l)) quads)
    c.from.ensures (eqb-true _ _ same)

pub returns-in-Some-bits_of_quads-clause-refused : goal.returns-in-Some-bits_of_quads-clause-refused
returns-in-Some-bits_of_quads-clause-refused c = λ other is.
    let st = c.args.settings.now in
    let u = c.args.unit.now in
    let same = same_length st u c.in-Some.first c.in-Some-bits_of_quads.second c.from.result
    (c.in-Some.ensures.value ∙ ap (λ l. length (pairs_code (table_at st u) 0 l)) c.pair_lines.ensures.value)
    (c.in-Some-bits_of_quads.ensures.value ∙ ap (λ l. length (quads_code u.quad l)) c.quad_lines.ensures.value) c.from.ensures is in
    eqb-false _ _ other same
