use Rattle.std.proofs.Common.{◌≡◌, length, unsigned_abs, rules, w16, FitsSigned, arith, ap, ◌∙◌}
use Rattle.std.proofs.lemmas.Int.{to_z-of_z}
use Rattle.l3_huff.proofs.Quadruples.{first, second, third, fourth, quad_index-four}
use Rattle.l3_huff.proofs.quads.index.Goals as goal

pub returns-clause-value : goal.returns-clause-value
returns-clause-value c =
    let quad = c.args.quad in
    let size : length quad ≡ 4 = search rules in
    let v : c.unsigned_abs.result ≡ unsigned_abs (first quad) = c.unsigned_abs.ensures.value ∙ ap unsigned_abs (to_z-of_z w16 (first quad) (let fits : FitsSigned w16 (first quad) = search rules in fits)) in
    let w : c.unsigned_abs-2.result ≡ unsigned_abs (second quad) = c.unsigned_abs-2.ensures.value ∙ ap unsigned_abs (to_z-of_z w16 (second quad) (let fits : FitsSigned w16 (second quad) = search rules in fits)) in
    let x : c.unsigned_abs-3.result ≡ unsigned_abs (third quad) = c.unsigned_abs-3.ensures.value ∙ ap unsigned_abs (to_z-of_z w16 (third quad) (let fits : FitsSigned w16 (third quad) = search rules in fits)) in
    let y : c.unsigned_abs-4.result ≡ unsigned_abs (fourth quad) = c.unsigned_abs-4.ensures.value ∙ ap unsigned_abs (to_z-of_z w16 (fourth quad) (let fits : FitsSigned w16 (fourth quad) = search rules in fits)) in
    omega (arith, v, w, x, y, quad_index-four quad size)
