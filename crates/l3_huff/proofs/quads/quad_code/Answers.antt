use Rattle.std.proofs.Common.{◌≡◌, Bool, List, length, get_or, [], ◌++◌, rules, to_z, of_z, w16, FitsSigned, ap, sym, ◌∙◌, append_assoc}
use Rattle.std.proofs.lemmas.Int.{to_z-of_z}
use Rattle.l3_bits.specs.Bits.{digits}
use Rattle.l3_bits.proofs.Places.{length-digits}
use Rattle.l3_huff.specs.Tables.{quad_codes}
use Rattle.l3_huff.specs.Codes.{quad_index, sign_code}
use Rattle.l3_huff.proofs.Quadruples.{first, second, third, fourth, quad_code_of-four}
use Rattle.l3_huff.proofs.quads.quad_code.Goals as goal

regroup : (a b c d e : List Bool) → (((a ++ b) ++ c) ++ d) ++ e ≡ a ++ (b ++ (c ++ (d ++ e)))
regroup a b c d e = simp append_assoc

pub returns-clause-code : goal.returns-clause-code
returns-clause-code c =
    let quad = c.args.quad in
    let size : length quad ≡ 4 = search rules in
    let v : to_z w16 (of_z w16 (first quad)) ≡ first quad = to_z-of_z w16 (first quad) (let fits : FitsSigned w16 (first quad) = search rules in fits) in
    let w : to_z w16 (of_z w16 (second quad)) ≡ second quad = to_z-of_z w16 (second quad) (let fits : FitsSigned w16 (second quad) = search rules in fits) in
    let x : to_z w16 (of_z w16 (third quad)) ≡ third quad = to_z-of_z w16 (third quad) (let fits : FitsSigned w16 (third quad) = search rules in fits) in
    let y : to_z w16 (of_z w16 (fourth quad)) ≡ fourth quad = to_z-of_z w16 (fourth quad) (let fits : FitsSigned w16 (fourth quad) = search rules in fits) in
    let front = get_or (quad_codes c.args.table) (quad_index quad) [] in
    let code : digits c.index_code-code.result.length c.index_code-code.result.value ≡ front = c.index_code-code.ensures.code ∙ ap (λ i. get_or (quad_codes c.args.table) i []) c.index.ensures.value in
    let one = c.with_sign.ensures.code ∙ (ap (λ z. digits c.index_code-code.result.length c.index_code-code.result.value ++ sign_code z) v ∙ ap (λ l. l ++ sign_code (first quad)) code) in
    let two = c.with_sign-2.ensures.code ∙ (ap (λ z. digits c.with_sign.result.length c.with_sign.result.value ++ sign_code z) w ∙ ap (λ l. l ++ sign_code (second quad)) one) in
    let three = c.with_sign-3.ensures.code ∙ (ap (λ z. digits c.with_sign-2.result.length c.with_sign-2.result.value ++ sign_code z) x ∙ ap (λ l. l ++ sign_code (third quad)) two) in
    let whole = c.with_sign-4.ensures.code ∙ (ap (λ z. digits c.with_sign-3.result.length c.with_sign-3.result.value ++ sign_code z) y ∙ ap (λ l. l ++ sign_code (fourth quad)) three) in
    whole ∙ (regroup front (sign_code (first quad)) (sign_code (second quad)) (sign_code (third quad)) (sign_code (fourth quad)) ∙ sym (quad_code_of-four c.args.table quad size))

pub returns-clause-length : goal.returns-clause-length
returns-clause-length c = sym (length-digits c.with_sign-4.result.length c.with_sign-4.result.value) ∙ ap length (returns-clause-code c)
