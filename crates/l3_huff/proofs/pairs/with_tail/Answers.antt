use Rattle.std.proofs.Common.{◌≡◌, ◌++◌, ap, ◌∙◌, unsigned_abs, to_z, of_z, w16, rules, FitsSigned, append_assoc}
use Rattle.std.proofs.lemmas.Int.{to_z-of_z}
use Rattle.l3_bits.specs.Bits.{digits}
use Rattle.l3_huff.specs.Codes.{linbits_code, sign_code, tail_code}
use Rattle.l3_huff.proofs.pairs.with_tail.Goals as goal

pub returns-clause-code : goal.returns-clause-code
unfolding tail_code
returns-clause-code c =
    let front = digits c.args.code.length c.args.code.value in
    let same : c.unsigned_abs.result ≡ unsigned_abs c.args.x = c.unsigned_abs.ensures.value ∙ ap unsigned_abs (to_z-of_z w16 c.args.x (let fits : FitsSigned w16 c.args.x = search rules in fits)) in
    let own : to_z w16 (of_z w16 c.args.x) ≡ c.args.x = to_z-of_z w16 c.args.x (let fits : FitsSigned w16 c.args.x = search rules in fits) in
    c.with_sign.ensures.code
    ∙ (ap (λ x. digits c.with_linbits.result.length c.with_linbits.result.value ++ sign_code x) own
    ∙ (ap (λ l. l ++ sign_code c.args.x) c.with_linbits.ensures.code
    ∙ (append_assoc front (linbits_code c.args.table c.unsigned_abs.result) (sign_code c.args.x)
    ∙ ap (λ n. front ++ (linbits_code c.args.table n ++ sign_code c.args.x)) same)))
