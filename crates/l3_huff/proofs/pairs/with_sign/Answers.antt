use Rattle.std.proofs.Common.{◌≡◌, ◌++◌, pos, ap, sym, ◌∙◌, to_z, of_z, w16, rules, FitsSigned, arith}
use Rattle.std.proofs.lemmas.Int.{ints, to_z-of_z}
use Rattle.std.specs.Prelude.{◌<ℤ◌, ◌≤ℤ◌}
use Rattle.l3_bits.specs.Bits.{digits}
use Rattle.l3_huff.specs.Codes.{sign_code}
use Rattle.l3_huff.proofs.Lengths.{append-none, sign_code-zero, sign_code-negative, sign_code-positive}
use Rattle.l3_huff.proofs.pairs.with_sign.Goals as goal

pub returns-then-x-eq0-clause-code : goal.returns-then-x-eq0-clause-code
returns-then-x-eq0-clause-code c =
    let zero_is : c.args.x ≡ pos 0 = sym (to_z-of_z w16 c.args.x (let fits : FitsSigned w16 c.args.x = search rules in fits)) ∙ ap (to_z w16) c.if-x-eq0.true in
    sym (append-none (digits c.args.code.length c.args.code.value) (sign_code c.args.x) (sign_code-zero c.args.x zero_is))

pub returns-then-x-lt0-clause-code : goal.returns-then-x-lt0-clause-code
returns-then-x-lt0-clause-code c =
    let negative : c.args.x <ℤ pos 0 = omega (arith, ints) in
    c.followed_by.ensures.digits ∙ ap (λ l. digits c.args.code.length c.args.code.value ++ l) (sym (sign_code-negative c.args.x negative))

pub returns-else-x-lt0-clause-code : goal.returns-else-x-lt0-clause-code
returns-else-x-lt0-clause-code c =
    let positive : pos 0 ≤ℤ c.args.x = omega (arith, ints) in
    c.followed_by-else-x-lt0.ensures.digits ∙ ap (λ l. digits c.args.code.length c.args.code.value ++ l)
    (sym (sign_code-positive c.args.x (λ is. c.if-x-eq0.false (ap (of_z w16) is)) positive))
