use Rattle.std.proofs.Common.{rules, FitsSigned, ◌≡◌, ◌≤◌, ◌∙◌, ℤ, pos, get_or, w16, w32, sym, subst, ap, arith}
use Rattle.std.specs.Prelude.{unsigned_abs}
use Rattle.std.proofs.Math.ListN.{length-set}
use Rattle.std.proofs.lemmas.Int.{to_z-of_z}
use Rattle.std.proofs.lemmas.List.Elements.{All-from_get_or}
use Rattle.l3_base.proofs.ListLemmas.{filled_more}
use Rattle.l3_quant.specs.Quantiser.{magnitude_at, with_sign_of}
use Rattle.l3_quant.proofs.Codable.{magnitude-cut}
use Rattle.l3_quant.proofs.quantiser.write_values.Goals as goal

pub returns-then-n-gt-GREATEST-clause-above : goal.returns-then-n-gt-GREATEST-clause-above
returns-then-n-gt-GREATEST-clause-above c =
    λ steps are.
    let i = c.loop-i.i in
    let value = magnitude-cut (unsigned_abs (get_or c.args.lines.now i (pos 0))) c.reached-n.result (get_or c.args.scaled.now i 0) (steps i)
    c.reached-n.ensures (are i (omega arith)) in
    (i, omega arith, omega (arith, value))

pub loop-i-preserved : goal.loop-i-preserved
loop-i-preserved c =
    let i = c.loop-i.i in
    let x = get_or c.args.lines.now i (pos 0) in
    let line : FitsSigned w32 x = search rules in
    let fits : FitsSigned w16 c.signed.result = search rules in
    let whole = to_z-of_z w16 c.signed.result fits in
    let sign : c.signed.result ≡ with_sign_of x c.reached-n.result =
    c.signed.ensures.value ∙ ap (λ z. with_sign_of z c.reached-n.result) (to_z-of_z w32 x line) in
    record {
      long = length-set c.loop-i.out i _ ∙ c.loop-i.invariant.long;
      value = λ steps are.
          let value = magnitude-cut (unsigned_abs x) c.reached-n.result (get_or c.args.scaled.now i 0) (steps i) c.reached-n.ensures (are i (omega arith)) in
          let small : c.reached-n.result ≡ magnitude_at (unsigned_abs x) (steps i) = omega (arith, value) in
          filled_more (λ k q. q ≡ with_sign_of (get_or c.args.lines.now k (pos 0)) (magnitude_at (unsigned_abs (get_or c.args.lines.now k (pos 0))) (steps k)))
          c.loop-i.out i _ (pos 0) (omega (arith, c.loop-i.invariant.long)) (c.loop-i.invariant.value steps are)
          (whole ∙ (sign ∙ ap (with_sign_of x) small));
      bound = filled_more (λ _ q. unsigned_abs q ≤ 8191) c.loop-i.out i _ (pos 0) (omega (arith, c.loop-i.invariant.long)) c.loop-i.invariant.bound
          (subst (λ (q : ℤ). unsigned_abs q ≤ 8191) (sym whole) c.signed.ensures.bound);
    }

pub returns-clause-bound : goal.returns-clause-bound
returns-clause-bound c =
    All-from_get_or (λ q. unsigned_abs q ≤ 8191) c.loop-i.out (pos 0)
    (λ k lt. c.loop-i.invariant.bound k (omega (arith, c.loop-i.invariant.long, lt)))
