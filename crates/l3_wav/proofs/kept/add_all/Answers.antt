use Rattle.std.proofs.Common.{◌≡◌, rules, ◌∙◌, sym, ap, ◌+◌, FitsSigned, w16, pos, get_or, ◌++◌, ◌∷◌, [], suc, take, arith, append_assoc}
use Rattle.std.proofs.lemmas.Int.{to_z-of_z}
use Rattle.std.proofs.Math.Seq.{take-suc}
use Rattle.l3_wav.proofs.kept.add_all.Goals as goal

pub loop-i-preserved : goal.loop-i-preserved
loop-i-preserved c =
    let values = c.args.values.now in
    let before = c.args.left.now.items in
    let i = c.loop-i.i in
    let value : FitsSigned w16 (get_or values i (pos 0)) = search rules in
    let inv = c.loop-i.invariant in
    let next : suc i ≡ i + 1 = omega arith in
    record {
      left_is = c.push_reserved.ensures.items ∙ (ap (λ x. c.loop-i.left.items ++ (x ∷ [])) (to_z-of_z w16 _ value)
          ∙ (ap (λ xs. xs ++ (get_or values i (pos 0) ∷ [])) inv.left_is
          ∙ (append_assoc before (take i values) (get_or values i (pos 0) ∷ [])
          ∙ (ap (λ xs. before ++ xs) (sym (take-suc values i (pos 0) c.loop-i-test.true)) ∙ ap (λ k. before ++ take k values) next))));
      left_long = omega (arith, c.push_reserved.ensures.len, inv.left_long);
      left_capacity = c.push_reserved.ensures.capacity ∙ inv.left_capacity;
    }
