use Rattle.std.proofs.Common.{◌≡◌, ℕ, get_or, arith, ap, inl, inr}
use Rattle.std.proofs.lemmas.Bool.{cases_lt}
use Rattle.l3_region.proofs.costs.least_class.Goals as goal

pub loop-j-preserved : goal.loop-j-preserved
loop-j-preserved c =
    let inv = c.loop-j.invariant in
    let j : ℕ = c.loop-j.j in
    let most = c.args.most.now in
    let now = c.min-least.ensures in
    record {
      some = omega arith;
      lower = λ i small. elim (cases_lt i j) [
        | inl before ↦ omega (arith, inv.lower i before, now)
        | inr here ↦ (let same : i ≡ j = omega arith in let e = ap (λ x. get_or most x 0) same in omega (arith, e, now))
      ];
    }
