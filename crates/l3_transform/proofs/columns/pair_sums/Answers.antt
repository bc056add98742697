use Rattle.std.proofs.Common.{rules, ◌≡◌, ◌≤◌, ◌+◌, ◌*◌, ◌+ℤ◌, ◌*ℤ◌, pos, ℤ, ℕ, to_z, of_z, w16, w32, FitsSigned, below_more, arith, ap, ◌∙◌}
use Rattle.std.proofs.Math.ListN.{length-set}
use Rattle.std.proofs.lemmas.Int.{to_z-of_z, fits_signed_from_abs}
use Rattle.std.specs.Prelude.{unsigned_abs}
use Rattle.l3_base.specs.Lists.{entry}
use Rattle.l3_base.specs.Sums.{IsWithin}
use Rattle.l3_base.proofs.ListLemmas.{filled_more}
use Rattle.l3_base.proofs.SumLemmas.{abs_add}
use Rattle.l3_transform.specs.Pairs.{pair_sum}
use Rattle.l3_transform.proofs.columns.pair_sums.Goals as goal

pub overflow_add-sums : goal.overflow_add-sums
overflow_add-sums c =
    let p : ℤ = c.product.result in
    let q : ℤ = c.product-in-loop-j.result in
    let first : unsigned_abs p ≤ 327155712 = c.product.ensures.bound in
    let second : unsigned_abs q ≤ 327155712 = c.product-in-loop-j.ensures.bound in
    let left : to_z w32 (of_z w32 p) ≡ p = to_z-of_z w32 p (fits_signed_from_abs w32 p (omega arith)) in
    let right : to_z w32 (of_z w32 q) ≡ q = to_z-of_z w32 q (fits_signed_from_abs w32 q (omega arith)) in
    rw (left, right) (fits_signed_from_abs w32 (p +ℤ q) (omega (arith, abs_add p q)))

pub loop-j-preserved : goal.loop-j-preserved
unfolding pair_sum
loop-j-preserved c =
    let j : ℕ = c.loop-j.j in
    let p : ℤ = c.product.result in
    let q : ℤ = c.product-in-loop-j.result in
    let a : ℤ = entry c.args.entries.now (2 * c.loop-j.j) in
    let b : ℤ = entry c.args.entries.now (2 * c.loop-j.j + 1) in
    let x : ℤ = entry c.args.row.now (2 * c.loop-j.j) in
    let y : ℤ = entry c.args.row.now (2 * c.loop-j.j + 1) in
    let fits_a : FitsSigned w16 (entry c.args.entries.now (2 * c.loop-j.j)) = search rules in
    let fits_b : FitsSigned w16 (entry c.args.entries.now (2 * c.loop-j.j + 1)) = search rules in
    let fits_x : FitsSigned w16 (entry c.args.row.now (2 * c.loop-j.j)) = search rules in
    let fits_y : FitsSigned w16 (entry c.args.row.now (2 * c.loop-j.j + 1)) = search rules in
    let own_a : to_z w16 (of_z w16 a) ≡ a = to_z-of_z w16 a fits_a in
    let own_b : to_z w16 (of_z w16 b) ≡ b = to_z-of_z w16 b fits_b in
    let own_x : to_z w16 (of_z w16 x) ≡ x = to_z-of_z w16 x fits_x in
    let own_y : to_z w16 (of_z w16 y) ≡ y = to_z-of_z w16 y fits_y in
    let first : p ≡ a *ℤ x = c.product.ensures.value ∙ (ap (λ z. z *ℤ to_z w16 (of_z w16 x)) own_a ∙ ap (λ z. a *ℤ z) own_x) in
    let second : q ≡ b *ℤ y = c.product-in-loop-j.ensures.value ∙ (ap (λ z. z *ℤ to_z w16 (of_z w16 y)) own_b ∙ ap (λ z. b *ℤ z) own_y) in
    let small_p : unsigned_abs p ≤ 327155712 = c.product.ensures.bound in
    let small_q : unsigned_abs q ≤ 327155712 = c.product-in-loop-j.ensures.bound in
    let left : to_z w32 (of_z w32 p) ≡ p = to_z-of_z w32 p (fits_signed_from_abs w32 p (omega arith)) in
    let right : to_z w32 (of_z w32 q) ≡ q = to_z-of_z w32 q (fits_signed_from_abs w32 q (omega arith)) in
    let sum : to_z w32 (of_z w32 (to_z w32 (of_z w32 p) +ℤ to_z w32 (of_z w32 q))) ≡ p +ℤ q = rw (left, right) (to_z-of_z w32 (p +ℤ q) (fits_signed_from_abs w32 (p +ℤ q) (omega (arith, abs_add p q)))) in
    let range_x : IsWithin 32768 x = rw own_x at c.product.ensures.range in
    let range_y : IsWithin 32768 y = rw own_y at c.product-in-loop-j.ensures.range in
    record {
      long = length-set c.loop-j.sums c.loop-j.j _ ∙ c.loop-j.invariant.long;
      value = filled_more (λ m z. z ≡ pair_sum (entry c.args.entries.now) (entry c.args.row.now) m) c.loop-j.sums c.loop-j.j _ (pos 0) (omega arith) c.loop-j.invariant.value
          (sum ∙ (ap (λ z. z +ℤ q) first ∙ ap (λ z. a *ℤ x +ℤ z) second));
      range = λ n lt. below_more (λ i. IsWithin 32768 (entry c.args.row.now i)) (2 * c.loop-j.j + 1)
          (below_more (λ i. IsWithin 32768 (entry c.args.row.now i)) (2 * c.loop-j.j) c.loop-j.invariant.range range_x) range_y n (omega arith);
    }
