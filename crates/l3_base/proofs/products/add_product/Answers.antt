use Rattle.std.proofs.Common.{◌≡◌, ◌+◌, ◌*◌, ◌<◌, ◌^◌, ◌∙◌, ap, arith, ℤ, ◌+ℤ◌, ◌*ℤ◌, unsigned_abs, FitsSigned, to_z, of_z, w64}
use Rattle.std.proofs.lemmas.Int.{to_z-of_z, unsigned_abs-mul, fits_signed_from_abs}
use Rattle.l3_base.proofs.SumLemmas.{abs_add}
use Rattle.l3_base.proofs.products.add_product.Goals as goal

-- a product that is small beside the sum fits
product_fits : (sum a b : ℤ) → unsigned_abs sum + unsigned_abs a * unsigned_abs b < 2 ^ 63 → FitsSigned w64 (a *ℤ b)
product_fits sum a b small = let e = unsigned_abs-mul a b in fits_signed_from_abs w64 (a *ℤ b) (rw e (omega arith))

-- so does the sum with it
sum_fits : (sum a b : ℤ) → unsigned_abs sum + unsigned_abs a * unsigned_abs b < 2 ^ 63 → FitsSigned w64 (sum +ℤ a *ℤ b)
sum_fits sum a b small =
    fits_signed_from_abs w64 (sum +ℤ a *ℤ b) (omega (arith, abs_add sum (a *ℤ b), unsigned_abs-mul a b))

-- the product as the code computes it
product_is : (a b : ℤ) → FitsSigned w64 a → FitsSigned w64 b → to_z w64 (of_z w64 a) *ℤ to_z w64 (of_z w64 b) ≡ a *ℤ b
product_is a b left right = ap (λ x. x *ℤ to_z w64 (of_z w64 b)) (to_z-of_z w64 a left) ∙ ap (λ y. a *ℤ y) (to_z-of_z w64 b right)

-- the sum as the code computes it
sum_is : (sum a b : ℤ) → FitsSigned w64 sum → FitsSigned w64 a → FitsSigned w64 b → unsigned_abs sum + unsigned_abs a * unsigned_abs b < 2 ^ 63 →
    to_z w64 (of_z w64 sum) +ℤ to_z w64 (of_z w64 (to_z w64 (of_z w64 a) *ℤ to_z w64 (of_z w64 b))) ≡ sum +ℤ a *ℤ b
sum_is sum a b first left right small =
    ap (λ s. s +ℤ to_z w64 (of_z w64 (to_z w64 (of_z w64 a) *ℤ to_z w64 (of_z w64 b)))) (to_z-of_z w64 sum first)
    ∙ ap (λ p. sum +ℤ p) (ap (λ p. to_z w64 (of_z w64 p)) (product_is a b left right) ∙ to_z-of_z w64 (a *ℤ b) (product_fits sum a b small))

pub overflow_mul-result : goal.overflow_mul-result
overflow_mul-result c = rw (product_is c.args.a c.args.b c.ranges.a c.ranges.b) (product_fits c.args.sum c.args.a c.args.b c.requires)

pub overflow_add-result : goal.overflow_add-result
overflow_add-result c =
    rw (sum_is c.args.sum c.args.a c.args.b c.ranges.sum c.ranges.a c.ranges.b c.requires) (sum_fits c.args.sum c.args.a c.args.b c.requires)

pub returns-clause-value : goal.returns-clause-value
returns-clause-value c =
    ap (λ s. to_z w64 (of_z w64 s)) (sum_is c.args.sum c.args.a c.args.b c.ranges.sum c.ranges.a c.ranges.b c.requires)
    ∙ to_z-of_z w64 (c.args.sum +ℤ c.args.a *ℤ c.args.b) (sum_fits c.args.sum c.args.a c.args.b c.requires)

pub returns-clause-bound : goal.returns-clause-bound
returns-clause-bound c =
    rw (returns-clause-value c) (omega (arith, abs_add c.args.sum (c.args.a *ℤ c.args.b), unsigned_abs-mul c.args.a c.args.b))
