use Rattle.std.proofs.Common.{◌≡◌, ◌⊎◌, inl, inr, ◌≤◌, ℕ, ℤ, pos, negsuc, ◌-ℤ◌, ◌*ℤ◌, unsigned_abs, ltb, false, FitsSigned, to_z, of_z, w16, w32, refl, ap, ◌∙◌, arith}
use mir.Val.{bool_byte}
use lib.Signed.{lt_z}
use Rattle.std.proofs.lemmas.Int.{ints, to_z-of_z}
use Rattle.std.proofs.lemmas.Bool.Decides.{nat_tests}
use Rattle.l3_quant.specs.Quantiser.{with_sign_of}
use Rattle.l3_quant.proofs.quantiser.signed.Goals as goal

-- the mark of a line is 0 where values keep their sign, and 1 where they are negated
IsMark : ℤ → ℤ → Type 0
IsMark x r = ((r ≡ pos 0) × ((n : ℕ) → with_sign_of x n ≡ pos n)) ⊎ ((r ≡ pos 1) × ((n : ℕ) → with_sign_of x n ≡ pos 0 -ℤ pos n))

-- whether the line is negative, as a number, is its mark
marked : (x r : ℤ) → FitsSigned w32 x → r ≡ pos (bool_byte (lt_z (to_z w32 (of_z w32 x)) (pos 0))) → IsMark x r
unfolding IsMark
marked (pos k) r fits e =
    let not_less : ltb k 0 ≡ false = grind (arith, nat_tests) in
    inl (e ∙ (ap (λ z. pos (bool_byte (lt_z z (pos 0)))) (to_z-of_z w32 (pos k) fits) ∙ ap (λ b. pos (bool_byte b)) not_less), λ n. refl)
marked (negsuc k) r fits e =
    inr (e ∙ ap (λ z. pos (bool_byte (lt_z z (pos 0)))) (to_z-of_z w32 (negsuc k) fits), λ n. refl)

-- the product with 1 or with -1
abbrev product_of : ℤ → ℕ → ℤ
product_of r n = to_z w16 (of_z w16 (pos 1 -ℤ to_z w16 (of_z w16 (pos 2 *ℤ to_z w16 (of_z w16 r))))) *ℤ to_z w16 n

-- no step of the product leaves 16 bits
twice_fits : (x r : ℤ) → IsMark x r → FitsSigned w16 (pos 2 *ℤ to_z w16 (of_z w16 r))
unfolding IsMark
twice_fits x r (inl e) = rw e.0 (omega (arith, ints))
twice_fits x r (inr e) = rw e.0 (omega (arith, ints))

less_fits : (x r : ℤ) → IsMark x r → FitsSigned w16 (pos 1 -ℤ to_z w16 (of_z w16 (pos 2 *ℤ to_z w16 (of_z w16 r))))
unfolding IsMark
less_fits x r (inl e) = rw e.0 (omega (arith, ints))
less_fits x r (inr e) = rw e.0 (omega (arith, ints))

product_fits : (x r : ℤ) (n : ℕ) → n ≤ 8191 → IsMark x r → FitsSigned w16 (product_of r n)
unfolding IsMark
product_fits x r n small (inl e) = rw e.0 (omega (arith, ints))
product_fits x r n small (inr e) = rw e.0 (omega (arith, ints))

-- the product is the value with its sign
product_value : (x r : ℤ) (n : ℕ) → n ≤ 8191 → IsMark x r → to_z w16 (of_z w16 (product_of r n)) ≡ with_sign_of x n
unfolding IsMark
product_value x r n small (inl e) = rw (e.0, e.1 n) (omega (arith, ints))
product_value x r n small (inr e) = rw (e.0, e.1 n) (omega (arith, ints))

-- a sign keeps the absolute value
sign_keeps : (x : ℤ) (n : ℕ) → unsigned_abs (with_sign_of x n) ≡ n
sign_keeps (pos k) n = refl
sign_keeps (negsuc k) n = omega (arith, ints)

pub overflow_mul-result : goal.overflow_mul-result
overflow_mul-result c = twice_fits c.args.x c.from.result (marked c.args.x c.from.result c.ranges.x c.from.ensures)

pub overflow_sub-result : goal.overflow_sub-result
overflow_sub-result c = less_fits c.args.x c.from.result (marked c.args.x c.from.result c.ranges.x c.from.ensures)

pub overflow_mul-result-2 : goal.overflow_mul-result-2
overflow_mul-result-2 c =
    product_fits c.args.x c.from.result c.args.n c.requires (marked c.args.x c.from.result c.ranges.x c.from.ensures)

pub returns-clause-value : goal.returns-clause-value
returns-clause-value c =
    product_value c.args.x c.from.result c.args.n c.requires (marked c.args.x c.from.result c.ranges.x c.from.ensures)

pub returns-clause-bound : goal.returns-clause-bound
returns-clause-bound c =
    let value = returns-clause-value c in
    let size = ap unsigned_abs value ∙ sign_keeps c.args.x c.args.n in
    rw size c.requires
