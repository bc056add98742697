use Rattle.std.proofs.Common.{◌≡◌, ◌+◌, ◌-◌, ◌*◌, ◌/◌, ◌<◌, ◌≤◌, ◌∙◌, ap, sym, arith, rules, ℕ, ℤ, pos, negsuc, ◌+ℤ◌, ◌-ℤ◌, ◌*ℤ◌, unsigned_abs, FitsSigned, to_z, of_z, w32, w64}
use lib.Signed.{shr_z}
use Rattle.std.proofs.lemmas.Int.{ints, to_z-of_z, fits_signed_from_abs}
use Rattle.l3_base.specs.Sums.{floor_div, IsWithin}
use Rattle.l3_transform.proofs.rounding.ninth.Goals as goal

-- n is what is divided without signs, and the ninth lies 2^28 below the quotient
record IsRaised (y z : ℤ) (n : ℕ) : Type 0 where
  pub value : shr_z y 32768 +ℤ pos 2415919104 ≡ pos n
  pub small : n < 4294967296
  pub ninth : floor_div z 589824 ≡ pos (n / 9) -ℤ pos 268435456

-- the number that is divided, by the sign of the rounded sum's own
raised_number : ℤ → ℕ
raised_number (pos a) = a / 32768 + 2415919104
raised_number (negsuc a) = 2415919103 - a / 32768

-- it is that number on both sides of zero
raised_is : (y z : ℤ) → z ≡ pos 2 *ℤ y → unsigned_abs y ≤ 52609960525824 → IsRaised y z (raised_number y)
unfolding raised_number
raised_is (pos a) z e small =
    let twice : z ≡ pos (2 * a) = omega (arith, ints) in
    let ninth : pos (2 * a / 589824) ≡ pos ((a / 32768 + 2415919104) / 9) -ℤ pos 268435456 = omega (arith, ints) in
    record { value = omega (arith, ints); small = omega arith; ninth = rw twice ninth }
raised_is (negsuc a) z e small =
    let twice : z ≡ negsuc (2 * a + 1) = omega (arith, ints) in
    let ninth : negsuc ((2 * a + 1) / 589824) ≡ pos ((2415919103 - a / 32768) / 9) -ℤ pos 268435456 = omega (arith, ints) in
    record { value = omega (arith, ints); small = omega arith; ninth = rw twice ninth }

-- what the code has before it divides
abbrev raised_code : ℤ → ℤ
raised_code sum = to_z w64 (of_z w64 (shr_z (to_z w64 (of_z w64 (to_z w64 (of_z w64 sum) +ℤ pos 147456))) 32768)) +ℤ pos 2415919104

-- a shifted sum fits 64 bits
shr_small : (y : ℤ) → unsigned_abs y ≤ 52609960525824 → unsigned_abs (shr_z y 32768) < 9223372036854775808
shr_small (pos a) small = omega arith
shr_small (negsuc a) small = omega (arith, ints)

module _ (sum : ℤ) (fits : FitsSigned w64 sum) (small : IsWithin 52609960378368 sum) where
  -- the sum with half of the divisor, as the code has it too
  sum_small : unsigned_abs (sum +ℤ pos 147456) ≤ 52609960525824
  sum_small = omega (arith, ints)

  sum_is : to_z w64 (of_z w64 (to_z w64 (of_z w64 sum) +ℤ pos 147456)) ≡ sum +ℤ pos 147456
  sum_is =
      let sum_fits : FitsSigned w64 (sum +ℤ pos 147456) = fits_signed_from_abs w64 (sum +ℤ pos 147456) (let s = sum_small in omega arith) in
      ap (λ x. to_z w64 (of_z w64 (x +ℤ pos 147456))) (to_z-of_z w64 sum fits) ∙ to_z-of_z w64 (sum +ℤ pos 147456) sum_fits

  -- what is divided, as the code has it
  number : ℕ
  number = raised_number (sum +ℤ pos 147456)

  raised : IsRaised (sum +ℤ pos 147456) (pos 2 *ℤ sum +ℤ pos 294912) number
  unfolding number
  raised = raised_is (sum +ℤ pos 147456) (pos 2 *ℤ sum +ℤ pos 294912) (omega (arith, ints)) sum_small

  raised_code-is : raised_code sum ≡ pos number
  raised_code-is =
      ap (λ x. to_z w64 (of_z w64 (shr_z x 32768)) +ℤ pos 2415919104) sum_is
      ∙ (ap (λ x. x +ℤ pos 2415919104) (to_z-of_z w64 (shr_z (sum +ℤ pos 147456) 32768) (fits_signed_from_abs w64 (shr_z (sum +ℤ pos 147456) 32768) (shr_small (sum +ℤ pos 147456) sum_small)))
      ∙ raised.value)

  pub raised_fits : FitsSigned w64 (raised_code sum)
  raised_fits = rw raised_code-is (fits_signed_from_abs w64 (pos number) (let s = raised.small in omega arith))

  cast_is : to_z w64 (of_z w64 (raised_code sum)) ≡ pos number
  cast_is = to_z-of_z w64 (raised_code sum) raised_fits ∙ raised_code-is

  -- the quotient and what lies 2^28 below it
  quotient_is : unsigned_abs (to_z w64 (of_z w64 (raised_code sum))) / 9 ≡ number / 9
  quotient_is = ap (λ x. unsigned_abs x / 9) cast_is

  ninth_fits : FitsSigned w32 (pos (unsigned_abs (to_z w64 (of_z w64 (raised_code sum))) / 9))
  ninth_fits = rw quotient_is (let s = raised.small in fits_signed_from_abs w32 (pos (number / 9)) (omega arith))

  lowered_fits : FitsSigned w32 (to_z w32 (unsigned_abs (to_z w64 (of_z w64 (raised_code sum))) / 9) -ℤ pos 268435456)
  lowered_fits = rw quotient_is (let s = raised.small in fits_signed_from_abs w32 (to_z w32 (number / 9) -ℤ pos 268435456) (omega (arith, ints)))

  lowered_is : to_z w32 (of_z w32 (to_z w32 (unsigned_abs (to_z w64 (of_z w64 (raised_code sum))) / 9) -ℤ pos 268435456)) ≡ floor_div (pos 2 *ℤ sum +ℤ pos 294912) 589824
  lowered_is =
      let below = raised.small in
      let low : to_z w32 (number / 9) -ℤ pos 268435456 ≡ pos (number / 9) -ℤ pos 268435456 = omega (arith, ints) in
      to_z-of_z w32 (to_z w32 (unsigned_abs (to_z w64 (of_z w64 (raised_code sum))) / 9) -ℤ pos 268435456) lowered_fits
      ∙ (ap (λ q. to_z w32 q -ℤ pos 268435456) quotient_is ∙ (low ∙ sym raised.ninth))

pub overflow_add-raised-2 : goal.overflow_add-raised-2
overflow_add-raised-2 c = raised_fits c.args.sum c.ranges.sum c.requires

pub overflow_cast-result : goal.overflow_cast-result
overflow_cast-result c = let below = (raised c.args.sum c.ranges.sum c.requires).small in rw (cast_is c.args.sum c.ranges.sum c.requires) (tt, search rules)

pub overflow_cast-result-2 : goal.overflow_cast-result-2
overflow_cast-result-2 c = ninth_fits c.args.sum c.ranges.sum c.requires

pub overflow_sub-result : goal.overflow_sub-result
overflow_sub-result c = lowered_fits c.args.sum c.ranges.sum c.requires

pub returns : goal.returns
returns c = lowered_is c.args.sum c.ranges.sum c.requires
