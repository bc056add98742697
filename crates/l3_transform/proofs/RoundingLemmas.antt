-- The sum over 2^27, to the nearest, through the casts of the code.
use Rattle.std.proofs.Common.{◌≡◌, ℕ, ◌+◌, ◌^◌, ◌<◌, ◌≤◌, ℤ, pos, negsuc, ◌+ℤ◌, ◌*ℤ◌, ◌*◌, ap, ◌∙◌, lit<, arith, refl, to_z, of_z, w64, w32, FitsSigned}
use Rattle.std.proofs.lemmas.Int.{ints, to_z-of_z, fits_signed_mul}
use Rattle.std.specs.Prelude.{unsigned_abs}
use Rattle.std.specs.Int.Signed.{shr_z, mag}
use Rattle.l3_base.specs.Sums.{floor_div}

shr_small : (x : ℤ) → mag x < 2 ^ 58 → mag (shr_z x 134217728) < 2 ^ 31
shr_small (pos a) h = omega arith
shr_small (negsuc a) h = omega arith

sum_small : (s : ℤ) → unsigned_abs s ≤ 2 ^ 57 → mag (s +ℤ pos 67108864) < 2 ^ 58
sum_small s h = grind (arith, ints)

shr_is : (x : ℤ) → shr_z x 134217728 ≡ floor_div x 134217728
shr_is (pos a) = refl
shr_is (negsuc a) = refl

pub rounded : (s : ℤ) → unsigned_abs s ≤ 2 ^ 57 → to_z w32 (of_z w32 (to_z w64 (of_z w64 (shr_z (to_z w64 (of_z w64 (s +ℤ pos 67108864))) 134217728)))) ≡ floor_div (s +ℤ pos 67108864) 134217728
rounded s h =
    let small : mag (s +ℤ pos 67108864) < 2 ^ 58 = sum_small s h in
    let shifted : mag (shr_z (s +ℤ pos 67108864) 134217728) < 2 ^ 31 = shr_small (s +ℤ pos 67108864) small in
    let a : FitsSigned w64 (s +ℤ pos 67108864) = record { sfits = omega arith } in
    let b : FitsSigned w64 (shr_z (s +ℤ pos 67108864) 134217728) = record { sfits = omega arith } in
    let d : FitsSigned w32 (shr_z (s +ℤ pos 67108864) 134217728) = record { sfits = omega arith } in
    rw (to_z-of_z w64 (s +ℤ pos 67108864) a, to_z-of_z w64 (shr_z (s +ℤ pos 67108864) 134217728) b, to_z-of_z w32 (shr_z (s +ℤ pos 67108864) 134217728) d) (shr_is (s +ℤ pos 67108864))

-- the steps of subband i at folded column j, through the casts of the code
pub steps_are : (i j : ℕ) → i < 32 → j < 32 → to_z w64 (of_z w64 (to_z w64 (of_z w64 (to_z w64 (of_z w64 (pos 2 *ℤ to_z w64 i)) +ℤ pos 1)) *ℤ to_z w64 j)) ≡ pos (2 * i + 1) *ℤ pos j
steps_are i j low_i low_j =
    let first : to_z w64 (of_z w64 (to_z w64 (of_z w64 (pos 2 *ℤ to_z w64 i)) +ℤ pos 1)) ≡ pos (2 * i + 1) = omega (arith, ints) in
    let second : to_z w64 j ≡ pos j = omega (arith, ints) in
    let fits : FitsSigned w64 (pos (2 * i + 1) *ℤ pos j) = fits_signed_mul w64 (pos (2 * i + 1)) (pos j) 64 64 (omega arith) (omega arith) (lit< tt) in
    ap (λ a. to_z w64 (of_z w64 (a *ℤ to_z w64 j))) first
    ∙ (ap (λ b. to_z w64 (of_z w64 (pos (2 * i + 1) *ℤ b))) second ∙ to_z-of_z w64 (pos (2 * i + 1) *ℤ pos j) fits)
