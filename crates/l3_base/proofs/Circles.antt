-- Steps round a circle.
use Rattle.std.proofs.Common.{◌≡◌, ℕ, zero, suc, ◌-◌, ◌%◌, ◌≤◌, ℤ, pos, negsuc, ◌+ℤ◌, ◌-ℤ◌, neg_ℤ, min, arith, refl, ap, ◌∙◌}
use Rattle.std.proofs.lemmas.Int.{ints}
use Rattle.std.specs.Prelude.{unsigned_abs}
use Rattle.std.specs.Int.{int_rem_euclid}
use Rattle.l3_base.specs.Lists.{entry}
use Rattle.l3_base.specs.Cosines.{on_half_circle, steps_apart, cosine64, cosine72, IsExtended}
use Rattle.l3_base.specs.declared.cosines.TheConstants.{K64, K72}
use Rattle.l3_base.proofs.Entries.{same_at, within_at}

abs-neg : (m : ℤ) → unsigned_abs (neg_ℤ m) ≡ unsigned_abs m
abs-neg (pos zero) = refl
abs-neg (pos (suc n)) = refl
abs-neg (negsuc n) = refl

steps64-turned : (m : ℤ) → steps_apart 64 (pos 64 -ℤ m) ≡ 64 - steps_apart 64 m
steps64-turned m = grind (arith, ints)

steps64-periodic : (m : ℤ) → steps_apart 64 (m +ℤ pos 128) ≡ steps_apart 64 m
steps64-periodic m = grind (arith, ints)

steps64-rem : (m : ℤ) → steps_apart 64 (pos (unsigned_abs (int_rem_euclid m (pos 128)))) ≡ steps_apart 64 m
steps64-rem (pos a) = omega arith
steps64-rem (negsuc a) = omega arith

-- back from the half circle the sign is the other one
half64-turned : (r : ℕ) → r ≤ 64 → on_half_circle K64 64 (64 - r) ≡ neg_ℤ (on_half_circle K64 64 r)
half64-turned r le = same_at (λ k. on_half_circle K64 64 (64 - k)) (λ k. neg_ℤ (on_half_circle K64 64 k)) 65 r refl (omega arith)

-- whole circles do not count
pub cosine64-rem : (m : ℤ) → cosine64 (pos (unsigned_abs (int_rem_euclid m (pos 128)))) ≡ cosine64 m
unfolding cosine64
cosine64-rem m = ap (on_half_circle K64 64) (steps64-rem m)

pub extended64 : IsExtended K64 64 cosine64
unfolding cosine64
extended64 = record {
  printed = λ m le. same_at (λ k. cosine64 (pos k)) (entry K64) 33 m refl (omega arith);
  turned = λ m. ap (on_half_circle K64 64) (steps64-turned m) ∙ half64-turned (steps_apart 64 m) (omega arith);
  even = λ m. ap (λ a. on_half_circle K64 64 (min (a % 128) (128 - a % 128))) (abs-neg m);
  periodic = λ m. ap (on_half_circle K64 64) (steps64-periodic m);
}

-- every entry of the circle is at most 2^15
pub cosine64_small : (m : ℤ) → unsigned_abs (cosine64 m) ≤ 32768
unfolding cosine64
cosine64_small m = within_at 32768 (on_half_circle K64 64) 65 (steps_apart 64 m) refl (omega arith)

steps72-turned : (m : ℤ) → steps_apart 72 (pos 72 -ℤ m) ≡ 72 - steps_apart 72 m
steps72-turned m = grind (arith, ints)

steps72-periodic : (m : ℤ) → steps_apart 72 (m +ℤ pos 144) ≡ steps_apart 72 m
steps72-periodic m = grind (arith, ints)

steps72-rem : (m : ℤ) → steps_apart 72 (pos (unsigned_abs (int_rem_euclid m (pos 144)))) ≡ steps_apart 72 m
steps72-rem (pos a) = omega arith
steps72-rem (negsuc a) = omega arith

-- back from the half circle the sign is the other one
half72-turned : (r : ℕ) → r ≤ 72 → on_half_circle K72 72 (72 - r) ≡ neg_ℤ (on_half_circle K72 72 r)
half72-turned r le = same_at (λ k. on_half_circle K72 72 (72 - k)) (λ k. neg_ℤ (on_half_circle K72 72 k)) 73 r refl (omega arith)

-- whole circles do not count
pub cosine72-rem : (m : ℤ) → cosine72 (pos (unsigned_abs (int_rem_euclid m (pos 144)))) ≡ cosine72 m
unfolding cosine72
cosine72-rem m = ap (on_half_circle K72 72) (steps72-rem m)

pub extended72 : IsExtended K72 72 cosine72
unfolding cosine72
extended72 = record {
  printed = λ m le. same_at (λ k. cosine72 (pos k)) (entry K72) 37 m refl (omega arith);
  turned = λ m. ap (on_half_circle K72 72) (steps72-turned m) ∙ half72-turned (steps_apart 72 m) (omega arith);
  even = λ m. ap (λ a. on_half_circle K72 72 (min (a % 144) (144 - a % 144))) (abs-neg m);
  periodic = λ m. ap (on_half_circle K72 72) (steps72-periodic m);
}

-- every entry of the circle is at most 2^15
pub cosine72_small : (m : ℤ) → unsigned_abs (cosine72 m) ≤ 32768
unfolding cosine72
cosine72_small m = within_at 32768 (on_half_circle K72 72) 73 (steps_apart 72 m) refl (omega arith)
