-- Sums and products through the casts of the code.
use Rattle.std.proofs.Common.{◌≡◌, ℕ, ◌*◌, ◌≤◌, ℤ, pos, ◌+ℤ◌, ◌-ℤ◌, ◌*ℤ◌, arith, ap, ◌∙◌, to_z, of_z, w32, w64, FitsSigned}
use Rattle.std.proofs.lemmas.Int.{to_z-of_z, fits_signed_from_abs}
use Rattle.std.specs.Prelude.{unsigned_abs}
use Rattle.l3_base.specs.Sums.{floor_div}
use Rattle.l3_base.specs.Cosines.{cosine72}
use Rattle.l3_base.specs.Steps.{cs_at, ca_at}
use Rattle.l3_base.proofs.Entries.{within_same}

-- a product of values of 32 bits
pub product_is : (r x y b : ℤ) → FitsSigned w32 x → FitsSigned w32 y → r ≡ to_z w32 (of_z w32 x) *ℤ to_z w32 (of_z w32 y) → y ≡ b → r ≡ x *ℤ b
product_is r x y b fits_x fits_y e same = rw (to_z-of_z w32 x fits_x, to_z-of_z w32 y fits_y) at e ∙ ap (λ z. x *ℤ z) same

pub lower_sum_is : (k : ℕ) (a b big small x y : ℤ) → FitsSigned w32 a → FitsSigned w32 b → FitsSigned w32 big → FitsSigned w32 small → FitsSigned w64 x → FitsSigned w64 y → big ≡ cs_at k → small ≡ ca_at k → x ≡ to_z w32 (of_z w32 a) *ℤ to_z w32 (of_z w32 big) → y ≡ to_z w32 (of_z w32 b) *ℤ to_z w32 (of_z w32 small) → to_z w64 (of_z w64 x) +ℤ to_z w64 (of_z w64 y) ≡ a *ℤ cs_at k +ℤ b *ℤ ca_at k
lower_sum_is k a b big small x y fits_a fits_b fits_big fits_small fits_x fits_y e f g h =
    let first : x ≡ a *ℤ cs_at k = product_is x a big (cs_at k) fits_a fits_big g e in
    let second : y ≡ b *ℤ ca_at k = product_is y b small (ca_at k) fits_b fits_small h f in
    rw (to_z-of_z w64 x fits_x, to_z-of_z w64 y fits_y) (ap (λ z. z +ℤ y) first ∙ ap (λ z. a *ℤ cs_at k +ℤ z) second)

pub upper_sum_is : (k : ℕ) (a b big small x y : ℤ) → FitsSigned w32 a → FitsSigned w32 b → FitsSigned w32 big → FitsSigned w32 small → FitsSigned w64 x → FitsSigned w64 y → big ≡ cs_at k → small ≡ ca_at k → x ≡ to_z w32 (of_z w32 b) *ℤ to_z w32 (of_z w32 big) → y ≡ to_z w32 (of_z w32 a) *ℤ to_z w32 (of_z w32 small) → to_z w64 (of_z w64 x) -ℤ to_z w64 (of_z w64 y) ≡ b *ℤ cs_at k -ℤ a *ℤ ca_at k
upper_sum_is k a b big small x y fits_a fits_b fits_big fits_small fits_x fits_y e f g h =
    let first : x ≡ b *ℤ cs_at k = product_is x b big (cs_at k) fits_b fits_big g e in
    let second : y ≡ a *ℤ ca_at k = product_is y a small (ca_at k) fits_a fits_small h f in
    rw (to_z-of_z w64 x fits_x, to_z-of_z w64 y fits_y) (ap (λ z. z -ℤ y) first ∙ ap (λ z. b *ℤ cs_at k -ℤ z) second)

-- a slot under the window
pub windowed_sum_is : (slot : ℤ) (k : ℕ) (got coefficient product : ℤ) → FitsSigned w32 got → FitsSigned w32 coefficient → got ≡ slot → coefficient ≡ cosine72 (pos 35 -ℤ pos (2 * k)) → product ≡ to_z w32 (of_z w32 got) *ℤ to_z w32 (of_z w32 coefficient) → product ≡ slot *ℤ cosine72 (pos 35 -ℤ pos (2 * k))
windowed_sum_is slot k got coefficient product fits_got fits_coefficient same value e =
    product_is product got coefficient (cosine72 (pos 35 -ℤ pos (2 * k))) fits_got fits_coefficient e value ∙ ap (λ x. x *ℤ cosine72 (pos 35 -ℤ pos (2 * k))) same

-- a sum that may be rounded
pub sum_fits : (s t : ℤ) → s ≡ t → unsigned_abs t ≤ 268435456 * 32768 → FitsSigned w64 s
sum_fits s t e small = fits_signed_from_abs w64 s (let low : unsigned_abs s ≤ 268435456 * 32768 = within_same (268435456 * 32768) s t e small in omega arith)

pub sum_is : (s t : ℤ) → s ≡ t → unsigned_abs t ≤ 268435456 * 32768 → to_z w64 (of_z w64 s) ≡ t
sum_is s t e small = to_z-of_z w64 s (sum_fits s t e small) ∙ e

-- what rounding then gives
pub rounded_is : (r s t : ℤ) → FitsSigned w32 r → r ≡ floor_div (s +ℤ pos 16384) 32768 → s ≡ t → to_z w32 (of_z w32 r) ≡ floor_div (t +ℤ pos 16384) 32768
rounded_is r s t fits e same = to_z-of_z w32 r fits ∙ (e ∙ ap (λ z. floor_div (z +ℤ pos 16384) 32768) same)

-- the end of a butterfly, of two lines
pub end_is : (f : ℤ → ℤ → ℤ) (r x y t : ℤ) → FitsSigned w32 r → FitsSigned w32 x → FitsSigned w32 y → r ≡ f (to_z w32 (of_z w32 x)) (to_z w32 (of_z w32 y)) → f x y ≡ t → to_z w32 (of_z w32 r) ≡ t
end_is f r x y t fits fits_x fits_y e same =
    to_z-of_z w32 r fits ∙ (e ∙ (ap (λ z. f z (to_z w32 (of_z w32 y))) (to_z-of_z w32 x fits_x) ∙ (ap (f x) (to_z-of_z w32 y fits_y) ∙ same)))
