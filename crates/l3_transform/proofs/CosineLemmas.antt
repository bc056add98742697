-- The printed coefficients are the cosines that they stand for, and these are the same, or the same
-- with the other sign, from both ends.
use Rattle.std.proofs.Common.{◌≡◌, ℕ, ◌+◌, ◌-◌, ◌*◌, ◌/◌, ◌%◌, ◌<◌, ◌≤◌, Bool, true, [], get_or, ℤ, pos, ◌-ℤ◌, neg_ℤ, arith, refl, to_z, of_z, w32}
use Rattle.std.specs.Prelude.{unsigned_abs}
use Rattle.l3_base.specs.Cosines.{cosine72}
use Rattle.l3_base.proofs.Entries.{same_below, same_at}
use Rattle.l3_base.proofs.Circles.{cosine72_small}
use Rattle.l3_transform.specs.declared.cosines.TheConstants.{LONG_WINDOW, FOLDED_COSINES}
use Rattle.l3_transform.specs.Spectrum.{line_cosine}
use Rattle.l3_transform.specs.SlotFold.{folded_cosine}

-- 18 rows of 18
abbrev agree : (ℕ → ℕ → ℤ) → (ℕ → ℕ → ℤ) → Bool
agree f g = same_below (λ n. f (n / 18) (n % 18)) (λ n. g (n / 18) (n % 18)) 324

agree_at : (f g : ℕ → ℕ → ℤ) (m k : ℕ) → agree f g ≡ true → m < 18 → k < 18 → f m k ≡ g m k
agree_at f g m k h row place =
    let here : f ((18 * m + k) / 18) ((18 * m + k) % 18) ≡ g ((18 * m + k) / 18) ((18 * m + k) % 18) = same_at (λ n. f (n / 18) (n % 18)) (λ n. g (n / 18) (n % 18)) 324 (18 * m + k) h (omega arith) in
    let line : (18 * m + k) / 18 ≡ m = omega arith in
    let slot : (18 * m + k) % 18 ≡ k = omega arith in
    rw (line, slot) at here

pub window_is : (k : ℕ) → k < 36 → to_z w32 (of_z w32 (get_or LONG_WINDOW k (pos 0))) ≡ cosine72 (pos 35 -ℤ pos (2 * k))
unfolding cosine72
window_is k lt = same_at (λ k. to_z w32 (of_z w32 (get_or LONG_WINDOW k (pos 0)))) (λ k. cosine72 (pos 35 -ℤ pos (2 * k))) 36 k refl lt

pub cosine_is : (m k : ℕ) → m < 18 → k < 18 → to_z w32 (of_z w32 (get_or (get_or FOLDED_COSINES m []) k (pos 0))) ≡ folded_cosine m k
unfolding folded_cosine cosine72
cosine_is m k line slot = agree_at (λ m k. to_z w32 (of_z w32 (get_or (get_or FOLDED_COSINES m []) k (pos 0)))) folded_cosine m k refl line slot

pub folded_cosine_small : (m k : ℕ) → unsigned_abs (folded_cosine m k) ≤ 32768
unfolding folded_cosine
folded_cosine_small m k = cosine72_small _

pub first_half : (m k : ℕ) → m < 18 → k < 18 → line_cosine m (17 - k) ≡ neg_ℤ (line_cosine m k)
unfolding cosine72
first_half m k line slot = agree_at (λ m k. line_cosine m (17 - k)) (λ m k. neg_ℤ (line_cosine m k)) m k refl line slot

pub second_half : (m k : ℕ) → m < 18 → k < 18 → line_cosine m (35 - k) ≡ line_cosine m (18 + k)
unfolding cosine72
second_half m k line slot = agree_at (λ m k. line_cosine m (35 - k)) (λ m k. line_cosine m (18 + k)) m k refl line slot
