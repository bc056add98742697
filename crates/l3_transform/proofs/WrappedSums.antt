-- Sums and differences of 64 bits that do not wrap.
use Rattle.std.proofs.Common.{◌≡◌, ◌∙◌, ℕ, ℤ, ◌+◌, ◌^◌, ◌≤◌, ◌+ℤ◌, ◌-ℤ◌, to_z, of_z, w64, ap₂, sym, arith}
use Rattle.std.proofs.lemmas.Int.{ints}
use Rattle.std.specs.Prelude.{unsigned_abs}

kept_sum : (x y : ℤ) → unsigned_abs x ≤ 2 ^ 61 → unsigned_abs y ≤ 2 ^ 61 →
    to_z w64 (of_z w64 (to_z w64 (of_z w64 x) +ℤ to_z w64 (of_z w64 y))) ≡ x +ℤ y
kept_sum x y a b = omega (arith, ints)

kept_difference : (x y : ℤ) → unsigned_abs x ≤ 2 ^ 61 → unsigned_abs y ≤ 2 ^ 61 →
    to_z w64 (of_z w64 (to_z w64 (of_z w64 x) -ℤ to_z w64 (of_z w64 y))) ≡ x -ℤ y
kept_difference x y a b = omega (arith, ints)

sum_within : (x y : ℤ) (m n : ℕ) → unsigned_abs x ≤ m → unsigned_abs y ≤ n → unsigned_abs (x +ℤ y) ≤ m + n
sum_within x y m n a b = omega (arith, ints)

difference_within : (x y : ℤ) (m n : ℕ) → unsigned_abs x ≤ m → unsigned_abs y ≤ n → unsigned_abs (x -ℤ y) ≤ m + n
difference_within x y m n a b = omega (arith, ints)

-- two halves added make the whole, which is at most what both may be
pub added : (x y first second whole : ℤ) (m n : ℕ) → unsigned_abs x ≤ m → unsigned_abs y ≤ n → m ≤ 2 ^ 61 → n ≤ 2 ^ 61 →
    x ≡ first → y ≡ second → whole ≡ first +ℤ second →
    (to_z w64 (of_z w64 (to_z w64 (of_z w64 x) +ℤ to_z w64 (of_z w64 y))) ≡ whole)
    × (unsigned_abs (to_z w64 (of_z w64 (to_z w64 (of_z w64 x) +ℤ to_z w64 (of_z w64 y)))) ≤ m + n)
added x y first second whole m n a b low high is other total =
    let kept = kept_sum x y (omega (arith, a, low)) (omega (arith, b, high)) in
    (kept ∙ (ap₂ ◌+ℤ◌ is other ∙ sym total), rw kept (sum_within x y m n a b))

-- and one taken from the other makes the opposite one
pub taken : (x y first second whole : ℤ) (m n : ℕ) → unsigned_abs x ≤ m → unsigned_abs y ≤ n → m ≤ 2 ^ 61 → n ≤ 2 ^ 61 →
    x ≡ first → y ≡ second → whole ≡ first -ℤ second →
    (to_z w64 (of_z w64 (to_z w64 (of_z w64 x) -ℤ to_z w64 (of_z w64 y))) ≡ whole)
    × (unsigned_abs (to_z w64 (of_z w64 (to_z w64 (of_z w64 x) -ℤ to_z w64 (of_z w64 y)))) ≤ m + n)
taken x y first second whole m n a b low high is other total =
    let kept = kept_difference x y (omega (arith, a, low)) (omega (arith, b, high)) in
    (kept ∙ (ap₂ ◌-ℤ◌ is other ∙ sym total), rw kept (difference_within x y m n a b))
