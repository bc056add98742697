-- Floor division.
use Rattle.std.proofs.Common.{◌≡◌, ℕ, suc, ◌+◌, ◌*◌, ◌/◌, ◌<◌, ◌≤◌, ◌^◌, ◌↔◌, ℤ, pos, negsuc, ◌+ℤ◌, neg_ℤ, ◌≤ℤ◌, arith, refl}
use Rattle.std.proofs.lemmas.Int.{ints}
use Rattle.std.proofs.Math.Nat.{div-lt_iff_lt-mul, le-div_iff_mul-le}
use Rattle.std.specs.Prelude.{unsigned_abs}
use Rattle.std.specs.Int.{int_div_euclid, int_shr}
use Rattle.l3_base.specs.Sums.{floor_div, FloorIsGreatest}

-- what the code's `>>` and `div_euclid` are
pub floor_div-shr : (x : ℤ) (k : ℕ) → int_shr x k ≡ floor_div x (2 ^ k)
floor_div-shr (pos a) k = refl
floor_div-shr (negsuc a) k = refl

pub floor_div-euclid : (x : ℤ) (n : ℕ) → int_div_euclid x (pos n) ≡ floor_div x n
floor_div-euclid (pos a) n = refl
floor_div-euclid (negsuc a) n = refl

-- the order of whole numbers by that of their sizes
le_pos : (a b : ℕ) → (pos a ≤ℤ pos b) ↔ (a ≤ b)
le_pos a b = (λ h. omega (arith, ints), λ h. omega (arith, ints))

below : (m a : ℕ) → a < m → neg_ℤ (pos m) ≤ℤ negsuc a
below m a lt = omega (arith, ints)

above : (m a : ℕ) → neg_ℤ (pos m) ≤ℤ negsuc a → a < m
above m a le = omega (arith, ints)

pub floor_is_greatest : FloorIsGreatest
floor_is_greatest (pos a) (pos q) n h =
    let place : (q ≤ a / n) ↔ (q * n ≤ a) = le-div_iff_mul-le h in
    (λ le. (le_pos (q * n) a).1 (place.0 ((le_pos q (a / n)).0 le)), λ le. (le_pos q (a / n)).1 (place.1 ((le_pos (q * n) a).0 le)))
floor_is_greatest (pos a) (negsuc q) n h = (λ _. omega (arith, ints), λ _. omega (arith, ints))
floor_is_greatest (negsuc a) (pos q) n h = (λ le. omega (arith, ints), λ le. omega (arith, ints))
floor_is_greatest (negsuc a) (negsuc q) n h =
    let place : (a / n < suc q) ↔ (a < suc q * n) = div-lt_iff_lt-mul h in
    (λ le. below (suc q * n) a (place.0 (omega (arith, ints))), λ le. omega (arith, ints, place.1 (above (suc q * n) a le)))

over : (a b n : ℕ) → 0 < n → a < b * n → a / n < b
over a b n h lt = (div-lt_iff_lt-mul h).1 lt

-- the sum rounded: it stays within b where x is within b times n
pub floor_div_small : (y x : ℤ) (half n b : ℕ) → y ≡ x +ℤ pos half → half < n → unsigned_abs x ≤ b * n → unsigned_abs (floor_div y n) ≤ b
floor_div_small (pos a) x half n b e small h =
    let next : suc b * n ≡ b * n + n = omega arith in
    let under : a < suc b * n = grind (arith, ints) in
    let low : a / n < suc b = over a (suc b) n (omega arith) under in
    omega arith
floor_div_small (negsuc a) x half n b e small h =
    let under : a < b * n = grind (arith, ints) in
    let low : a / n < b = over a b n (omega arith) under in
    omega arith
