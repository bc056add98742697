-- Sums of whole numbers, their sizes, and floor division.
use Rattle.std.specs.Prelude.{◌≡◌, ℕ, zero, suc, ◌+◌, ◌/◌, ◌<◌, ◌≤◌, ◌↔◌, ℤ, pos, negsuc, ◌+ℤ◌, ◌*ℤ◌, ◌≤ℤ◌, unsigned_abs}

-- f 0 + .. + f (n - 1)
unfoldable pub sum_below : ℕ → (ℕ → ℤ) → ℤ
sum_below zero f = pos 0
sum_below (suc n) f = sum_below n f +ℤ f n

-- the same of the absolute values
unfoldable pub size_below : ℕ → (ℕ → ℤ) → ℕ
size_below zero f = 0
size_below (suc n) f = size_below n f + unsigned_abs (f n)

-- x over n, rounded towards minus infinity
abbrev pub floor_div : ℤ → ℕ → ℤ
floor_div (pos a) n = pos (a / n)
floor_div (negsuc a) n = negsuc (a / n)

-- it is the greatest whole number whose product with n is at most x
abbrev pub FloorIsGreatest : Type 0
FloorIsGreatest = (x q : ℤ) (n : ℕ) → 0 < n → (q ≤ℤ floor_div x n) ↔ ((q *ℤ pos n) ≤ℤ x)

-- at most `bound` in absolute value
abbrev pub IsWithin : ℕ → ℤ → Type 0
IsWithin bound x = unsigned_abs x ≤ bound

-- what the first n entries of a table add up to: as they are, by absolute value, and each times its
-- place, counted from 1
pub record AddsUpTo (n : ℕ) (f : ℕ → ℤ) (total : ℤ) (size : ℕ) (weighed : ℤ) : Type 0 where
  pub total_is : sum_below n f ≡ total
  pub size_is : size_below n f ≡ size
  pub weighed_is : sum_below n (λ i. pos (i + 1) *ℤ f i) ≡ weighed
