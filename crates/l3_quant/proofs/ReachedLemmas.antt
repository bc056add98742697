-- The greatest value that is reached.
use Rattle.std.proofs.Common.{◌≡◌, ℕ, ◌+◌, ◌-◌, ◌*◌, ◌^◌, ◌<◌, ◌≤◌, true, leb, eqb, min, arith, sym, ap, ◌∙◌, inl, inr}
use Rattle.std.proofs.lemmas.Bool.{cases_lt, or_cases, leb-true, le-leb, eqb-true}
use Rattle.std.proofs.lemmas.Bool.Decides.{nat_tests}
use Rattle.std.proofs.Math.Nat.{min-eq_left, min-eq_right}
use Rattle.l3_base.proofs.ChoosingLemmas.{greatest_passing-greatest}
use Rattle.l3_quant.specs.Quantiser.{Reaches, is_reached, greatest_reached, IsGreatestReached}
use Rattle.l3_quant.proofs.Powers.{Passes, passes_below, passes_above, passes_small, great_passes, small_passes}

pub passes_zero : (y : ℕ) → Passes y 0
passes_zero y = omega arith

pub reaches-passes : (y n : ℕ) → Reaches y n → Passes y n
reaches-passes y n h = elim h [ inl none ↦ rw none (passes_zero y) | inr p ↦ p ]

is_reached-reaches : (y n : ℕ) → is_reached y n ≡ true → Reaches y n
is_reached-reaches y n h =
    elim (or_cases (eqb n 0) (leb ((32 * n - 13) ^ 4 * 2 ^ 16) (y ^ 3)) h) [ inl e ↦ inl (eqb-true n 0 e) | inr p ↦ inr (leb-true _ _ p) ]

passes-is_reached : (y n : ℕ) → Passes y n → is_reached y n ≡ true
passes-is_reached y n h = rw (le-leb ((32 * n - 13) ^ 4 * 2 ^ 16) (y ^ 3) h) (grind (arith, nat_tests))

pub greatest_reached-greatest : (y : ℕ) → IsGreatestReached y (greatest_reached y)
unfolding greatest_reached
greatest_reached-greatest y =
    let is = greatest_passing-greatest (y + 1) (is_reached y) in
    let zero = is.greatest 0 (omega arith) (passes-is_reached y 0 (passes_zero y)) in
    record {
      reached = is_reached-reaches y _ zero.2;
      greatest = λ m r. let p = reaches-passes y m r in (is.greatest m (let le : m ≤ y = passes_small y m p in omega arith) (passes-is_reached y m p)).0;
    }

-- n passes and n + 1 does not
pub greatest_reached-is : (y n : ℕ) → Passes y n → y ^ 3 < (32 * (n + 1) - 13) ^ 4 * 2 ^ 16 → greatest_reached y ≡ n
greatest_reached-is y n h above =
    let own = greatest_reached-greatest y in
    let p = reaches-passes y (greatest_reached y) own.reached in
    let low : n ≤ greatest_reached y = own.greatest n (inr h) in
    elim (cases_lt n (greatest_reached y)) [
      | inl lt ↦ absurd (let q : Passes y (n + 1) = passes_below y (n + 1) (greatest_reached y) (omega arith) p in omega (arith, above, q))
      | inr le ↦ omega (arith, low)
    ]

pub greatest_reached-least : (y n : ℕ) → Passes y n → n ≤ greatest_reached y
greatest_reached-least y n h = (greatest_reached-greatest y).greatest n (inr h)

pub greatest_reached-rises : (y z : ℕ) → y ≤ z → greatest_reached y ≤ greatest_reached z
greatest_reached-rises y z le =
    greatest_reached-least z (greatest_reached y) (passes_above y z (greatest_reached y) le (reaches-passes y (greatest_reached y) (greatest_reached-greatest y).reached))

pub greatest_reached-small : (y : ℕ) → y ≤ 1024 → greatest_reached y ≡ 0
greatest_reached-small y le = small_passes y (greatest_reached y) le (reaches-passes y (greatest_reached y) (greatest_reached-greatest y).reached)

-- a number cut at 2^30 reaches the same as itself, cut at 8192
pub greatest_reached-cut : (y : ℕ) → min (greatest_reached (min y (2 ^ 30))) 8192 ≡ min (greatest_reached y) 8192
greatest_reached-cut y =
    elim (cases_lt (2 ^ 30) y) [
      | inl lt ↦
          (let le : 2 ^ 30 ≤ y = omega arith in
          let cut : min y (2 ^ 30) ≡ 2 ^ 30 = min-eq_right le in
          let low : 8192 ≤ greatest_reached (2 ^ 30) = greatest_reached-least (2 ^ 30) 8192 (great_passes (2 ^ 30) (omega arith)) in
          let high : 8192 ≤ greatest_reached y = greatest_reached-least y 8192 (great_passes y le) in
          ap (λ z. min (greatest_reached z) 8192) cut ∙ (min-eq_right low ∙ sym (min-eq_right high)))
      | inr le ↦ ap (λ z. min (greatest_reached z) 8192) (min-eq_left le)
    ]
