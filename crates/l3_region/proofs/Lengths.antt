-- Pairs of region lengths, and lanes of least cost.
use Rattle.std.proofs.Common.{◌≡◌, ℕ, ◌+◌, ◌-◌, ◌*◌, ◌/◌, ◌%◌, ◌<◌, List, ap, ◌∙◌, arith, inl, inr}
use Rattle.std.proofs.lemmas.Bool.{cases_lt}
use Rattle.l3_region.specs.Lanes.{IsFirstLane, pair_cost, range_cost}

pub eighth : (a b : ℕ) → b < 8 → ((8 * a + b) / 8 ≡ a) × ((8 * a + b) % 8 ≡ b)
eighth a b lt = (omega arith, omega arith)

pub pair_cost-is : (rows : List (List ℕ)) (classes : List ℕ) (a b : ℕ) → b < 8 →
    pair_cost rows classes (8 * a + b) ≡ range_cost rows classes 0 (a + 1) + range_cost rows classes (a + 1) (b + 1) + range_cost rows classes (a + b + 2) (20 - (a + b))
unfolding pair_cost
pair_cost-is rows classes a b lt =
    let e = eighth a b lt in
    ap (λ i. range_cost rows classes 0 (i + 1) + range_cost rows classes (i + 1) ((8 * a + b) % 8 + 1) + range_cost rows classes (i + (8 * a + b) % 8 + 2) (20 - (i + (8 * a + b) % 8))) e.0
    ∙ ap (λ i. range_cost rows classes 0 (a + 1) + range_cost rows classes (a + 1) (i + 1) + range_cost rows classes (a + i + 2) (20 - (a + i))) e.1

-- the first of the cheapest lanes is one
pub first_lane-one : (f : ℕ → ℕ) (n r s : ℕ) → IsFirstLane f n r → IsFirstLane f n s → r ≡ s
first_lane-one f n r s x y = elim (cases_lt r s) [
  | inl lt ↦ absurd (omega (arith, y.first r lt, x.least s y.below))
  | inr ge ↦ elim (cases_lt s r) [
    | inl gt ↦ absurd (omega (arith, x.first s gt, y.least r x.below))
    | inr le ↦ omega arith
  ]
]
