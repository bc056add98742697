-- Where a region needs linbits, no lane without them is cheaper.
use Rattle.std.proofs.Common.{◌≡◌, ◌∙◌, ap, ℕ, zero, suc, ◌+◌, ◌<◌, ◌≤◌, cond, List, arith}
use Rattle.std.proofs.lemmas.Bool.{lt-ltb}
use Rattle.l3_region.specs.Lanes.{cost_between, kept_cost, least_below, long_cost, mask_at}
use Rattle.l3_region.proofs.Tables.{mask_linbits}

least_below-over : (f : ℕ → ℕ) (n least : ℕ) → least ≤ 65535 → ((t : ℕ) → t < n → least ≤ f t) → least ≤ least_below f n
unfolding least_below
least_below-over f zero least small over = omega (arith, small)
least_below-over f (suc n) least small over = omega (arith, least_below-over f n least small (λ t lt. over t (omega (arith, lt))), over n (omega arith))

mask-long : (class t : ℕ) → 6 ≤ class → class < 14 → t < 12 → mask_at class t ≡ 16384
mask-long class t from to lt = mask_linbits class t from to (omega (arith, lt)) ∙ ap (λ (test : _). cond {A = ℕ} test 16384 0) (lt-ltb t (class + 6) (omega (arith, from, lt)))

over-long : (sums : List (List ℕ)) (i j class t : ℕ) → 6 ≤ class → class < 14 → t < 12 → 16384 ≤ kept_cost sums i j class t
over-long sums i j class t from to lt = omega (arith, mask-long class t from to lt)

pub cost-long : (sums : List (List ℕ)) (i j class cost : ℕ) → 6 ≤ class → class < 14 → cost ≤ 9216 → cost ≡ long_cost sums i j class → cost ≡ cost_between sums i j class
unfolding cost_between
cost-long sums i j class cost from to small is =
    let over = least_below-over (kept_cost sums i j class) 12 16384 (omega arith) (λ t lt. over-long sums i j class t from to lt) in
    omega (arith, small, is, over)
