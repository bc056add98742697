use Rattle.std.proofs.Common.{◌≡◌, ℕ, ◌+◌, ◌*◌, ◌/◌, ◌%◌, ◌<◌, ◌≤◌, ap, arith, ◌∙◌}
use Rattle.l3_region.specs.Lanes.{bits_in_a, bits_in_b, quad_entry, quad_place}
use Rattle.l3_region.proofs.QuadCells.{few_in_a, few_in_b}
use Rattle.l3_region.proofs.quads.in_both.Goals as goal

index : ℕ → ℕ → ℕ
index first second = 8 * (first / 16) + 4 * (first % 16) + 2 * (second / 16) + second % 16

-- the place by the pairs
place : (first second : ℕ) → first / 16 ≤ 1 → first % 16 ≤ 1 → second / 16 ≤ 1 → second % 16 ≤ 1 → 4 * first + second ≡ quad_place (index first second)
unfolding quad_place index
place first second v w x y =
    let i = 8 * (first / 16) + 4 * (first % 16) + 2 * (second / 16) + second % 16 in
    let e8 : i / 8 ≡ first / 16 = omega arith in
    let e4 : i / 4 % 2 ≡ first % 16 = omega arith in
    let e2 : i / 2 % 2 ≡ second / 16 = omega arith in
    let e1 : i % 2 ≡ second % 16 = omega arith in
    omega arith

-- both tables at a place
both : (i read : ℕ) → read ≡ quad_entry (quad_place i) → (read % 65536 ≡ bits_in_a i) × (read / 65536 ≡ bits_in_b i)
unfolding bits_in_a bits_in_b
both i read is = (ap (λ n. n % 65536) is, ap (λ n. n / 65536) is)

told : (first second read : ℕ) → first / 16 ≤ 1 → first % 16 ≤ 1 → second / 16 ≤ 1 → second % 16 ≤ 1 → read ≡ quad_entry (4 * first + second) →
    (read % 65536 ≡ bits_in_a (index first second)) × (read / 65536 ≡ bits_in_b (index first second))
told first second read v w x y is = both (index first second) read (is ∙ ap quad_entry (place first second v w x y))

few : (first second : ℕ) → first / 16 ≤ 1 → first % 16 ≤ 1 → second / 16 ≤ 1 → second % 16 ≤ 1 → index first second < 16
unfolding index
few first second v w x y = omega arith

apart : (read a b : ℕ) → read % 65536 ≡ a → read / 65536 ≡ b → read ≡ a + 65536 * b
apart read a b low high = omega arith

pub returns : goal.returns
unfolding index
returns c =
    let r = c.requires in
    let first = c.args.first in
    let second = c.args.second in
    let read = c.entry.result in
    let parts = told first second read r.v r.w r.x r.y (c.entry.ensures ∙ ap quad_entry (let e = c.from.ensures in let f = c.from-2.ensures in omega arith)) in
    let i = index first second in
    let lt = few first second r.v r.w r.x r.y in
    record {
      value = apart read (bits_in_a i) (bits_in_b i) parts.0 parts.1;
      limit_a = omega (arith, parts.0, few_in_a i lt);
      limit_b = omega (arith, parts.1, few_in_b i lt);
    }
