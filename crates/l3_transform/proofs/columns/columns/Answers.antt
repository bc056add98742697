use Rattle.std.proofs.Common.{rules, ◌≡◌, ◌≤◌, ◌*◌, ◌+◌, ◌-◌, ◌/◌, ◌%◌, ◌+ℤ◌, ◌*ℤ◌, ℕ, pos, ℤ, List, to_z, of_z, w32, w64, FitsSigned, arith, ap, ◌∙◌}
use Rattle.std.specs.Prelude.{unsigned_abs}
use Rattle.l3_base.specs.Lists.{entry}
use Rattle.l3_base.specs.Sums.{sum_below, IsWithin}
use Rattle.l3_base.proofs.Entries.{within_same}
use Rattle.l3_base.proofs.ListLemmas.{filled_more}
use Rattle.l3_base.proofs.SumLemmas.{sum_below-same, abs_add}
use Rattle.std.proofs.Math.ListN.{length-set}
use Rattle.std.proofs.lemmas.Int.{ints}
use Rattle.l3_transform.specs.Pairs.{row_in, pair_entry, high_part, low_entry, pair_sum}
use Rattle.l3_transform.proofs.PairSums.{product_small, taps_are, sample_small}
use Rattle.l3_transform.proofs.columns.columns.Goals as goal

pub loop-j-preserved : goal.loop-j-preserved
loop-j-preserved c =
    let high : ℤ = entry c.high_sums-high.result c.loop-j.j in
    let low : ℤ = entry c.low_sums-low.result c.loop-j.j in
    let high_small : unsigned_abs (entry c.high_sums-high.result c.loop-j.j) ≤ 33554432 = c.high_sums-high.ensures.bound c.loop-j.j c.loop-j-test.true in
    let fits : FitsSigned w32 (entry c.low_sums-low.result c.loop-j.j) = search rules in
    let sum : to_z w64 (of_z w64 (to_z w64 (of_z w64 (to_z w64 (of_z w64 c.from.result) *ℤ pos 512)) +ℤ to_z w64 (of_z w64 c.from-in-loop-j.result))) ≡ pos 512 *ℤ entry c.high_sums-high.result c.loop-j.j +ℤ entry c.low_sums-low.result c.loop-j.j = omega (arith, ints) in
    let low_small : unsigned_abs (entry c.low_sums-low.result c.loop-j.j) ≤ 2147483648 = omega (arith, ints) in
    let times : unsigned_abs (pos 512 *ℤ high) ≤ 512 * 33554432 = product_small (pos 512) high 512 33554432 (omega arith) high_small in
    let small : unsigned_abs (pos 512 *ℤ high +ℤ low) ≤ 68719476736 = omega (arith, abs_add (pos 512 *ℤ high) low) in
    record {
      long = length-set c.loop-j.u c.loop-j.j _ ∙ c.loop-j.invariant.long;
      value = filled_more (λ i z. z ≡ pos 512 *ℤ entry c.high_sums-high.result i +ℤ entry c.low_sums-low.result i) c.loop-j.u c.loop-j.j _ (pos 0) (omega arith) c.loop-j.invariant.value sum;
      small = filled_more (λ i z. IsWithin 68719476736 z) c.loop-j.u c.loop-j.j _ (pos 0) (omega arith) c.loop-j.invariant.small (within_same 68719476736 _ _ sum small);
    }

pub returns-clause-value : goal.returns-clause-value
returns-clause-value c = λ newest taps j lt.
    let k : ℕ = c.args.k in
    let rows : ℕ → List ℤ = λ m. row_in c.args.rows.now (k + 14 - 2 * m) in
    let third : k + 8 ≡ k + 14 - 2 * 3 = omega arith in
    let fourth : k + 6 ≡ k + 14 - 2 * 4 = omega arith in
    let high : entry c.high_sums-high.result j ≡ pair_sum (λ n. high_part (pair_entry 3 n)) (entry (rows 3)) j +ℤ pair_sum (λ n. high_part (pair_entry 4 n)) (entry (rows 4)) j =
    c.high_sums-high.ensures.value j lt
    ∙ (ap (λ t. pair_sum (λ n. high_part (pair_entry 3 n)) (entry (row_in c.args.rows.now t)) j +ℤ pair_sum (λ n. high_part (pair_entry 4 n)) (entry (row_in c.args.rows.now (k + 6))) j) third
    ∙ ap (λ t. pair_sum (λ n. high_part (pair_entry 3 n)) (entry (rows 3)) j +ℤ pair_sum (λ n. high_part (pair_entry 4 n)) (entry (row_in c.args.rows.now t)) j) fourth) in
    let low : entry c.low_sums-low.result j ≡ sum_below 8 (λ m. pair_sum (low_entry m) (entry (rows m)) j) =
    c.low_sums-low.ensures j lt ∙ sum_below-same 8 _ _ (λ m under. c.low_parts-parts.ensures.value m j under lt) in
    c.loop-j.invariant.value j (omega arith)
    ∙ (ap (λ z. pos 512 *ℤ z +ℤ entry c.low_sums-low.result j) high
    ∙ (ap (λ z. pos 512 *ℤ (pair_sum (λ n. high_part (pair_entry 3 n)) (entry (rows 3)) j +ℤ pair_sum (λ n. high_part (pair_entry 4 n)) (entry (rows 4)) j) +ℤ z) low
    ∙ taps_are newest rows j lt taps))

pub returns-clause-range : goal.returns-clause-range
returns-clause-range c = λ newest taps n lt.
    let place : n ≡ n % 64 + 64 * (n / 64) = omega arith in
    within_same 32768 _ _ (ap newest place)
    (sample_small newest (row_in c.args.rows.now (c.args.k + 14 - 2 * (n / 64))) (n / 64) (n % 64) (omega arith) (taps (n / 64) (omega arith)) (λ i low. c.low_parts-parts.ensures.range (n / 64) i (omega arith) low))
