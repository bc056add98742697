use Rattle.std.proofs.Common.{rules, ◌≡◌, ◌≤◌, ◌*◌, ◌+◌, ◌+ℤ◌, pos, to_z, of_z, w32, arith, ap, ◌∙◌}
use Rattle.std.proofs.Math.ListN.{length-set}
use Rattle.std.proofs.lemmas.Int.{ints}
use Rattle.std.specs.Prelude.{unsigned_abs}
use Rattle.l3_base.specs.Lists.{entry}
use Rattle.l3_base.proofs.Entries.{within_same}
use Rattle.l3_base.proofs.ListLemmas.{filled_more}
use Rattle.l3_base.proofs.SumLemmas.{abs_add}
use Rattle.l3_transform.specs.Pairs.{row_in, pair_entry, high_part, pair_sum}
use Rattle.l3_transform.proofs.PairSums.{pair_sum-small, pair_sum-same}
use Rattle.l3_transform.proofs.columns.high_sums.Goals as goal

pub overflow_add-sums : goal.overflow_add-sums
overflow_add-sums c =
    let third : unsigned_abs (entry c.pair_sums-third.result c.loop-j.j) ≤ 256 * 65536 =
    within_same (256 * 65536) _ _ (c.pair_sums-third.ensures.value c.loop-j.j c.loop-j-test.true) (pair_sum-small (entry c.high_row.result.now) (entry (row_in c.args.rows.now (c.args.k + 8))) c.loop-j.j 256 c.loop-j-test.true c.high_row.ensures.bound c.pair_sums-third.ensures.range) in
    let fourth : unsigned_abs (entry c.pair_sums-fourth.result c.loop-j.j) ≤ 256 * 65536 =
    within_same (256 * 65536) _ _ (c.pair_sums-fourth.ensures.value c.loop-j.j c.loop-j-test.true) (pair_sum-small (entry c.high_row-2.result.now) (entry (row_in c.args.rows.now (c.args.k + 6))) c.loop-j.j 256 c.loop-j-test.true c.high_row-2.ensures.bound c.pair_sums-fourth.ensures.range) in
    search rules

pub loop-j-preserved : goal.loop-j-preserved
loop-j-preserved c =
    let third : unsigned_abs (entry c.pair_sums-third.result c.loop-j.j) ≤ 256 * 65536 =
    within_same (256 * 65536) _ _ (c.pair_sums-third.ensures.value c.loop-j.j c.loop-j-test.true) (pair_sum-small (entry c.high_row.result.now) (entry (row_in c.args.rows.now (c.args.k + 8))) c.loop-j.j 256 c.loop-j-test.true c.high_row.ensures.bound c.pair_sums-third.ensures.range) in
    let fourth : unsigned_abs (entry c.pair_sums-fourth.result c.loop-j.j) ≤ 256 * 65536 =
    within_same (256 * 65536) _ _ (c.pair_sums-fourth.ensures.value c.loop-j.j c.loop-j-test.true) (pair_sum-small (entry c.high_row-2.result.now) (entry (row_in c.args.rows.now (c.args.k + 6))) c.loop-j.j 256 c.loop-j-test.true c.high_row-2.ensures.bound c.pair_sums-fourth.ensures.range) in
    let sum : to_z w32 (of_z w32 (to_z w32 (of_z w32 (entry c.pair_sums-third.result c.loop-j.j)) +ℤ to_z w32 (of_z w32 (entry c.pair_sums-fourth.result c.loop-j.j)))) ≡ entry c.pair_sums-third.result c.loop-j.j +ℤ entry c.pair_sums-fourth.result c.loop-j.j = omega (arith, ints) in
    record {
      long = length-set c.loop-j.sums c.loop-j.j _ ∙ c.loop-j.invariant.long;
      value = filled_more (λ i z. z ≡ entry c.pair_sums-third.result i +ℤ entry c.pair_sums-fourth.result i) c.loop-j.sums c.loop-j.j _ (pos 0) (omega arith) c.loop-j.invariant.value sum;
    }

pub returns-clause-value : goal.returns-clause-value
returns-clause-value c = λ j lt.
    let third : entry c.pair_sums-third.result j ≡ pair_sum (λ n. high_part (pair_entry 3 n)) (entry (row_in c.args.rows.now (c.args.k + 8))) j =
    c.pair_sums-third.ensures.value j lt ∙ pair_sum-same (entry c.high_row.result.now) (λ n. high_part (pair_entry 3 n)) (entry (row_in c.args.rows.now (c.args.k + 8))) j lt c.high_row.ensures.value in
    let fourth : entry c.pair_sums-fourth.result j ≡ pair_sum (λ n. high_part (pair_entry 4 n)) (entry (row_in c.args.rows.now (c.args.k + 6))) j =
    c.pair_sums-fourth.ensures.value j lt ∙ pair_sum-same (entry c.high_row-2.result.now) (λ n. high_part (pair_entry 4 n)) (entry (row_in c.args.rows.now (c.args.k + 6))) j lt c.high_row-2.ensures.value in
    c.loop-j.invariant.value j (omega arith) ∙ (ap (λ z. z +ℤ entry c.pair_sums-fourth.result j) third ∙ ap (λ z. pair_sum (λ n. high_part (pair_entry 3 n)) (entry (row_in c.args.rows.now (c.args.k + 8))) j +ℤ z) fourth)

pub returns-clause-bound : goal.returns-clause-bound
returns-clause-bound c = λ j lt.
    let third : unsigned_abs (entry c.pair_sums-third.result j) ≤ 256 * 65536 =
    within_same (256 * 65536) _ _ (c.pair_sums-third.ensures.value j lt) (pair_sum-small (entry c.high_row.result.now) (entry (row_in c.args.rows.now (c.args.k + 8))) j 256 lt c.high_row.ensures.bound c.pair_sums-third.ensures.range) in
    let fourth : unsigned_abs (entry c.pair_sums-fourth.result j) ≤ 256 * 65536 =
    within_same (256 * 65536) _ _ (c.pair_sums-fourth.ensures.value j lt) (pair_sum-small (entry c.high_row-2.result.now) (entry (row_in c.args.rows.now (c.args.k + 6))) j 256 lt c.high_row-2.ensures.bound c.pair_sums-fourth.ensures.range) in
    within_same 33554432 _ _ (c.loop-j.invariant.value j (omega arith)) (omega (arith, abs_add (entry c.pair_sums-third.result j) (entry c.pair_sums-fourth.result j)))
