use Rattle.std.proofs.Common.{◌≡◌, ℕ, ◌<◌, ◌+◌, ◌-◌, ◌*◌, List, ℤ, [], arith, ◌∙◌}
use Rattle.std.proofs.Math.ListN.{length-set}
use Rattle.l3_base.specs.Lists.{entry}
use Rattle.l3_base.specs.Sums.{IsWithin}
use Rattle.l3_base.proofs.Entries.{within_same}
use Rattle.l3_base.proofs.ListLemmas.{filled_more}
use Rattle.l3_transform.specs.Pairs.{row_in, low_entry, pair_sum, reach}
use Rattle.l3_transform.proofs.PairSums.{pair_sum-small, pair_sum-same}
use Rattle.l3_transform.proofs.columns.low_parts.Goals as goal

pub loop-m-preserved : goal.loop-m-preserved
loop-m-preserved c =
    let row : List ℤ = row_in c.args.rows.now (c.args.k + 14 - 2 * c.loop-m.m) in
    let value : (j : ℕ) → j < 32 → entry c.pair_sums.result j ≡ pair_sum (low_entry c.loop-m.m) (entry row) j =
    λ j lt. c.pair_sums.ensures.value j lt ∙ pair_sum-same (entry c.low_row.result.now) (low_entry c.loop-m.m) (entry row) j lt c.low_row.ensures.value in
    let bound : (j : ℕ) → j < 32 → IsWithin (reach c.loop-m.m * 65536) (entry c.pair_sums.result j) =
    λ j lt. within_same (reach c.loop-m.m * 65536) _ _ (c.pair_sums.ensures.value j lt) (pair_sum-small (entry c.low_row.result.now) (entry row) j (reach c.loop-m.m) lt c.low_row.ensures.bound c.pair_sums.ensures.range) in
    record {
      long = length-set c.loop-m.parts c.loop-m.m _ ∙ c.loop-m.invariant.long;
      value = filled_more (λ n xs. (j : ℕ) → j < 32 → entry xs j ≡ pair_sum (low_entry n) (entry (row_in c.args.rows.now (c.args.k + 14 - 2 * n))) j) c.loop-m.parts c.loop-m.m _ [] (omega arith) c.loop-m.invariant.value value;
      bound = filled_more (λ n xs. (j : ℕ) → j < 32 → IsWithin (reach n * 65536) (entry xs j)) c.loop-m.parts c.loop-m.m _ [] (omega arith) c.loop-m.invariant.bound bound;
      range = filled_more (λ n xs. (i : ℕ) → i < 64 → IsWithin 32768 (entry (row_in c.args.rows.now (c.args.k + 14 - 2 * n)) i)) c.loop-m.parts c.loop-m.m c.pair_sums.result [] (omega arith) c.loop-m.invariant.range c.pair_sums.ensures.range;
    }
