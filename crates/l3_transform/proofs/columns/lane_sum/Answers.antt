use Rattle.std.proofs.Common.{◌≡◌, ◌≤◌, ◌+◌, ◌*◌, ◌+ℤ◌, to_z, of_z, w32, FitsSigned, ℤ, arith, sym, ap, ◌∙◌}
use Rattle.std.proofs.lemmas.Int.{to_z-of_z, fits_signed_from_abs}
use Rattle.std.specs.Prelude.{unsigned_abs}
use Rattle.l3_base.specs.Lists.{entry}
use Rattle.l3_base.proofs.SumLemmas.{sum_below-none, sum_below-more, abs_add}
use Rattle.l3_transform.specs.Pairs.{row_in, reach, reach_below}
use Rattle.l3_transform.proofs.PairSums.{reach-small, reach_below-more}
use Rattle.l3_transform.proofs.columns.lane_sum.Goals as goal

pub loop-m-init : goal.loop-m-init
loop-m-init c = record { sum_is = sym (sum_below-none _); small = omega arith }

pub overflow_add-sum : goal.overflow_add-sum
overflow_add-sum c =
    let x : ℤ = entry (row_in c.args.parts.now c.loop-m.m) c.args.j in
    let s : ℤ = to_z w32 c.loop-m.sum-bits in
    let here : unsigned_abs x ≤ reach c.loop-m.m * 65536 = c.requires.small c.loop-m.m c.loop-m-test.true in
    let before : unsigned_abs s ≤ reach_below c.loop-m.m * 65536 = c.loop-m.invariant.small in
    let total : reach_below c.loop-m.m + reach c.loop-m.m ≤ 32544 = reach-small c.loop-m.m c.loop-m-test.true in
    let fits : FitsSigned w32 x = fits_signed_from_abs w32 x (omega arith) in
    let value : to_z w32 (of_z w32 x) ≡ x = to_z-of_z w32 x fits in
    rw value (fits_signed_from_abs w32 (s +ℤ x) (omega (arith, abs_add s x)))

pub loop-m-preserved : goal.loop-m-preserved
loop-m-preserved c =
    let x : ℤ = entry (row_in c.args.parts.now c.loop-m.m) c.args.j in
    let s : ℤ = to_z w32 c.loop-m.sum-bits in
    let here : unsigned_abs x ≤ reach c.loop-m.m * 65536 = c.requires.small c.loop-m.m c.loop-m-test.true in
    let before : unsigned_abs s ≤ reach_below c.loop-m.m * 65536 = c.loop-m.invariant.small in
    let total : reach_below c.loop-m.m + reach c.loop-m.m ≤ 32544 = reach-small c.loop-m.m c.loop-m-test.true in
    let fits : FitsSigned w32 x = fits_signed_from_abs w32 x (omega arith) in
    let value : to_z w32 (of_z w32 x) ≡ x = to_z-of_z w32 x fits in
    let whole : to_z w32 (of_z w32 (s +ℤ to_z w32 (of_z w32 x))) ≡ s +ℤ x = rw value (to_z-of_z w32 (s +ℤ x) (fits_signed_from_abs w32 (s +ℤ x) (omega (arith, abs_add s x)))) in
    record {
      sum_is = whole ∙ (ap (λ z. z +ℤ x) c.loop-m.invariant.sum_is ∙ sym (sum_below-more c.loop-m.m (λ m. entry (row_in c.args.parts.now m) c.args.j)));
      small = rw whole (omega (arith, abs_add s x, reach_below-more c.loop-m.m));
    }
