use Rattle.std.proofs.Common.{rules, ◌≡◌, ◌^◌, ◌+◌, ◌*◌, ◌<◌, slice_index_or, pos, ◌*ℤ◌, to_z, of_z, w64, arith, sym, ◌∙◌, FitsSigned, ap}
use Rattle.std.proofs.lemmas.Int.{ints, to_z-of_z}
use Rattle.std.specs.Prelude.{unsigned_abs}
use Rattle.l3_base.specs.Lists.{entry}
use Rattle.l3_base.specs.Sums.{sum_below}
use Rattle.l3_base.specs.Cosines.{cosine64}
use Rattle.l3_transform.specs.Fold.{part_sum}
use Rattle.l3_base.proofs.Entries.{within_same}
use Rattle.l3_base.proofs.SumLemmas.{sum_below-none, one_more, one_more_small}
use Rattle.l3_transform.proofs.subbands.part.Goals as goal

pub loop-m-init : goal.loop-m-init
loop-m-init c = record { sum_is = sym (sum_below-none _); small = omega arith }

pub add_product-sum-requires : goal.add_product-sum-requires
add_product-sum-requires c =
    let here : c.args.start + c.args.step * c.loop-m.m < 32 = c.requires.places c.loop-m.m c.loop-m-test.true in
    let fits_column : FitsSigned w64 (slice_index_or c.args.columns.now (c.args.start + c.args.step * c.loop-m.m) (pos 0)) = search rules in
    let left : to_z w64 (of_z w64 c.from.result) ≡ c.cosine.result = omega (arith, ints) in
    let right : to_z w64 (of_z w64 (slice_index_or c.args.columns.now (c.args.start + c.args.step * c.loop-m.m) (pos 0))) ≡ slice_index_or c.args.columns.now (c.args.start + c.args.step * c.loop-m.m) (pos 0) = to_z-of_z w64 _ fits_column in
    let next = one_more_small c.loop-m.m 32768 (2 ^ 36) (unsigned_abs (to_z w64 c.loop-m.sum-bits) + unsigned_abs (to_z w64 (of_z w64 c.from.result)) * unsigned_abs (to_z w64 (of_z w64 (slice_index_or c.args.columns.now (c.args.start + c.args.step * c.loop-m.m) (pos 0))))) _
    (unsigned_abs (to_z w64 (of_z w64 c.from.result))) (unsigned_abs (to_z w64 (of_z w64 (slice_index_or c.args.columns.now (c.args.start + c.args.step * c.loop-m.m) (pos 0)))))
    c.loop-m.invariant.small (omega arith) (within_same 32768 _ _ left c.cosine.ensures.bound) (within_same (2 ^ 36) _ _ right (c.requires.small (c.args.start + c.args.step * c.loop-m.m) here)) in
    omega arith

pub loop-m-preserved : goal.loop-m-preserved
loop-m-preserved c =
    let here : c.args.start + c.args.step * c.loop-m.m < 32 = c.requires.places c.loop-m.m c.loop-m-test.true in
    let fits_column : FitsSigned w64 (slice_index_or c.args.columns.now (c.args.start + c.args.step * c.loop-m.m) (pos 0)) = search rules in
    let fits_sum : FitsSigned w64 c.add_product-sum.result = search rules in
    let left : to_z w64 (of_z w64 c.from.result) ≡ c.cosine.result = omega (arith, ints) in
    let right : to_z w64 (of_z w64 (slice_index_or c.args.columns.now (c.args.start + c.args.step * c.loop-m.m) (pos 0))) ≡ slice_index_or c.args.columns.now (c.args.start + c.args.step * c.loop-m.m) (pos 0) = to_z-of_z w64 _ fits_column in
    let whole : to_z w64 (of_z w64 c.add_product-sum.result) ≡ c.add_product-sum.result = to_z-of_z w64 _ fits_sum in
    let term : to_z w64 (of_z w64 c.from.result) *ℤ to_z w64 (of_z w64 (slice_index_or c.args.columns.now (c.args.start + c.args.step * c.loop-m.m) (pos 0)))
    ≡ cosine64 (pos (2 * c.args.i + 1) *ℤ pos (c.args.start + c.args.step * c.loop-m.m)) *ℤ entry c.args.columns.now (c.args.start + c.args.step * c.loop-m.m) =
    ap (λ z. z *ℤ to_z w64 (of_z w64 (slice_index_or c.args.columns.now (c.args.start + c.args.step * c.loop-m.m) (pos 0)))) (left ∙ c.cosine.ensures.value)
    ∙ ap (λ z. cosine64 (pos (2 * c.args.i + 1) *ℤ pos (c.args.start + c.args.step * c.loop-m.m)) *ℤ z) right in
    record {
      sum_is = one_more c.loop-m.m (λ m. cosine64 (pos (2 * c.args.i + 1) *ℤ pos (c.args.start + c.args.step * m)) *ℤ entry c.args.columns.now (c.args.start + c.args.step * m)) _ (to_z w64 c.loop-m.sum-bits)
          (to_z w64 (of_z w64 c.from.result)) (to_z w64 (of_z w64 (slice_index_or c.args.columns.now (c.args.start + c.args.step * c.loop-m.m) (pos 0)))) c.loop-m.invariant.sum_is (whole ∙ c.add_product-sum.ensures.value) term;
      small = one_more_small c.loop-m.m 32768 (2 ^ 36) _ _ (unsigned_abs (to_z w64 (of_z w64 c.from.result))) (unsigned_abs (to_z w64 (of_z w64 (slice_index_or c.args.columns.now (c.args.start + c.args.step * c.loop-m.m) (pos 0)))))
          c.loop-m.invariant.small (rw whole c.add_product-sum.ensures.bound) (within_same 32768 _ _ left c.cosine.ensures.bound) (within_same (2 ^ 36) _ _ right (c.requires.small (c.args.start + c.args.step * c.loop-m.m) here));
    }

pub returns-clause-value : goal.returns-clause-value
unfolding part_sum
returns-clause-value c =
    let end : c.loop-m.m ≡ c.args.count = omega arith in
    c.loop-m.invariant.sum_is ∙ ap (λ n. sum_below n (λ m. cosine64 (pos (2 * c.args.i + 1) *ℤ pos (c.args.start + c.args.step * m)) *ℤ entry c.args.columns.now (c.args.start + c.args.step * m))) end
