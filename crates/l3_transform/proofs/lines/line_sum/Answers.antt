use Rattle.std.proofs.Common.{rules, ◌≡◌, ◌+◌, ◌*◌, ◌*ℤ◌, to_z, of_z, w64, w32, arith, sym, ◌∙◌, FitsSigned, ap}
use Rattle.std.proofs.lemmas.Int.{ints, to_z-of_z}
use Rattle.std.specs.Prelude.{unsigned_abs}
use Rattle.l3_base.specs.Lists.{entry}
use Rattle.l3_base.specs.Sums.{sum_below}
use Rattle.l3_base.proofs.Entries.{within_same}
use Rattle.l3_base.proofs.SumLemmas.{sum_below-none, one_more, one_more_small}
use Rattle.l3_transform.specs.SlotFold.{folded_cosine, folded_slots_sum}
use Rattle.l3_transform.proofs.lines.line_sum.Goals as goal

pub loop-k-init : goal.loop-k-init
loop-k-init c = record { sum_is = sym (sum_below-none _); small = omega arith }

pub add_product-sum-requires : goal.add_product-sum-requires
add_product-sum-requires c =
    let fits_slot : FitsSigned w32 (entry c.args.f.now c.loop-k.k) = search rules in
    let left : to_z w64 (of_z w64 c.from.result) ≡ entry c.args.f.now c.loop-k.k = omega (arith, ints) in
    let right : to_z w64 (of_z w64 c.from-in-loop-k.result) ≡ c.cosine.result = omega (arith, ints) in
    let next = one_more_small c.loop-k.k 89196032 32768 (unsigned_abs (to_z w64 c.loop-k.sum-bits) + unsigned_abs (to_z w64 (of_z w64 c.from.result)) * unsigned_abs (to_z w64 (of_z w64 c.from-in-loop-k.result))) _
    (unsigned_abs (to_z w64 (of_z w64 c.from.result))) (unsigned_abs (to_z w64 (of_z w64 c.from-in-loop-k.result)))
    c.loop-k.invariant.small (omega arith) (within_same 89196032 _ _ left (c.requires.small c.loop-k.k c.loop-k-test.true)) (within_same 32768 _ _ right c.cosine.ensures.bound) in
    omega arith

pub loop-k-preserved : goal.loop-k-preserved
loop-k-preserved c =
    let fits_slot : FitsSigned w32 (entry c.args.f.now c.loop-k.k) = search rules in
    let fits_sum : FitsSigned w64 c.add_product-sum.result = search rules in
    let left : to_z w64 (of_z w64 c.from.result) ≡ entry c.args.f.now c.loop-k.k = omega (arith, ints) in
    let right : to_z w64 (of_z w64 c.from-in-loop-k.result) ≡ c.cosine.result = omega (arith, ints) in
    let whole : to_z w64 (of_z w64 c.add_product-sum.result) ≡ c.add_product-sum.result = to_z-of_z w64 _ fits_sum in
    let term : to_z w64 (of_z w64 c.from.result) *ℤ to_z w64 (of_z w64 c.from-in-loop-k.result) ≡ entry c.args.f.now c.loop-k.k *ℤ folded_cosine c.args.m c.loop-k.k =
    ap (λ z. z *ℤ to_z w64 (of_z w64 c.from-in-loop-k.result)) left ∙ ap (λ z. entry c.args.f.now c.loop-k.k *ℤ z) (right ∙ c.cosine.ensures.value) in
    record {
      sum_is = one_more c.loop-k.k (λ k. entry c.args.f.now k *ℤ folded_cosine c.args.m k) _ (to_z w64 c.loop-k.sum-bits) (to_z w64 (of_z w64 c.from.result)) (to_z w64 (of_z w64 c.from-in-loop-k.result)) c.loop-k.invariant.sum_is (whole ∙ c.add_product-sum.ensures.value) term;
      small = one_more_small c.loop-k.k 89196032 32768 _ _ (unsigned_abs (to_z w64 (of_z w64 c.from.result))) (unsigned_abs (to_z w64 (of_z w64 c.from-in-loop-k.result)))
          c.loop-k.invariant.small (rw whole c.add_product-sum.ensures.bound) (within_same 89196032 _ _ left (c.requires.small c.loop-k.k c.loop-k-test.true)) (within_same 32768 _ _ right c.cosine.ensures.bound);
    }

pub returns-clause-value : goal.returns-clause-value
unfolding folded_slots_sum
returns-clause-value c =
    let end : c.loop-k.k ≡ 18 = omega arith in
    c.loop-k.invariant.sum_is ∙ ap (λ n. sum_below n (λ k. entry c.args.f.now k *ℤ folded_cosine c.args.m k)) end
