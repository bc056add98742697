use Rattle.std.proofs.Common.{◌≡◌, ◌<◌, ◌^◌, ◌+◌, ◌-◌, pos, ◌+ℤ◌, ◌-ℤ◌, to_z, of_z, w64, length, arith, sym, ◌∙◌}
use Rattle.std.proofs.Math.ListN.{length-set}
use Rattle.std.proofs.lemmas.Int.{ints}
use Rattle.std.specs.Prelude.{unsigned_abs}
use Rattle.l3_base.specs.Lists.{entry}
use Rattle.l3_base.proofs.ListLemmas.{filled_more, tabulate-entries}
use Rattle.l3_transform.specs.SlotFold.{folded_slot}
use Rattle.l3_transform.proofs.SlotFoldLaw.{folded-low, folded-high, sum_of_fold}
use Rattle.l3_transform.proofs.slot_fold.fold36.Goals as goal

pub loop-k-preserved : goal.loop-k-preserved
loop-k-preserved c =
    let a : unsigned_abs (entry c.args.z.now c.loop-k.k) < 2 ^ 40 = c.requires c.loop-k.k (omega arith) in
    let b : unsigned_abs (entry c.args.z.now (17 - c.loop-k.k)) < 2 ^ 40 = c.requires (17 - c.loop-k.k) (omega arith) in
    let difference : to_z w64 (of_z w64 (to_z w64 (of_z w64 (entry c.args.z.now c.loop-k.k)) -ℤ to_z w64 (of_z w64 (entry c.args.z.now (17 - c.loop-k.k)))))
    ≡ entry c.args.z.now c.loop-k.k -ℤ entry c.args.z.now (17 - c.loop-k.k) = omega (arith, ints) in
    let room : c.loop-k.k < length c.loop-k.t = omega arith in
    record {
      long = length-set c.loop-k.t c.loop-k.k _ ∙ c.loop-k.invariant.long;
      value = filled_more (λ n y. y ≡ folded_slot (entry c.args.z.now) n) c.loop-k.t c.loop-k.k _ (pos 0) room c.loop-k.invariant.value
          (difference ∙ sym (folded-low (entry c.args.z.now) c.loop-k.k c.loop-k-test.true));
    }

pub loop-k-2-preserved : goal.loop-k-2-preserved
loop-k-2-preserved c =
    let a : unsigned_abs (entry c.args.z.now (9 + c.loop-k-2.k)) < 2 ^ 40 = c.requires (9 + c.loop-k-2.k) (omega arith) in
    let b : unsigned_abs (entry c.args.z.now (44 - c.loop-k-2.k)) < 2 ^ 40 = c.requires (44 - c.loop-k-2.k) (omega arith) in
    let sum : to_z w64 (of_z w64 (to_z w64 (of_z w64 (entry c.args.z.now (9 + c.loop-k-2.k))) +ℤ to_z w64 (of_z w64 (entry c.args.z.now (44 - c.loop-k-2.k)))))
    ≡ entry c.args.z.now (9 + c.loop-k-2.k) +ℤ entry c.args.z.now (44 - c.loop-k-2.k) = omega (arith, ints) in
    let room : c.loop-k-2.k < length c.loop-k-2.t = omega arith in
    record {
      from = omega arith;
      long = length-set c.loop-k-2.t c.loop-k-2.k _ ∙ c.loop-k-2.invariant.long;
      value = filled_more (λ n y. y ≡ folded_slot (entry c.args.z.now) n) c.loop-k-2.t c.loop-k-2.k _ (pos 0) room c.loop-k-2.invariant.value
          (sum ∙ sym (folded-high (entry c.args.z.now) c.loop-k-2.k c.loop-k-2.invariant.from));
    }

pub returns-clause-value : goal.returns-clause-value
returns-clause-value c =
    tabulate-entries 18 (folded_slot (entry c.args.z.now)) (pos 0) c.loop-k-2.t c.loop-k-2.invariant.long (λ k lt. c.loop-k-2.invariant.value k (omega arith))

pub returns-clause-sum : goal.returns-clause-sum
returns-clause-sum c = λ m line. sum_of_fold (entry c.loop-k-2.t) (entry c.args.z.now) m line (λ k lt. c.loop-k-2.invariant.value k (omega arith))
