use Rattle.std.proofs.Common.{◌≡◌, ◌<◌, ◌≤◌, ◌+◌, ◌-◌, pos, ◌+ℤ◌, ◌-ℤ◌, to_z, of_z, w32, length, arith, sym, ◌∙◌}
use Rattle.std.proofs.Math.ListN.{length-set}
use Rattle.std.proofs.lemmas.Int.{ints}
use Rattle.std.specs.Prelude.{unsigned_abs}
use Rattle.l3_base.specs.Lists.{entry}
use Rattle.l3_base.proofs.Entries.{within_same}
use Rattle.l3_base.proofs.ListLemmas.{filled_more}
use Rattle.l3_transform.specs.SlotFold.{folded_slot}
use Rattle.l3_transform.proofs.SlotFoldLaw.{folded-low, folded-high, folded_small}
use Rattle.l3_transform.proofs.slot_fold.fold_slots.Goals as goal

pub loop-k-preserved : goal.loop-k-preserved
loop-k-preserved c =
    let a : unsigned_abs (entry c.args.z.now c.loop-k.k) ≤ 44598016 = c.requires c.loop-k.k (omega arith) in
    let b : unsigned_abs (entry c.args.z.now (17 - c.loop-k.k)) ≤ 44598016 = c.requires (17 - c.loop-k.k) (omega arith) in
    let difference : to_z w32 (of_z w32 (to_z w32 (of_z w32 (entry c.args.z.now c.loop-k.k)) -ℤ to_z w32 (of_z w32 (entry c.args.z.now (17 - c.loop-k.k)))))
    ≡ entry c.args.z.now c.loop-k.k -ℤ entry c.args.z.now (17 - c.loop-k.k) = omega (arith, ints) in
    let room : c.loop-k.k < length c.loop-k.f = omega arith in
    record {
      long = length-set c.loop-k.f c.loop-k.k _ ∙ c.loop-k.invariant.long;
      value = filled_more (λ n y. y ≡ folded_slot (entry c.args.z.now) n) c.loop-k.f c.loop-k.k _ (pos 0) room c.loop-k.invariant.value
          (difference ∙ sym (folded-low (entry c.args.z.now) c.loop-k.k c.loop-k-test.true));
    }

pub loop-k-2-preserved : goal.loop-k-2-preserved
loop-k-2-preserved c =
    let a : unsigned_abs (entry c.args.z.now (9 + c.loop-k-2.k)) ≤ 44598016 = c.requires (9 + c.loop-k-2.k) (omega arith) in
    let b : unsigned_abs (entry c.args.z.now (44 - c.loop-k-2.k)) ≤ 44598016 = c.requires (44 - c.loop-k-2.k) (omega arith) in
    let sum : to_z w32 (of_z w32 (to_z w32 (of_z w32 (entry c.args.z.now (9 + c.loop-k-2.k))) +ℤ to_z w32 (of_z w32 (entry c.args.z.now (44 - c.loop-k-2.k)))))
    ≡ entry c.args.z.now (9 + c.loop-k-2.k) +ℤ entry c.args.z.now (44 - c.loop-k-2.k) = omega (arith, ints) in
    let room : c.loop-k-2.k < length c.loop-k-2.f = omega arith in
    record {
      from = omega arith;
      long = length-set c.loop-k-2.f c.loop-k-2.k _ ∙ c.loop-k-2.invariant.long;
      value = filled_more (λ n y. y ≡ folded_slot (entry c.args.z.now) n) c.loop-k-2.f c.loop-k-2.k _ (pos 0) room c.loop-k-2.invariant.value
          (sum ∙ sym (folded-high (entry c.args.z.now) c.loop-k-2.k c.loop-k-2.invariant.from));
    }

pub returns-clause-bound : goal.returns-clause-bound
returns-clause-bound c = λ k lt.
    within_same 89196032 _ _ (c.loop-k-2.invariant.value k (omega arith)) (folded_small (entry c.args.z.now) k 44598016 lt c.requires)
