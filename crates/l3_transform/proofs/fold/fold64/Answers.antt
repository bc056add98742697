use Rattle.std.proofs.Common.{rules, ◌≡◌, ◌<◌, ◌^◌, ◌+◌, ◌-◌, pos, ◌+ℤ◌, ◌-ℤ◌, to_z, of_z, w64, FitsSigned, arith, sym, ◌∙◌}
use Rattle.std.proofs.Math.ListN.{length-set}
use Rattle.std.proofs.lemmas.Int.{ints, to_z-of_z}
use Rattle.std.specs.Prelude.{unsigned_abs}
use Rattle.l3_base.specs.Lists.{entry}
use Rattle.l3_base.proofs.ListLemmas.{filled_more, tabulate-entries}
use Rattle.l3_transform.specs.Fold.{folded_column}
use Rattle.l3_transform.proofs.FoldLaw.{at_low, at_high, at_first, fold_is, folded_columns_sum-same}
use Rattle.l3_transform.proofs.fold.fold64.Goals as goal

pub overflow_add-u-in-loop-j : goal.overflow_add-u-in-loop-j
overflow_add-u-in-loop-j c =
    let a : unsigned_abs (entry c.args.y.now (16 + c.loop-j.j)) < 2 ^ 50 = c.requires (16 + c.loop-j.j) (omega arith) in
    let b : unsigned_abs (entry c.args.y.now (16 - c.loop-j.j)) < 2 ^ 50 = c.requires (16 - c.loop-j.j) (omega arith) in
    search rules

pub overflow_sub-u-in-loop-j-2-2 : goal.overflow_sub-u-in-loop-j-2-2
overflow_sub-u-in-loop-j-2-2 c =
    let a : unsigned_abs (entry c.args.y.now (16 + c.loop-j-2.j)) < 2 ^ 50 = c.requires (16 + c.loop-j-2.j) (omega arith) in
    let b : unsigned_abs (entry c.args.y.now (80 - c.loop-j-2.j)) < 2 ^ 50 = c.requires (80 - c.loop-j-2.j) (omega arith) in
    search rules

pub loop-j-init : goal.loop-j-init
loop-j-init c =
    let fits : FitsSigned w64 (entry c.args.y.now 16) = search rules in
    record {
      from = omega arith;
      long = length-set c.args.u.now 0 _ ∙ c.told-u;
      value = filled_more (λ m z. z ≡ folded_column (entry c.args.y.now) m) c.args.u.now 0 _ (pos 0) (omega arith) (λ m none. absurd (omega arith))
          (to_z-of_z w64 _ fits ∙ sym (at_first (entry c.args.y.now)));
    }

pub loop-j-preserved : goal.loop-j-preserved
loop-j-preserved c =
    let a : unsigned_abs (entry c.args.y.now (16 + c.loop-j.j)) < 2 ^ 50 = c.requires (16 + c.loop-j.j) (omega arith) in
    let b : unsigned_abs (entry c.args.y.now (16 - c.loop-j.j)) < 2 ^ 50 = c.requires (16 - c.loop-j.j) (omega arith) in
    let sum : to_z w64 (of_z w64 (to_z w64 (of_z w64 (entry c.args.y.now (16 + c.loop-j.j))) +ℤ to_z w64 (of_z w64 (entry c.args.y.now (16 - c.loop-j.j)))))
    ≡ entry c.args.y.now (16 + c.loop-j.j) +ℤ entry c.args.y.now (16 - c.loop-j.j) = omega (arith, ints) in
    record {
      from = omega arith;
      long = length-set c.loop-j.u c.loop-j.j _ ∙ c.loop-j.invariant.long;
      value = filled_more (λ m z. z ≡ folded_column (entry c.args.y.now) m) c.loop-j.u c.loop-j.j _ (pos 0) (omega arith) c.loop-j.invariant.value
          (sum ∙ sym (at_low (entry c.args.y.now) c.loop-j.j c.loop-j.invariant.from (omega arith)));
    }

pub loop-j-2-preserved : goal.loop-j-2-preserved
loop-j-2-preserved c =
    let a : unsigned_abs (entry c.args.y.now (16 + c.loop-j-2.j)) < 2 ^ 50 = c.requires (16 + c.loop-j-2.j) (omega arith) in
    let b : unsigned_abs (entry c.args.y.now (80 - c.loop-j-2.j)) < 2 ^ 50 = c.requires (80 - c.loop-j-2.j) (omega arith) in
    let sum : to_z w64 (of_z w64 (to_z w64 (of_z w64 (entry c.args.y.now (16 + c.loop-j-2.j))) -ℤ to_z w64 (of_z w64 (entry c.args.y.now (80 - c.loop-j-2.j)))))
    ≡ entry c.args.y.now (16 + c.loop-j-2.j) -ℤ entry c.args.y.now (80 - c.loop-j-2.j) = omega (arith, ints) in
    record {
      from = omega arith;
      long = length-set c.loop-j-2.u c.loop-j-2.j _ ∙ c.loop-j-2.invariant.long;
      value = filled_more (λ m z. z ≡ folded_column (entry c.args.y.now) m) c.loop-j-2.u c.loop-j-2.j _ (pos 0) (omega arith) c.loop-j-2.invariant.value
          (sum ∙ sym (at_high (entry c.args.y.now) c.loop-j-2.j c.loop-j-2.invariant.from));
    }

pub returns-clause-value : goal.returns-clause-value
returns-clause-value c =
    tabulate-entries 32 (folded_column (entry c.args.y.now)) (pos 0) c.loop-j-2.u c.loop-j-2.invariant.long (λ j lt. c.loop-j-2.invariant.value j (omega arith))

pub returns-clause-sum : goal.returns-clause-sum
returns-clause-sum c = λ i low.
    folded_columns_sum-same (entry c.loop-j-2.u) (folded_column (entry c.args.y.now)) i (λ j lt. c.loop-j-2.invariant.value j (omega arith))
    ∙ fold_is (entry c.args.y.now) i
