use Rattle.std.proofs.Common.{rules, ◌≡◌, ◌^◌, ◌-◌, ◌+ℤ◌, pos, w32, FitsSigned, arith, ap, ◌∙◌, le_trans}
use Rattle.std.proofs.Math.ListN.{length-set}
use Rattle.std.proofs.lemmas.Int.{to_z-of_z}
use Rattle.l3_base.specs.Lists.{entry}
use Rattle.l3_base.specs.Sums.{floor_div}
use Rattle.l3_transform.specs.Fold.{folded_columns_sum}
use Rattle.l3_transform.proofs.BothEnds.{filled_both}
use Rattle.l3_transform.proofs.HalvingLaw.{whole_low, whole_high}
use Rattle.l3_transform.proofs.WrappedSums.{added, taken}
use Rattle.l3_transform.proofs.subbands.set_opposite.Goals as goal

pub part-odd-requires : goal.part-odd-requires
part-odd-requires c = record { subband = c.requires.subband; places = λ m lt. omega arith; few = omega arith; small = c.requires.small }

pub rounded-requires : goal.rounded-requires
rounded-requires c =
    le_trans (added (entry c.args.even.now c.args.i) c.part-odd.result _ _ _ (2 ^ 55) (2 ^ 55) (c.requires.bound c.args.i c.requires.subband) c.part-odd.ensures.bound (omega arith) (omega arith)
    (c.requires.value c.args.i c.requires.subband) c.part-odd.ensures.value (whole_low (entry c.args.columns.now) c.args.i)).1 (omega arith)

pub rounded-requires-2 : goal.rounded-requires-2
rounded-requires-2 c =
    le_trans (taken (entry c.args.even.now c.args.i) c.part-odd.result _ _ _ (2 ^ 55) (2 ^ 55) (c.requires.bound c.args.i c.requires.subband) c.part-odd.ensures.bound (omega arith) (omega arith)
    (c.requires.value c.args.i c.requires.subband) c.part-odd.ensures.value (whole_high (entry c.args.columns.now) c.args.i c.requires.subband)).1 (omega arith)

pub returns : goal.returns
returns c =
    let even_is = c.requires.value c.args.i c.requires.subband in
    let even_small = c.requires.bound c.args.i c.requires.subband in
    let sum = added (entry c.args.even.now c.args.i) c.part-odd.result _ _ _ (2 ^ 55) (2 ^ 55) even_small c.part-odd.ensures.bound (omega arith) (omega arith)
    even_is c.part-odd.ensures.value (whole_low (entry c.args.columns.now) c.args.i) in
    let difference = taken (entry c.args.even.now c.args.i) c.part-odd.result _ _ _ (2 ^ 55) (2 ^ 55) even_small c.part-odd.ensures.bound (omega arith) (omega arith)
    even_is c.part-odd.ensures.value (whole_high (entry c.args.columns.now) c.args.i c.requires.subband) in
    let fits : FitsSigned w32 c.rounded.result = search rules in
    let fits_high : FitsSigned w32 c.rounded-2.result = search rules in
    let both = filled_both (λ m z. z ≡ floor_div (folded_columns_sum (entry c.args.columns.now) m +ℤ pos 67108864) 134217728) 31 c.args.out.now c.args.i _ _ (pos 0) c.requires.before.long (omega arith)
    (λ m lt. (c.requires.before.low m lt, c.requires.before.high m lt))
    (to_z-of_z w32 c.rounded.result fits ∙ (c.rounded.ensures ∙ ap (λ z. floor_div (z +ℤ pos 67108864) 134217728) sum.0))
    (to_z-of_z w32 c.rounded-2.result fits_high ∙ (c.rounded-2.ensures ∙ ap (λ z. floor_div (z +ℤ pos 67108864) 134217728) difference.0)) in
    record {
      long = length-set _ (31 - c.args.i) _ ∙ (length-set c.args.out.now c.args.i _ ∙ c.requires.before.long);
      low = λ m lt. (both m lt).0;
      high = λ m lt. (both m lt).1;
    }
