use Rattle.std.proofs.Common.{rules, ◌*◌}
use Rattle.l3_base.proofs.Entries.{within_same}
use Rattle.l3_transform.specs.Spectrum.{lower_end}
use Rattle.l3_transform.proofs.Bounds.{lower_sum_small, lower_end_small}
use Rattle.l3_transform.proofs.Casts.{lower_sum_is, sum_fits, sum_is, rounded_is}
use Rattle.l3_transform.proofs.alias.lower.Goals as goal

pub overflow_add-below : goal.overflow_add-below
overflow_add-below c =
    let sum = lower_sum_is c.args.k c.args.a c.args.b c.cs.result c.ca.result c.product-below.result c.product-above.result c.ranges.a c.ranges.b (search rules) (search rules) (search rules) (search rules) c.cs.ensures.value c.ca.ensures.value c.product-below.ensures.value c.product-above.ensures.value in
    let small = lower_sum_small c.args.k c.args.a c.args.b c.requires.butterfly c.requires.below c.requires.above in
    sum_fits _ _ sum small

pub rounded-requires : goal.rounded-requires
rounded-requires c =
    let sum = lower_sum_is c.args.k c.args.a c.args.b c.cs.result c.ca.result c.product-below.result c.product-above.result c.ranges.a c.ranges.b (search rules) (search rules) (search rules) (search rules) c.cs.ensures.value c.ca.ensures.value c.product-below.ensures.value c.product-above.ensures.value in
    let small = lower_sum_small c.args.k c.args.a c.args.b c.requires.butterfly c.requires.below c.requires.above in
    within_same (268435456 * 32768) _ _ (sum_is _ _ sum small) small

pub returns-clause-value : goal.returns-clause-value
unfolding lower_end
returns-clause-value c =
    let sum = lower_sum_is c.args.k c.args.a c.args.b c.cs.result c.ca.result c.product-below.result c.product-above.result c.ranges.a c.ranges.b (search rules) (search rules) (search rules) (search rules) c.cs.ensures.value c.ca.ensures.value c.product-below.ensures.value c.product-above.ensures.value in
    let small = lower_sum_small c.args.k c.args.a c.args.b c.requires.butterfly c.requires.below c.requires.above in
    rounded_is c.rounded.result _ _ (search rules) c.rounded.ensures (sum_is _ _ sum small)

pub returns-clause-bound : goal.returns-clause-bound
unfolding lower_end
returns-clause-bound c =
    let sum = lower_sum_is c.args.k c.args.a c.args.b c.cs.result c.ca.result c.product-below.result c.product-above.result c.ranges.a c.ranges.b (search rules) (search rules) (search rules) (search rules) c.cs.ensures.value c.ca.ensures.value c.product-below.ensures.value c.product-above.ensures.value in
    let small = lower_sum_small c.args.k c.args.a c.args.b c.requires.butterfly c.requires.below c.requires.above in
    within_same 268435456 _ _ (rounded_is c.rounded.result _ _ (search rules) c.rounded.ensures (sum_is _ _ sum small))
    (lower_end_small c.args.k c.args.a c.args.b c.requires.butterfly c.requires.below c.requires.above)
