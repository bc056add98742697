use Rattle.std.proofs.Common.{rules, ◌*◌, ◌≡◌, ◌≤◌, ◌<◌, length, pos, arith, ◌∙◌}
use Rattle.std.proofs.Math.ListN.{length-set}
use Rattle.std.specs.Prelude.{unsigned_abs}
use Rattle.l3_base.specs.Slots.{slot_in}
use Rattle.l3_base.proofs.Entries.{within_same}
use Rattle.l3_base.proofs.ListLemmas.{filled_more}
use Rattle.l3_transform.specs.Spectrum.{windowed}
use Rattle.l3_transform.proofs.Bounds.{slot_in_small, windowed_sum_small, windowed_small}
use Rattle.l3_transform.proofs.Casts.{windowed_sum_is, sum_is, rounded_is}
use Rattle.l3_transform.proofs.lines.windowed_slots.Goals as goal

pub rounded-requires : goal.rounded-requires
rounded-requires c =
    let sum = windowed_sum_is (slot_in c.args.slots.now c.args.band c.loop-k.k) c.loop-k.k c.get.result c.window.result c.product-sum.result (search rules) (search rules) c.get.ensures.value c.window.ensures.value c.product-sum.ensures.value in
    let slot = slot_in_small 44598016 c.args.slots.now c.args.band c.loop-k.k c.requires.small in
    let small = windowed_sum_small (slot_in c.args.slots.now c.args.band) c.loop-k.k slot in
    within_same (268435456 * 32768) _ _ (sum_is _ _ sum small) small

pub loop-k-preserved : goal.loop-k-preserved
unfolding windowed
loop-k-preserved c =
    let sum = windowed_sum_is (slot_in c.args.slots.now c.args.band c.loop-k.k) c.loop-k.k c.get.result c.window.result c.product-sum.result (search rules) (search rules) c.get.ensures.value c.window.ensures.value c.product-sum.ensures.value in
    let slot = slot_in_small 44598016 c.args.slots.now c.args.band c.loop-k.k c.requires.small in
    let small = windowed_sum_small (slot_in c.args.slots.now c.args.band) c.loop-k.k slot in
    let value = rounded_is c.rounded.result _ _ (search rules) c.rounded.ensures (sum_is _ _ sum small) in
    let room : c.loop-k.k < length c.loop-k.z = omega arith in
    record {
      long = length-set c.loop-k.z c.loop-k.k _ ∙ c.loop-k.invariant.long;
      value = filled_more (λ n y. y ≡ windowed (slot_in c.args.slots.now c.args.band) n) c.loop-k.z c.loop-k.k _ (pos 0) room c.loop-k.invariant.value value;
      bound = filled_more (λ n y. unsigned_abs y ≤ 44598016) c.loop-k.z c.loop-k.k _ (pos 0) room c.loop-k.invariant.bound
          (within_same 44598016 _ _ value (windowed_small (slot_in c.args.slots.now c.args.band) c.loop-k.k slot));
    }
