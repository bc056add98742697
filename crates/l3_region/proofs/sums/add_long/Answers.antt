use Rattle.std.proofs.Common.{arith, ap, ◌∙◌}
use Rattle.l3_region.specs.Lanes.{short_at}
use Rattle.l3_region.specs.Pairs.{lines_in}
use Rattle.l3_region.proofs.Kept.{short_sum-more, short_sum-le}
use Rattle.l3_region.proofs.Unpacked.{place_unpacked}
use Rattle.l3_region.proofs.sums.add_long.Goals as goal

pub overflow_add-sum : goal.overflow_add-sum
overflow_add-sum c =
    let lines = lines_in c.args.pairs.now in
    let n = c.loop-n.n in
    omega (
      arith,
      c.loop-n.invariant,
      short_sum-le lines 12 n (omega arith),
      short_sum-le lines 13 n (omega arith),
      c.long_bits-sum.ensures.small,
    )

pub loop-n-preserved : goal.loop-n-preserved
loop-n-preserved c =
    let lines = lines_in c.args.pairs.now in
    let n = c.loop-n.n in
    let place = c.from.ensures ∙ place_unpacked c.args.pairs.now n (omega arith) in
    omega (
      arith,
      c.loop-n.invariant,
      c.long_bits-sum.ensures.value,
      ap (λ p. short_at p 12) place,
      ap (λ p. short_at p 13) place,
      short_sum-more lines 12 n,
      short_sum-more lines 13 n,
    )
