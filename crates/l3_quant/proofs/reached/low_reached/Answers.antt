use Rattle.std.proofs.Common.{◌≡◌, ◌+◌, arith, ap, ◌∙◌, sym}
use Rattle.l3_quant.specs.Thresholds.{threshold_at}
use Rattle.l3_quant.proofs.Blocks.{first_of, block_greatest, block_next}
use Rattle.l3_quant.proofs.reached.low_reached.Goals as goal

pub returns-then-threshold-y-clause-value : goal.returns-then-threshold-y-clause-value
returns-then-threshold-y-clause-value c =
    let next : c.from.result + 1 ≡ c.from-then-threshold-y.result + 1 = omega arith in
    let block = first_of c.args.y c.from-then-threshold-y.result c.requires (c.from-then-threshold-y.ensures ∙ c.first-n.ensures.value) in
    sym (block_next _ _ c.args.y c.from-then-threshold-y.result block (omega arith) (omega arith) (omega (arith, ap threshold_at next)))

pub returns-else-threshold-y-clause-value : goal.returns-else-threshold-y-clause-value
returns-else-threshold-y-clause-value c =
    let next : c.from.result + 1 ≡ c.from-else-threshold-y.result + 1 = omega arith in
    let block = first_of c.args.y c.from-else-threshold-y.result c.requires (c.from-else-threshold-y.ensures ∙ c.first-n.ensures.value) in
    sym (block_greatest _ _ c.args.y c.from-else-threshold-y.result block (omega arith) (omega arith) (omega (arith, ap threshold_at next)))
