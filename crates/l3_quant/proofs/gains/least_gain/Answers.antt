use Rattle.std.proofs.Common.{◌<◌, ◌-◌, ◌+◌, arith}
use Rattle.l3_quant.specs.Quantiser.{magnitude_at}
use Rattle.l3_quant.proofs.Codable.{magnitude_at-top, magnitude_at-steps}
use Rattle.l3_quant.proofs.gains.least_gain.Goals as goal

pub loop-low-init : goal.loop-low-init
loop-low-init c = record {
  from = omega arith;
  ordered = omega arith;
  within = omega arith;
  coded = omega (arith, magnitude_at-top c.args.x (258 - 255 + c.args.finer) c.requires.line (omega arith));
  least = λ k from lt. absurd (omega (arith, from, lt));
}

pub loop-low-preserved : goal.loop-low-preserved
loop-low-preserved c =
    let here : 8191 < magnitude_at c.args.x (258 - c.from-in-loop-low.result + c.args.finer) = omega arith in
    record {
      from = omega arith;
      ordered = omega arith;
      within = omega arith;
      coded = c.loop-low.invariant.coded;
      least = λ k from lt.
          omega (arith, magnitude_at-steps c.args.x (258 - c.from-in-loop-low.result + c.args.finer) (258 - k + c.args.finer) (omega arith));
    }
