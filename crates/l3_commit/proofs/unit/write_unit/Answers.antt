use Rattle.std.proofs.Common.{rules, ◌<◌, pos}
use Rattle.std.specs.Prelude.{Any}
use Rattle.l3_quant.specs.Quantiser.{magnitude}
use Rattle.l3_commit.proofs.CodedPicks.{count_in-small}
use Rattle.l3_commit.proofs.unit.write_unit.Goals as goal

-- the spectrum is codable at the count's gain
pub unreachable-requires : goal.unreachable-requires
unreachable-requires c =
    let above : Any (λ x. 8191 < magnitude (pos c.gain-gain.result) x) c.args.spec.now = search rules in
    count_in-small c.args.spec.now c.args.count.now c.gain-gain.result c.requires.own c.gain-gain.ensures.value above
