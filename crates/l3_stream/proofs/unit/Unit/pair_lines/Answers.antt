use Rattle.std.proofs.Common.{◌*◌, take, ap}
use Rattle.l3_stream.specs.Units.{pairs_of}
use Rattle.l3_stream.proofs.unit.Unit.pair_lines.Goals as goal

pub returns-clause-value : goal.returns-clause-value
unfolding pairs_of
returns-clause-value c = ap (λ n. take (2 * n) c.args.self.now.lines) c.from.ensures
