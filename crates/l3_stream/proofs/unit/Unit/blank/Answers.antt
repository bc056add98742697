use Rattle.std.proofs.Common.{refl}
use Rattle.l3_stream.specs.Units.{zero_lines}
use Rattle.l3_stream.specs.Frames.{blank}
use Rattle.l3_stream.proofs.unit.Unit.blank.Goals as goal

pub returns : goal.returns
unfolding blank zero_lines
returns c = refl
