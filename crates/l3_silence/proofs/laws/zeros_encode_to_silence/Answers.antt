use Rattle.l3_silence.proofs.SilentStream.{zeros-silent}
use Rattle.l3_silence.proofs.laws.zeros_encode_to_silence.Goals as goal

pub returns : goal.returns
returns c = zeros-silent
