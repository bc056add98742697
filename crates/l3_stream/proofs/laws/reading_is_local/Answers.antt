use Rattle.l3_stream.proofs.Locality.{frame_is_local}
use Rattle.l3_stream.proofs.laws.reading_is_local.Goals as goal

pub returns : goal.returns
returns c = frame_is_local
