use Rattle.l3_stream.proofs.StreamReading.{deviates_exactly}
use Rattle.l3_stream.proofs.laws.deviation_is_exact.Goals as goal

pub returns : goal.returns
returns c = deviates_exactly
