use Rattle.l3_stream.proofs.StreamReading.{one_reading}
use Rattle.l3_stream.proofs.laws.one_reading.Goals as goal

pub returns : goal.returns
returns c = one_reading
