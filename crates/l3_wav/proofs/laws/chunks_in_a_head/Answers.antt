use Rattle.std.proofs.Common.{arith}
use Rattle.std.specs.Prelude.{None}
use Rattle.l3_wav.specs.Wav.{most_chunks}
use Rattle.l3_wav.proofs.ChunkLemmas.{chunks_from-more}
use Rattle.l3_wav.proofs.laws.chunks_in_a_head.Goals as goal

pub returns : goal.returns
returns c more bytes = chunks_from-more most_chunks more None 12 bytes (omega arith) (omega arith)
