use Rattle.std.proofs.Common.{refl}
use Rattle.l3_wav.proofs.source.head.Goals as goal

pub returns : goal.returns
returns c = rw (c.to_le_bytes-size.ensures, c.to_le_bytes-data.ensures) refl
