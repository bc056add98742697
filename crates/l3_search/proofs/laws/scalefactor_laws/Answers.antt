use Rattle.l3_search.proofs.CompressLemmas.{bits_differ, compress_is_least, no_bits_without_amp}
use Rattle.l3_search.proofs.laws.scalefactor_laws.Goals as goal

pub returns-clause-least : goal.returns-clause-least
returns-clause-least c = compress_is_least

pub returns-clause-differ : goal.returns-clause-differ
returns-clause-differ c = bits_differ

pub returns-clause-none : goal.returns-clause-none
returns-clause-none c = no_bits_without_amp
