use Rattle.std.proofs.Common.{refl}
use Rattle.l3_huff.specs.Tables.{codes_of, first_at, greatest_of, lengths_of, linbits_at, values_of, width_at}
use Rattle.l3_huff.proofs.Entries.{complete_code}
use Rattle.l3_huff.proofs.facts.table_0.Goals as goal

pub returns-clause-complete : goal.returns-clause-complete
unfolding codes_of lengths_of values_of first_at width_at
returns-clause-complete c = complete_code (codes_of 0) refl refl refl

pub returns-clause-empty : goal.returns-clause-empty
unfolding codes_of lengths_of values_of first_at width_at
returns-clause-empty c = refl

pub returns-clause-greatest : goal.returns-clause-greatest
unfolding greatest_of linbits_at width_at
returns-clause-greatest c = refl
