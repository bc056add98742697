use Rattle.std.proofs.Common.{refl}
use Rattle.l3_huff.specs.declared.quads.QuadTable.TheVariants.{A, B}
use Rattle.l3_huff.specs.Tables.{quad_codes, quad_lengths, quad_values}
use Rattle.l3_huff.proofs.Entries.{complete_code}
use Rattle.l3_huff.proofs.facts.quad_tables_are_complete.Goals as goal

pub returns-clause-complete_a : goal.returns-clause-complete_a
unfolding quad_codes quad_lengths quad_values
returns-clause-complete_a c = complete_code (quad_codes A) refl refl refl

pub returns-clause-complete_b : goal.returns-clause-complete_b
unfolding quad_codes
returns-clause-complete_b c = complete_code (quad_codes B) refl refl refl

pub returns-clause-lengths : goal.returns-clause-lengths
unfolding quad_lengths
returns-clause-lengths c = record { counted = refl; summed = refl; in_place = refl }

pub returns-clause-values : goal.returns-clause-values
unfolding quad_values
returns-clause-values c = record { counted = refl; summed = refl; in_place = refl }
