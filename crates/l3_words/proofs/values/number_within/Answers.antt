use Rattle.std.proofs.Common.{rules}
use Rattle.clap.specs.Words.{found_of}
use Rattle.clap.proofs.WalkLemmas.{one_text-rows}
use Rattle.l3_words.proofs.values.number_within.Goals as goal

pub returns : goal.returns
returns c = rw (← one_text-rows (found_of c.args.matches.now) c.args.name.now, ← c.number.ensures) (search rules)
