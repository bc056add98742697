use Rattle.l3_count.proofs.Lines.{exponent_is}
use Rattle.l3_count.proofs.line.exponent.Goals as goal

pub returns-clause-low : goal.returns-clause-low
returns-clause-low c = (exponent_is c.args.x c.requires.some c.requires.line).0

pub returns-clause-high : goal.returns-clause-high
returns-clause-high c = (exponent_is c.args.x c.requires.some c.requires.line).1

pub returns-clause-small : goal.returns-clause-small
returns-clause-small c = (exponent_is c.args.x c.requires.some c.requires.line).2
