use Rattle.l3_count.proofs.Lines.{mantissa_is}
use Rattle.l3_count.proofs.line.mantissa.Goals as goal

pub returns-clause-is : goal.returns-clause-is
returns-clause-is c = (mantissa_is c.args.x c.args.exponent c.requires.low c.requires.high c.requires.small).0

pub returns-clause-low : goal.returns-clause-low
returns-clause-low c = (mantissa_is c.args.x c.args.exponent c.requires.low c.requires.high c.requires.small).1

pub returns-clause-high : goal.returns-clause-high
returns-clause-high c = (mantissa_is c.args.x c.args.exponent c.requires.low c.requires.high c.requires.small).2
