use Rattle.std.proofs.Common.{◌∙◌, arith, sym}
use Rattle.l3_quant.proofs.Entries.{between_is}
use Rattle.l3_quant.proofs.HighBlocks.{high_of, last_threshold}
use Rattle.l3_quant.proofs.reached.high_reached.Goals as goal

pub high-requires : goal.high-requires
high-requires c = omega (arith, last_threshold, c.requires.low, c.requires.high)

pub half_of-eight-requires-clause-begins : goal.half_of-eight-requires-clause-begins
half_of-eight-requires-clause-begins c = (high_of c.args.y c.from-sixteen.result c.requires.low c.requires.high (c.from-sixteen.ensures ∙ c.high.ensures)).begins

pub half_of-eight-requires-clause-ends : goal.half_of-eight-requires-clause-ends
half_of-eight-requires-clause-ends c = (high_of c.args.y c.from-sixteen.result c.requires.low c.requires.high (c.from-sixteen.ensures ∙ c.high.ensures)).ends

pub half_of-eight-requires-clause-room : goal.half_of-eight-requires-clause-room
half_of-eight-requires-clause-room c = (high_of c.args.y c.from-sixteen.result c.requires.low c.requires.high (c.from-sixteen.ensures ∙ c.high.ensures)).room

pub returns : goal.returns
returns c = sym (between_is c.half_of.result c.args.y (omega (arith, c.half_of.ensures.room)) c.half_of.ensures.begins c.half_of.ensures.ends)
