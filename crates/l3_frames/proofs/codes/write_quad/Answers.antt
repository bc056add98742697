use Rattle.std.proofs.Common.{◌+◌, ap, ◌∙◌}
use Rattle.l3_bits.specs.Bits.{bits_of}
use Rattle.l3_frames.specs.Laying.{laid_over}
use Rattle.l3_frames.proofs.codes.write_quad.Goals as goal

pub returns-clause-bits : goal.returns-clause-bits
returns-clause-bits c = c.write_code.ensures.bits ∙ ap (λ code. laid_over c.args.at code (bits_of c.args.out.now)) c.quad_code.ensures.code

pub returns-clause-place : goal.returns-clause-place
returns-clause-place c = c.write_code.ensures.place ∙ ap (λ n. c.args.at + n) c.quad_code.ensures.length
