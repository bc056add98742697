use Rattle.l3_frames.proofs.CodeLemmas.{code_laid}
use Rattle.l3_frames.proofs.codes.write_code.Goals as goal

pub returns-clause-bits : goal.returns-clause-bits
returns-clause-bits c = code_laid c.args.at c.args.code.value c.args.code.length c.from.result c.args.out.now c.put_bits.new.out c.from.ensures c.put_bits.ensures
