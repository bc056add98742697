use Rattle.std.proofs.Common.{◌∙◌, vec_len}
use Rattle.l3_wav.proofs.WindowLemmas.{forgotten, all-forgotten}
use Rattle.l3_wav.proofs.kept.take_out.Goals as goal

pub returns-then-count-le4608-clause-items : goal.returns-then-count-le4608-clause-items
returns-then-count-le4608-clause-items c =
    all-forgotten c.args.kept.now.items c.clear.new.self.items c.len-count.result (c.len-count.ensures ∙ c.args.kept.now.ok.0) c.if-count-le4608.true c.clear.ensures.items

pub returns-clause-items : goal.returns-clause-items
returns-clause-items c =
    c.truncate.ensures.items ∙ forgotten c.args.kept.now.items c.copy_within.new.self.items c.len-count.result (vec_len c.args.kept.now) (c.len-count.ensures ∙ c.args.kept.now.ok.0) c.args.kept.now.ok.0 c.copy_within.ensures.items
