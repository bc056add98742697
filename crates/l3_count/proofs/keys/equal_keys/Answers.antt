use Rattle.std.proofs.Common.{ap, sym, ◌∙◌, arith}
use Rattle.std.proofs.lemmas.List.{get_or-replicate}
use Rattle.l3_count.specs.Planes.{key_at}
use Rattle.l3_count.proofs.GainLemmas.{equal_steps}
use Rattle.l3_count.proofs.keys.equal_keys.Goals as goal

pub returns-clause-keys : goal.returns-clause-keys
returns-clause-keys c b lt =
    get_or-replicate 32 b c.equal_key.result 0 (omega arith) ∙ (c.equal_key.ensures.value ∙ ap key_at (sym (equal_steps c.args.gain b)))
