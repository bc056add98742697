use Rattle.std.proofs.Common.{◌∙◌, ap, get_or, []}
use Rattle.l3_search.specs.declared.scalefactors.TheConstants.{COMPRESS}
use Rattle.l3_search.proofs.CompressLemmas.{entry_is}
use Rattle.l3_search.proofs.scalefactors.compress.Goals as goal

pub returns-clause-value : goal.returns-clause-value
returns-clause-value c =
    ap (λ k. get_or (get_or COMPRESS k []) c.from-2.result 0) c.from.ensures
    ∙ (ap (λ k. get_or (get_or COMPRESS c.args.first []) k 0) c.from-2.ensures
    ∙ entry_is c.args.first c.args.second c.requires.first c.requires.second)
