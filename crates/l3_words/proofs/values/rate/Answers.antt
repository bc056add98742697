use Rattle.l3_words.proofs.RateLemmas.{rate_is}
use Rattle.l3_words.proofs.values.rate.Goals as goal

pub returns : goal.returns
returns c = rate_is c.of.result c.args.kbits c.of.ensures.some c.of.ensures.none
