use Rattle.std.proofs.Common.{◌∙◌, arith}
use Rattle.std.proofs.lemmas.Result.{IfOk-from_err}
use Rattle.l3_lanes.proofs.WholeLemmas.{hires_whole}
use Rattle.l3_lanes.proofs.opening.hired.Goals as goal

pub split_seat-token-requires : goal.split_seat-token-requires
split_seat-token-requires g c = (c.loop.invariant.table ∙ c.requires.table, (let w = c.requires.words in omega arith), hires_whole g.T.Numbered.number_of c.loop.token.id c.loop.token.me.0)

pub returns-clause-pasts : goal.returns-clause-pasts
returns-clause-pasts g c = c.loop.invariant.pasts

pub returns-clause-made : goal.returns-clause-made
returns-clause-made g c = c.loop.invariant.seats

-- where memory runs out, nothing is promised
pub returns-in_err-push-clause-seats : goal.returns-in_err-push-clause-seats
returns-in_err-push-clause-seats g c = IfOk-from_err _ _ c.from_residual.ensures.0

pub returns-in_err-push-clause-pasts : goal.returns-in_err-push-clause-pasts
returns-in_err-push-clause-pasts g c = IfOk-from_err _ _ c.from_residual.ensures.0

pub returns-in_err-push-clause-made : goal.returns-in_err-push-clause-made
returns-in_err-push-clause-made g c = IfOk-from_err _ _ c.from_residual.ensures.0
