use Rattle.std.proofs.Common.{arith}
use Rattle.l3_wav.proofs.WindowLemmas.{one-more, all-eight}
use Rattle.l3_wav.proofs.kept.forget.Goals as goal

pub returns-then-stale-lt7-clause-left : goal.returns-then-stale-lt7-clause-left
returns-then-stale-lt7-clause-left c = one-more c.args.left.now.items c.args.stale

pub returns-then-stale-lt7-clause-right : goal.returns-then-stale-lt7-clause-right
returns-then-stale-lt7-clause-right c = one-more c.args.right.now.items c.args.stale

pub returns-clause-left : goal.returns-clause-left
returns-clause-left c =
    all-eight c.args.left.now.items c.take_out.new.kept.items c.args.stale (omega (arith, c.requires, c.if-stale-lt7.false)) c.take_out.ensures.items

pub returns-clause-right : goal.returns-clause-right
returns-clause-right c =
    all-eight c.args.right.now.items c.take_out-2.new.kept.items c.args.stale (omega (arith, c.requires, c.if-stale-lt7.false)) c.take_out-2.ensures.items
