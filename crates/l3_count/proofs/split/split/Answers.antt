use Rattle.std.proofs.Common.{◌-◌, ◌/◌, refl}
use Rattle.l3_count.proofs.Ends.{last_is, split_is}
use Rattle.l3_count.proofs.split.split.Goals as goal

pub returns-clause-value : goal.returns-clause-value
returns-clause-value c lines q h nonzero above_one key is =
    split_is lines q h c.last-pairs.result c.last.result c.min-ones.result ((c.last-pairs.result - c.min-ones.result) / 2) is
    (last_is lines 0 h c.last-pairs.result c.args.key c.args.nonzero.now nonzero key c.last-pairs.ensures.within c.last-pairs.ensures.before c.last-pairs.ensures.behind)
    (last_is lines 1 h c.last.result c.args.key c.args.above_one.now above_one key c.last.ensures.within c.last.ensures.before c.last.ensures.behind)
    c.min-ones.ensures refl
