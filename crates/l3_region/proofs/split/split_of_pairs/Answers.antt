use Rattle.std.proofs.Common.{◌+◌, ◌*◌, ◌≤◌, ◌∙◌, sym, subst}
use Rattle.l3_region.specs.declared.split.Split.{Split}
use Rattle.l3_region.specs.Pairs.{lines_in, unpacked}
use Rattle.l3_region.proofs.CutLines.{split_same}
use Rattle.l3_region.proofs.SplitLemmas.{split_within}
use Rattle.l3_region.proofs.Unpacked.{unpacked_same}
use Rattle.l3_region.proofs.split.split_of_pairs.Goals as goal

pub returns-clause-value : goal.returns-clause-value
returns-clause-value c = λ q edges classes is.
    let pairs = c.args.pairs.now in
    c.split_in.ensures ∙ split_same q (unpacked pairs) (unpacked_same q pairs classes c.told-pairs is)

pub returns-clause-places : goal.returns-clause-places
returns-clause-places c = subst (λ (s : Split). 2 * s.big + 4 * s.quads ≤ 576) (sym c.split_in.ensures) (split_within (lines_in c.args.pairs.now))
