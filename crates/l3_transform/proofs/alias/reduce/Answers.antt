use Rattle.std.proofs.Common.{◌≡◌, ◌<◌, pos, arith}
use Rattle.std.proofs.lemmas.List.Elements.{All-from_get_or}
use Rattle.l3_base.specs.Lists.{entry}
use Rattle.l3_base.specs.Sums.{IsWithin}
use Rattle.l3_base.proofs.Entries.{within_same}
use Rattle.l3_base.proofs.ListLemmas.{tabulate-entries}
use Rattle.l3_transform.specs.Spectrum.{line_after}
use Rattle.l3_transform.proofs.Butterflies.{reduced_first, reduced_more, reduced_last}
use Rattle.l3_transform.proofs.Reduction.{line_after_small}
use Rattle.l3_transform.proofs.alias.reduce.Goals as goal

pub loop-border-init : goal.loop-border-init
loop-border-init c = record { from = omega arith; lines = reduced_first _ c.requires.long }

pub butterflies-requires-clause-small : goal.butterflies-requires-clause-small
butterflies-requires-clause-small c = λ n le lt.
    within_same 178392064 _ _ (c.loop-border.invariant.lines.left n le) (c.requires.small n (omega arith))

pub loop-border-preserved : goal.loop-border-preserved
loop-border-preserved c = record {
  from = omega arith;
  lines = reduced_more c.loop-border.border _ c.loop-border.out c.butterflies.new.out c.loop-border.invariant.from c.loop-border-test.true c.loop-border.invariant.lines (record {
    long = c.butterflies.ensures.long;
    lower = c.butterflies.ensures.lower;
    upper = c.butterflies.ensures.upper;
    before = c.butterflies.ensures.before;
    after = c.butterflies.ensures.after;
  });
}

pub returns-clause-value : goal.returns-clause-value
returns-clause-value c =
    let end : c.loop-border.border ≡ 32 = omega arith in
    let lines = rw end at c.loop-border.invariant.lines in
    tabulate-entries 576 (line_after (entry c.args.out.now)) (pos 0) c.loop-border.out lines.long (reduced_last _ c.loop-border.out lines)

pub returns-clause-bound : goal.returns-clause-bound
returns-clause-bound c =
    let end : c.loop-border.border ≡ 32 = omega arith in
    let lines = rw end at c.loop-border.invariant.lines in
    All-from_get_or (IsWithin 268435456) c.loop-border.out (pos 0) (λ n lt.
    let low : n < 576 = omega (arith, lines.long) in
    within_same 268435456 _ _ (reduced_last _ c.loop-border.out lines n low) (line_after_small (entry c.args.out.now) n low c.requires.small))
