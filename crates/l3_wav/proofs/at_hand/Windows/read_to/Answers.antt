use Rattle.std.proofs.Common.{◌∙◌, rules, arith}
use Rattle.l3_wav.proofs.SampleLemmas.{fault_caused}
use Rattle.l3_wav.proofs.GoneLemmas.{at-err, twice-gone}
use Rattle.l3_wav.proofs.HoldLemmas.{goes-twice}
use Rattle.l3_wav.specs.ReadingOn.{AreGone}
use Rattle.l3_wav.proofs.at_hand.Windows.read_to.Goals as goal

pub reading-preserved : goal.reading-preserved
reading-preserved g c =
    let left = g.S.Source.left in
    let read = c.in_ok-read_some.ensures in
    record {
      content = goes-twice c.args.self.now c.reading.self c.read_some.new.self (left c.args.source.now) (left c.reading.source) (left c.read_some.new.source) c.reading.invariant.content read.content;
      same = search rules;
      few = omega (arith, read.few);
      grows = omega (arith, c.reading.invariant.grows, read.grows);
      short = λ was ended. read.short ended;
      idle = search rules;
      gone = twice-gone c.args.self.now.samples.remaining c.reading.self.samples.remaining c.read_some.new.self.samples.remaining (left c.args.source.now) (left c.reading.source) (left c.read_some.new.source) c.reading.invariant.gone read.gone;
      sound = read.sound;
      steady = search rules;
    }

pub returns-in_err-read_some-clause-some : goal.returns-in_err-read_some-clause-some
returns-in_err-read_some-clause-some g c =
    let left = g.S.Source.left in
    let some : AreGone c.reading.self.samples.remaining 0 (left c.reading.source) (left c.read_some.new.source) = c.in_err-read_some.ensures.some in
    at-err c.from_residual.result _ (twice-gone c.args.self.now.samples.remaining c.reading.self.samples.remaining 0 (left c.args.source.now) (left c.reading.source) (left c.read_some.new.source) c.reading.invariant.gone some)

pub returns-in_err-read_some-clause-same : goal.returns-in_err-read_some-clause-same
returns-in_err-read_some-clause-same g c =
    let told = c.read_some.ensures.same in
    let was = c.reading.invariant.same in
    (told.0 ∙ was.0, told.1 ∙ was.1, told.2 ∙ was.2)

pub returns-in_err-read_some-clause-few : goal.returns-in_err-read_some-clause-few
returns-in_err-read_some-clause-few g c =
    omega (arith, c.read_some.ensures.few)

pub returns-in_err-read_some-clause-grows : goal.returns-in_err-read_some-clause-grows
returns-in_err-read_some-clause-grows g c =
    omega (arith, c.reading.invariant.grows, c.read_some.ensures.grows)

pub returns-in_err-read_some-clause-stays : goal.returns-in_err-read_some-clause-stays
returns-in_err-read_some-clause-stays g c =
    at-err c.from_residual.result _ c.in_err-read_some.ensures.stays

pub returns-in_err-read_some-clause-failed : goal.returns-in_err-read_some-clause-failed
returns-in_err-read_some-clause-failed g c =
    at-err c.from_residual.result _ c.in_err-read_some.ensures.failed

pub returns-in_err-read_some-clause-cause : goal.returns-in_err-read_some-clause-cause
returns-in_err-read_some-clause-cause g c =
    let faults = g.S.Source.faults in
    fault_caused (faults c.args.source.now) (faults c.reading.source) (faults c.read_some.new.source) c.from_residual.result c.read_some.result c.in_err-read_some.field-0.0 (search rules) c.in_err-read_some.was
    c.reading.invariant.steady c.read_some.ensures.cause
