use Rattle.std.proofs.Common.{◌≡◌, length, arith, rules}
use Rattle.std.specs.Prelude.{Err}
use Rattle.l3_wav.proofs.SampleLemmas.{gone_in_two, OnErr-always}
use Rattle.l3_wav.proofs.BodyLemmas.{gone-passed, gone-within, stretch_ends, FaultCause-from, FaultCause-as}
use Rattle.l3_wav.proofs.reading.skip.Goals as goal

pub returns-in_err-fill-clause-some : goal.returns-in_err-fill-clause-some
returns-in_err-fill-clause-some g c =
    let left = g.S.Source.left in
    let room : length c.fill.new.buf ≡ c.min-want.result = search rules in
    OnErr-always c.from_residual.result _ (gone_in_two (left c.args.source.now) (left c.loop-done.source) (left c.fill.new.source) c.loop-done.done c.min-want.result c.args.count
    (gone-passed (left c.args.source.now) (left c.loop-done.source) c.loop-done.done c.loop-done.invariant.passed)
    (gone-within (left c.loop-done.source) (left c.fill.new.source) (length c.fill.new.buf) c.min-want.result (omega arith) c.in_err-fill.ensures.some) (omega arith))

pub returns-in_err-fill-clause-ends : goal.returns-in_err-fill-clause-ends
returns-in_err-fill-clause-ends g c =
    let left = g.S.Source.left in
    let room : length c.fill.new.buf ≡ c.min-want.result = search rules in
    let is : c.from_residual.result ≡ Err c.in_err-fill.field-0.0 = search rules in
    rw is (stretch_ends (left c.args.source.now) (left c.loop-done.source) (left c.fill.new.source) c.loop-done.done (length c.fill.new.buf) c.args.count c.in_err-fill.field-0.0
    (omega arith) c.loop-done.invariant.passed c.in_err-fill.ensures.ends)

pub returns-in_err-fill-clause-cause : goal.returns-in_err-fill-clause-cause
returns-in_err-fill-clause-cause g c =
    let is : c.from_residual.result ≡ Err c.in_err-fill.field-0.0 = search rules in
    FaultCause-as _ _ c.from_residual.result c.in_err-fill.field-0.0 is (FaultCause-from _ _ _ c.in_err-fill.field-0.0 c.loop-done.invariant.steady c.in_err-fill.ensures.cause)
