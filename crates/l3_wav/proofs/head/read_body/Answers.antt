use Rattle.std.proofs.Common.{◌≡◌, ◌⊎◌, ◌+◌, ◌-◌, inl, inr, ◌∙◌, ap, sym, true, false, min, length, arith, rules, le_trans}
use Rattle.std.specs.Prelude.{Some, Ok, Err, is_some}
use Rattle.l3_wav.specs.Wav.{padded, known_by, format_after, fields_in}
use Rattle.l3_wav.proofs.SampleLemmas.{gone_in_two, OnErr-always}
use Rattle.l3_wav.proofs.BodyLemmas.{gone-passed, gone-within, passed_in_two, rest_ends, ends_told, over_told, fields_told, FaultCause-as, FaultCause-from}
use Rattle.l3_wav.proofs.head.read_body.Goals as goal
use Rattle.l3_wav.proofs.head.read_body.Goals.{then-is_some-via-then-is_some, then-is_some-via-else-is_some+then-not-is_format}

pub returns-in_err-skip-clause-told : goal.returns-in_err-skip-clause-told
returns-in_err-skip-clause-told g c =
    let left = g.S.Source.left in
    ends_told (left c.args.source.now) (left c.skip.new.source) c.args.size c.padded.result c.from_residual.result c.in_err-skip.field-0.0 (λ bytes. format_after c.args.format c.args.is_format (fields_in c.args.size bytes)) (search rules) (omega arith) c.in_err-skip.ensures.ends

pub returns-then-is_some-clause-told : goal.returns-then-is_some-clause-told
returns-then-is_some-clause-told g c =
    let left = g.S.Source.left in
    let other : (is_some c.args.format ≡ true) ⊎ (c.args.is_format ≡ false) =
    elim c.then-is_some.branch [ then-is_some-via-then-is_some w ↦ inl (search rules) | then-is_some-via-else-is_some+then-not-is_format w ↦ inr (search rules) ] in
    over_told (left c.args.source.now) (left c.skip.new.source) c.args.format c.args.is_format c.args.size other (search rules)

pub returns-in_err-fill-clause-told : goal.returns-in_err-fill-clause-told
returns-in_err-fill-clause-told g c =
    let left = g.S.Source.left in
    let long : length c.fill.new.buf ≡ min c.args.size 40 = search rules in
    ends_told (left c.args.source.now) (left c.fill.new.source) c.args.size (length c.fill.new.buf) c.from_residual-in_err-fill.result c.in_err-fill.field-0.0 (λ bytes. format_after c.args.format c.args.is_format (fields_in c.args.size bytes)) (search rules) (omega arith) c.in_err-fill.ensures.ends

pub returns-in_err-skip-2-clause-told : goal.returns-in_err-skip-2-clause-told
returns-in_err-skip-2-clause-told g c =
    let left = g.S.Source.left in
    let long : length c.fill.new.buf ≡ min c.args.size 40 = search rules in
    let rest = c.padded-2.result - length c.fill.new.buf in
    ends_told (left c.args.source.now) (left c.skip-2.new.source) c.args.size (length c.fill.new.buf + rest) c.from_residual-in_err-skip-2.result c.in_err-skip-2.field-0.0 (λ bytes. format_after c.args.format c.args.is_format (fields_in c.args.size bytes)) (search rules) (omega arith)
    (rest_ends (left c.args.source.now) (left c.fill.new.source) (left c.skip-2.new.source) (length c.fill.new.buf) rest c.in_err-skip-2.field-0.0 c.in_ok-fill.ensures.passed c.in_err-skip-2.ensures.ends)

pub returns-in_err-skip-2-clause-some : goal.returns-in_err-skip-2-clause-some
returns-in_err-skip-2-clause-some g c =
    let left = g.S.Source.left in
    let long : length c.fill.new.buf ≡ min c.args.size 40 = search rules in
    let rest = c.padded-2.result - length c.fill.new.buf in
    OnErr-always c.from_residual-in_err-skip-2.result _ (gone_in_two (left c.args.source.now) (left c.fill.new.source) (left c.skip-2.new.source) (length c.fill.new.buf) rest (padded c.args.size)
    (gone-passed (left c.args.source.now) (left c.fill.new.source) (length c.fill.new.buf) c.in_ok-fill.ensures.passed) c.in_err-skip-2.ensures.some (omega arith))

pub returns-in_err-read_format-clause-told : goal.returns-in_err-read_format-clause-told
returns-in_err-read_format-clause-told g c =
    let left = g.S.Source.left in
    let long : length c.fill.new.buf ≡ min c.args.size 40 = search rules in
    let rest = c.padded-2.result - length c.fill.new.buf in
    let is : c.from_residual-in_err-read_format.result ≡ Err c.in_err-read_format.field-0.0 = search rules in
    fields_told (left c.args.source.now) (left c.fill.new.source) (left c.skip-2.new.source) c.args.format c.args.is_format c.args.size rest c.fill.new.buf c.read_format.result c.from_residual-in_err-read_format.result
    (search rules) (search rules) long (omega arith) c.in_ok-fill.ensures.front c.in_ok-fill.ensures.passed c.in_ok-skip-2.ensures.passed c.read_format.ensures.value
    (is ∙ sym (ap known_by c.in_err-read_format.was))

pub returns-in_err-read_format-clause-some : goal.returns-in_err-read_format-clause-some
returns-in_err-read_format-clause-some g c =
    let left = g.S.Source.left in
    let long : length c.fill.new.buf ≡ min c.args.size 40 = search rules in
    let rest = c.padded-2.result - length c.fill.new.buf in
    OnErr-always c.from_residual-in_err-read_format.result _ (gone-within (left c.args.source.now) (left c.skip-2.new.source) (length c.fill.new.buf + rest) (padded c.args.size) (omega arith)
    (gone-passed (left c.args.source.now) (left c.skip-2.new.source) (length c.fill.new.buf + rest)
    (passed_in_two (left c.args.source.now) (left c.fill.new.source) (left c.skip-2.new.source) (length c.fill.new.buf) rest c.in_ok-fill.ensures.passed c.in_ok-skip-2.ensures.passed)))

pub returns-clause-told : goal.returns-clause-told
returns-clause-told g c =
    let left = g.S.Source.left in
    let long : length c.fill.new.buf ≡ min c.args.size 40 = search rules in
    let rest = c.padded-2.result - length c.fill.new.buf in
    fields_told (left c.args.source.now) (left c.fill.new.source) (left c.skip-2.new.source) c.args.format c.args.is_format c.args.size rest c.fill.new.buf c.read_format.result (Ok (Some c.in_ok-read_format.field-0))
    (search rules) (search rules) long (omega arith) c.in_ok-fill.ensures.front c.in_ok-fill.ensures.passed c.in_ok-skip-2.ensures.passed c.read_format.ensures.value
    (sym (ap known_by c.in_ok-read_format.was))

pub returns-in_err-skip-clause-some : goal.returns-in_err-skip-clause-some
returns-in_err-skip-clause-some g c = OnErr-always c.from_residual.result _ (rw c.padded.ensures at c.in_err-skip.ensures.some)

pub returns-in_err-skip-clause-later : goal.returns-in_err-skip-clause-later
returns-in_err-skip-clause-later g c = c.skip.ensures.later

pub returns-in_err-skip-clause-cause : goal.returns-in_err-skip-clause-cause
returns-in_err-skip-clause-cause g c =
    FaultCause-as (g.S.Source.faults c.args.source.now) (g.S.Source.faults c.skip.new.source) c.from_residual.result c.in_err-skip.field-0.0 (search rules) c.in_err-skip.ensures.cause

pub returns-then-is_some-clause-later : goal.returns-then-is_some-clause-later
returns-then-is_some-clause-later g c = c.skip.ensures.later

pub returns-then-is_some-clause-served : goal.returns-then-is_some-clause-served
returns-then-is_some-clause-served g c = c.in_ok-skip.ensures.served

pub returns-in_err-fill-clause-some : goal.returns-in_err-fill-clause-some
returns-in_err-fill-clause-some g c =
    let left = g.S.Source.left in
    let long : length c.fill.new.buf ≡ min c.args.size 40 = search rules in
    OnErr-always c.from_residual-in_err-fill.result _ (gone-within (left c.args.source.now) (left c.fill.new.source) (length c.fill.new.buf) (padded c.args.size) (omega arith) c.in_err-fill.ensures.some)

pub returns-in_err-fill-clause-later : goal.returns-in_err-fill-clause-later
returns-in_err-fill-clause-later g c = c.fill.ensures.later

pub returns-in_err-fill-clause-cause : goal.returns-in_err-fill-clause-cause
returns-in_err-fill-clause-cause g c =
    FaultCause-as (g.S.Source.faults c.args.source.now) (g.S.Source.faults c.fill.new.source) c.from_residual-in_err-fill.result c.in_err-fill.field-0.0 (search rules) c.in_err-fill.ensures.cause

pub returns-in_err-skip-2-clause-later : goal.returns-in_err-skip-2-clause-later
returns-in_err-skip-2-clause-later g c = le_trans c.fill.ensures.later c.skip-2.ensures.later

pub returns-in_err-skip-2-clause-cause : goal.returns-in_err-skip-2-clause-cause
returns-in_err-skip-2-clause-cause g c =
    let faults = g.S.Source.faults in
    FaultCause-as (faults c.args.source.now) (faults c.skip-2.new.source) c.from_residual-in_err-skip-2.result c.in_err-skip-2.field-0.0 (search rules)
    (FaultCause-from (faults c.args.source.now) (faults c.fill.new.source) (faults c.skip-2.new.source) c.in_err-skip-2.field-0.0 c.in_ok-fill.ensures.served c.in_err-skip-2.ensures.cause)

pub returns-in_err-read_format-clause-later : goal.returns-in_err-read_format-clause-later
returns-in_err-read_format-clause-later g c = le_trans c.fill.ensures.later c.skip-2.ensures.later

pub returns-clause-later : goal.returns-clause-later
returns-clause-later g c = le_trans c.fill.ensures.later c.skip-2.ensures.later

pub returns-clause-served : goal.returns-clause-served
returns-clause-served g c = c.in_ok-skip-2.ensures.served ∙ c.in_ok-fill.ensures.served
