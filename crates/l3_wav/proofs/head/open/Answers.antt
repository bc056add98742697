use Rattle.std.proofs.Common.{◌≡◌, ◌-◌, length, true, false, arith, rules, le_trans}
use Rattle.std.specs.Prelude.{Err}
use Rattle.std.proofs.lemmas.Result.{on_err_weaker}
use Rattle.l3_io.specs.Causes.{Rose}
use Rattle.l3_wav.specs.declared.fault.WavFault.TheVariants.{NotRiff, Read}
use Rattle.l3_wav.specs.Wav.{file_of, is_riff, head_limit}
use Rattle.l3_wav.proofs.SampleLemmas.{gone_in_two, OnErr-always}
use Rattle.l3_wav.proofs.BodyLemmas.{gone-passed, gone-within, FaultCause-as, FaultCause-rose}
use Rattle.l3_wav.proofs.ChunkLemmas.{fault_told}
use Rattle.l3_wav.proofs.OpenLemmas.{riff_ends, not_riff, riff_chunks, own_fault, open_told, open_rest, open_refused, open_lost}
use Rattle.l3_wav.proofs.head.open.Goals as goal

pub returns-in_err-fill-clause-told : goal.returns-in_err-fill-clause-told
returns-in_err-fill-clause-told g c =
    let left = g.S.Source.left in
    let long : length c.fill.new.buf ≡ 12 = search rules in
    let is : c.from_residual.result ≡ Err c.in_err-fill.field-0.0 = search rules in
    open_told (left c.args.source.now) (left c.fill.new.source) _ _ c.from_residual.result
    (fault_told (left c.args.source.now) (left c.fill.new.source) c.from_residual.result c.in_err-fill.field-0.0 (λ bytes. file_of bytes) is
    (riff_ends (left c.args.source.now) (left c.fill.new.source) c.in_err-fill.field-0.0 (rw long at c.in_err-fill.ensures.ends)))
    (FaultCause-rose _ _ c.from_residual.result (FaultCause-as _ _ c.from_residual.result c.in_err-fill.field-0.0 is c.in_err-fill.ensures.cause))

pub returns-then-not-is_riff-clause-told : goal.returns-then-not-is_riff-clause-told
returns-then-not-is_riff-clause-told g c =
    let left = g.S.Source.left in
    let long : length c.fill.new.buf ≡ 12 = search rules in
    let other : is_riff c.fill.new.buf ≡ false = search rules in
    open_told (left c.args.source.now) (left c.fill.new.source) (g.S.Source.faults c.args.source.now) (g.S.Source.faults c.fill.new.source) (Err NotRiff)
    (not_riff (left c.args.source.now) (left c.fill.new.source) c.fill.new.buf long c.in_ok-fill.ensures.front c.in_ok-fill.ensures.passed other) (own_fault (Rose (g.S.Source.faults c.args.source.now) (g.S.Source.faults c.fill.new.source)))

pub returns-clause-told : goal.returns-clause-told
returns-clause-told g c =
    let left = g.S.Source.left in
    let long : length c.fill.new.buf ≡ 12 = search rules in
    let riff : is_riff c.fill.new.buf ≡ true = search rules in
    let rose : c.read_chunks.result ≡ Err Read → Rose (g.S.Source.faults c.args.source.now) (g.S.Source.faults c.read_chunks.new.source) =
    FaultCause-rose _ _ c.read_chunks.result (rw c.in_ok-fill.ensures.served at c.read_chunks.ensures.cause) in
    open_told (left c.args.source.now) (left c.read_chunks.new.source) _ _ c.read_chunks.result
    (riff_chunks (left c.args.source.now) (left c.fill.new.source) (left c.read_chunks.new.source) c.fill.new.buf c.read_chunks.result long c.in_ok-fill.ensures.front c.in_ok-fill.ensures.passed riff c.read_chunks.ensures.told) rose

pub returns-clause-rest : goal.returns-clause-rest
returns-clause-rest g c =
    let left = g.S.Source.left in
    let long : length c.fill.new.buf ≡ 12 = search rules in
    let riff : is_riff c.fill.new.buf ≡ true = search rules in
    open_rest (left c.args.source.now) (left c.read_chunks.new.source) c.read_chunks.result
    (riff_chunks (left c.args.source.now) (left c.fill.new.source) (left c.read_chunks.new.source) c.fill.new.buf c.read_chunks.result long c.in_ok-fill.ensures.front c.in_ok-fill.ensures.passed riff c.read_chunks.ensures.told)

pub returns-clause-some : goal.returns-clause-some
returns-clause-some g c =
    let left = g.S.Source.left in
    let long : length c.fill.new.buf ≡ 12 = search rules in
    on_err_weaker c.read_chunks.result
    (λ gone. gone_in_two (left c.args.source.now) (left c.fill.new.source) (left c.read_chunks.new.source) (length c.fill.new.buf) (head_limit - 4) 1048584
    (gone-passed (left c.args.source.now) (left c.fill.new.source) (length c.fill.new.buf) c.in_ok-fill.ensures.passed) gone (omega arith)) c.read_chunks.ensures.some

pub returns-in_err-fill-clause-refused : goal.returns-in_err-fill-clause-refused
returns-in_err-fill-clause-refused g c =
    let left = g.S.Source.left in
    let long : length c.fill.new.buf ≡ 12 = search rules in
    let is : c.from_residual.result ≡ Err c.in_err-fill.field-0.0 = search rules in
    open_refused (left c.args.source.now) (left c.fill.new.source) c.from_residual.result
    (fault_told (left c.args.source.now) (left c.fill.new.source) c.from_residual.result c.in_err-fill.field-0.0 (λ bytes. file_of bytes) is
    (riff_ends (left c.args.source.now) (left c.fill.new.source) c.in_err-fill.field-0.0 (rw long at c.in_err-fill.ensures.ends)))

pub returns-then-not-is_riff-clause-refused : goal.returns-then-not-is_riff-clause-refused
returns-then-not-is_riff-clause-refused g c =
    let left = g.S.Source.left in
    let long : length c.fill.new.buf ≡ 12 = search rules in
    let other : is_riff c.fill.new.buf ≡ false = search rules in
    open_refused (left c.args.source.now) (left c.fill.new.source) (Err NotRiff)
    (not_riff (left c.args.source.now) (left c.fill.new.source) c.fill.new.buf long c.in_ok-fill.ensures.front c.in_ok-fill.ensures.passed other)

pub returns-clause-refused : goal.returns-clause-refused
returns-clause-refused g c =
    let left = g.S.Source.left in
    let long : length c.fill.new.buf ≡ 12 = search rules in
    let riff : is_riff c.fill.new.buf ≡ true = search rules in
    open_refused (left c.args.source.now) (left c.read_chunks.new.source) c.read_chunks.result
    (riff_chunks (left c.args.source.now) (left c.fill.new.source) (left c.read_chunks.new.source) c.fill.new.buf c.read_chunks.result long c.in_ok-fill.ensures.front c.in_ok-fill.ensures.passed riff c.read_chunks.ensures.told)

pub returns-in_err-fill-clause-lost : goal.returns-in_err-fill-clause-lost
returns-in_err-fill-clause-lost g c = λ _.
    let left = g.S.Source.left in
    let long : length c.fill.new.buf ≡ 12 = search rules in
    let is : c.from_residual.result ≡ Err c.in_err-fill.field-0.0 = search rules in
    open_lost (left c.args.source.now) (left c.fill.new.source) c.from_residual.result
    (fault_told (left c.args.source.now) (left c.fill.new.source) c.from_residual.result c.in_err-fill.field-0.0 (λ bytes. file_of bytes) is
    (riff_ends (left c.args.source.now) (left c.fill.new.source) c.in_err-fill.field-0.0 (rw long at c.in_err-fill.ensures.ends)))

pub returns-clause-lost : goal.returns-clause-lost
returns-clause-lost g c = λ _.
    let left = g.S.Source.left in
    let long : length c.fill.new.buf ≡ 12 = search rules in
    let riff : is_riff c.fill.new.buf ≡ true = search rules in
    open_lost (left c.args.source.now) (left c.read_chunks.new.source) c.read_chunks.result
    (riff_chunks (left c.args.source.now) (left c.fill.new.source) (left c.read_chunks.new.source) c.fill.new.buf c.read_chunks.result long c.in_ok-fill.ensures.front c.in_ok-fill.ensures.passed riff c.read_chunks.ensures.told)

pub returns-in_err-fill-clause-some : goal.returns-in_err-fill-clause-some
returns-in_err-fill-clause-some g c =
    let left = g.S.Source.left in
    let long : length c.fill.new.buf ≡ 12 = search rules in
    OnErr-always c.from_residual.result _ (gone-within (left c.args.source.now) (left c.fill.new.source) (length c.fill.new.buf) 1048584 (omega (arith, long)) c.in_err-fill.ensures.some)

pub returns-in_err-fill-clause-later : goal.returns-in_err-fill-clause-later
returns-in_err-fill-clause-later g c = c.fill.ensures.later

pub returns-in_err-fill-clause-cause : goal.returns-in_err-fill-clause-cause
returns-in_err-fill-clause-cause g c =
    FaultCause-as (g.S.Source.faults c.args.source.now) (g.S.Source.faults c.fill.new.source) c.from_residual.result c.in_err-fill.field-0.0 (search rules) c.in_err-fill.ensures.cause

pub returns-in_err-fill-clause-read : goal.returns-in_err-fill-clause-read
returns-in_err-fill-clause-read g c =
    FaultCause-rose (g.S.Source.faults c.args.source.now) (g.S.Source.faults c.fill.new.source) c.from_residual.result
    (FaultCause-as (g.S.Source.faults c.args.source.now) (g.S.Source.faults c.fill.new.source) c.from_residual.result c.in_err-fill.field-0.0 (search rules) c.in_err-fill.ensures.cause)

pub returns-then-not-is_riff-clause-some : goal.returns-then-not-is_riff-clause-some
returns-then-not-is_riff-clause-some g c =
    let left = g.S.Source.left in
    let long : length c.fill.new.buf ≡ 12 = search rules in
    gone-within (left c.args.source.now) (left c.fill.new.source) (length c.fill.new.buf) 1048584 (omega (arith, long))
    (gone-passed (left c.args.source.now) (left c.fill.new.source) (length c.fill.new.buf) c.in_ok-fill.ensures.passed)

pub returns-then-not-is_riff-clause-later : goal.returns-then-not-is_riff-clause-later
returns-then-not-is_riff-clause-later g c = c.fill.ensures.later

pub returns-then-not-is_riff-clause-cause : goal.returns-then-not-is_riff-clause-cause
returns-then-not-is_riff-clause-cause g c = c.in_ok-fill.ensures.served

pub returns-clause-later : goal.returns-clause-later
returns-clause-later g c = le_trans c.fill.ensures.later c.read_chunks.ensures.later

pub returns-clause-read : goal.returns-clause-read
returns-clause-read g c = FaultCause-rose _ _ c.read_chunks.result (rw c.in_ok-fill.ensures.served at c.read_chunks.ensures.cause)

pub returns-clause-served : goal.returns-clause-served
returns-clause-served g c = rw c.in_ok-fill.ensures.served at c.read_chunks.ensures.served

pub returns-clause-cause : goal.returns-clause-cause
returns-clause-cause g c = rw c.in_ok-fill.ensures.served at c.read_chunks.ensures.cause
