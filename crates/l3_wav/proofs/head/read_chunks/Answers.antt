use Rattle.std.proofs.Common.{◌≡◌, ◌-◌, refl, length, take, arith, rules}
use Rattle.std.specs.Prelude.{None, bytes_eq, codes}
use Rattle.l3_wav.specs.Wav.{padded, head_limit, chunks_from, most_chunks}
use Rattle.l3_wav.proofs.SampleLemmas.{gone_in_two, OnErr-always}
use Rattle.l3_wav.proofs.BodyLemmas.{gone-passed}
use Rattle.l3_wav.proofs.ChunkLemmas.{IsAt-first, chunk_ends, chunk_begins, opens_data, too_long, body_refused, goes_on, fault_told, gone_at}
use Rattle.l3_wav.proofs.head.read_chunks.Goals as goal

pub loop-head-init : goal.loop-head-init
loop-head-init g c = record {
  low = omega arith;
  within = omega arith;
  at = IsAt-first (g.S.Source.left c.args.source.now);
  steady = search rules;
}

pub returns-in_err-fill-clause-told : goal.returns-in_err-fill-clause-told
returns-in_err-fill-clause-told g c =
    let left = g.S.Source.left in
    let long : length c.fill.new.buf ≡ 8 = search rules in
    fault_told (left c.args.source.now) (left c.fill.new.source) c.from_residual.result c.in_err-fill.field-0.0 (λ bytes. chunks_from most_chunks None 12 bytes) (search rules)
    (chunk_ends (left c.args.source.now) (left c.loop-head.source) (left c.fill.new.source) c.loop-head.format c.loop-head.read c.in_err-fill.field-0.0
    c.loop-head.invariant.at c.loop-head.invariant.within (rw long at c.in_err-fill.ensures.ends))

pub returns-in_err-fill-clause-some : goal.returns-in_err-fill-clause-some
returns-in_err-fill-clause-some g c =
    let left = g.S.Source.left in
    let long : length c.fill.new.buf ≡ 8 = search rules in
    OnErr-always c.from_residual.result _ (gone_in_two (left c.args.source.now) (left c.loop-head.source) (left c.fill.new.source) (c.loop-head.read - 12) (length c.fill.new.buf) (head_limit - 4)
    (gone_at (left c.args.source.now) (left c.loop-head.source) c.loop-head.format c.loop-head.read c.loop-head.invariant.at) c.in_err-fill.ensures.some (omega arith))

pub returns-then-has_id-clause-told : goal.returns-then-has_id-clause-told
returns-then-has_id-clause-told g c =
    let left = g.S.Source.left in
    let long : length c.fill.new.buf ≡ 8 = search rules in
    let begun = chunk_begins (left c.args.source.now) (left c.loop-head.source) (left c.fill.new.source) c.loop-head.format c.loop-head.read c.u32_at-size.result c.has_id.result (bytes_eq (take 4 c.fill.new.buf) (codes "fmt ")) c.fill.new.buf
    c.loop-head.invariant.at c.loop-head.invariant.within long c.in_ok-fill.ensures.front c.in_ok-fill.ensures.passed c.u32_at-size.ensures c.has_id.ensures refl in
    opens_data (left c.args.source.now) (left c.fill.new.source) c.loop-head.format c.loop-head.read c.u32_at-size.result c.has_id.result (bytes_eq (take 4 c.fill.new.buf) (codes "fmt ")) c.data_head.result
    begun c.if-has_id.true c.data_head.ensures.value

pub returns-then-has_id-clause-some : goal.returns-then-has_id-clause-some
returns-then-has_id-clause-some g c =
    let left = g.S.Source.left in
    let long : length c.fill.new.buf ≡ 8 = search rules in
    OnErr-always c.data_head.result _ (gone_in_two (left c.args.source.now) (left c.loop-head.source) (left c.fill.new.source) (c.loop-head.read - 12) (length c.fill.new.buf) (head_limit - 4)
    (gone_at (left c.args.source.now) (left c.loop-head.source) c.loop-head.format c.loop-head.read c.loop-head.invariant.at)
    (gone-passed (left c.loop-head.source) (left c.fill.new.source) (length c.fill.new.buf) c.in_ok-fill.ensures.passed) (omega arith))

pub returns-then-end-gt-HEAD_LIMIT-clause-told : goal.returns-then-end-gt-HEAD_LIMIT-clause-told
returns-then-end-gt-HEAD_LIMIT-clause-told g c =
    let left = g.S.Source.left in
    let long : length c.fill.new.buf ≡ 8 = search rules in
    let begun = chunk_begins (left c.args.source.now) (left c.loop-head.source) (left c.fill.new.source) c.loop-head.format c.loop-head.read c.u32_at-size.result c.has_id.result (bytes_eq (take 4 c.fill.new.buf) (codes "fmt ")) c.fill.new.buf
    c.loop-head.invariant.at c.loop-head.invariant.within long c.in_ok-fill.ensures.front c.in_ok-fill.ensures.passed c.u32_at-size.ensures c.has_id.ensures refl in
    too_long (left c.args.source.now) (left c.fill.new.source) c.loop-head.format c.loop-head.read c.u32_at-size.result c.has_id.result (bytes_eq (take 4 c.fill.new.buf) (codes "fmt "))
    begun c.if-has_id.false (omega (arith, c.padded.ensures))

pub returns-then-end-gt-HEAD_LIMIT-clause-some : goal.returns-then-end-gt-HEAD_LIMIT-clause-some
returns-then-end-gt-HEAD_LIMIT-clause-some g c =
    let left = g.S.Source.left in
    let long : length c.fill.new.buf ≡ 8 = search rules in
    gone_in_two (left c.args.source.now) (left c.loop-head.source) (left c.fill.new.source) (c.loop-head.read - 12) (length c.fill.new.buf) (head_limit - 4)
    (gone_at (left c.args.source.now) (left c.loop-head.source) c.loop-head.format c.loop-head.read c.loop-head.invariant.at)
    (gone-passed (left c.loop-head.source) (left c.fill.new.source) (length c.fill.new.buf) c.in_ok-fill.ensures.passed) (omega arith)

pub returns-in_err-format-clause-told : goal.returns-in_err-format-clause-told
returns-in_err-format-clause-told g c =
    let left = g.S.Source.left in
    let long : length c.fill.new.buf ≡ 8 = search rules in
    let begun = chunk_begins (left c.args.source.now) (left c.loop-head.source) (left c.fill.new.source) c.loop-head.format c.loop-head.read c.u32_at-size.result c.has_id.result c.has_id-in-loop-head.result c.fill.new.buf
    c.loop-head.invariant.at c.loop-head.invariant.within long c.in_ok-fill.ensures.front c.in_ok-fill.ensures.passed c.u32_at-size.ensures c.has_id.ensures c.has_id-in-loop-head.ensures in
    fault_told (left c.args.source.now) (left c.read_body.new.source) c.from_residual-in_err-format.result c.in_err-format.field-0.0 (λ bytes. chunks_from most_chunks None 12 bytes) (search rules)
    (body_refused (left c.args.source.now) (left c.fill.new.source) (left c.read_body.new.source) c.loop-head.format c.loop-head.read c.u32_at-size.result c.has_id.result c.has_id-in-loop-head.result c.in_err-format.field-0.0
    begun c.if-has_id.false (omega (arith, c.padded.ensures)) c.in_err-format.ensures.told)

pub returns-in_err-format-clause-some : goal.returns-in_err-format-clause-some
returns-in_err-format-clause-some g c =
    let left = g.S.Source.left in
    let long : length c.fill.new.buf ≡ 8 = search rules in
    OnErr-always c.from_residual-in_err-format.result _ (gone_in_two (left c.args.source.now) (left c.fill.new.source) (left c.read_body.new.source) (c.loop-head.read - 4) (padded c.u32_at-size.result) (head_limit - 4)
    (gone_in_two (left c.args.source.now) (left c.loop-head.source) (left c.fill.new.source) (c.loop-head.read - 12) (length c.fill.new.buf) (c.loop-head.read - 4)
    (gone_at (left c.args.source.now) (left c.loop-head.source) c.loop-head.format c.loop-head.read c.loop-head.invariant.at)
    (gone-passed (left c.loop-head.source) (left c.fill.new.source) (length c.fill.new.buf) c.in_ok-fill.ensures.passed) (omega arith))
    c.in_err-format.ensures.some (omega (arith, c.padded.ensures)))

pub loop-head-preserved : goal.loop-head-preserved
loop-head-preserved g c =
    let left = g.S.Source.left in
    let long : length c.fill.new.buf ≡ 8 = search rules in
    let begun = chunk_begins (left c.args.source.now) (left c.loop-head.source) (left c.fill.new.source) c.loop-head.format c.loop-head.read c.u32_at-size.result c.has_id.result c.has_id-in-loop-head.result c.fill.new.buf
    c.loop-head.invariant.at c.loop-head.invariant.within long c.in_ok-fill.ensures.front c.in_ok-fill.ensures.passed c.u32_at-size.ensures c.has_id.ensures c.has_id-in-loop-head.ensures in
    let next = goes_on (left c.args.source.now) (left c.fill.new.source) (left c.read_body.new.source) c.loop-head.format c.in_ok-format.format c.loop-head.read c.u32_at-size.result c.has_id.result c.has_id-in-loop-head.result
    begun c.if-has_id.false (omega (arith, c.padded.ensures)) c.in_ok-format.ensures.told in
    record {
      low = omega arith;
      within = omega arith;
      at = rw (← c.padded.ensures) at next;
      steady = search rules;
    }
