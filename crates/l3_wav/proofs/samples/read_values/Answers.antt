use Rattle.std.proofs.Common.{◌≡◌, ◌≤◌, ◌+◌, ◌-◌, ◌*◌, ◌⊎◌, inl, inr, true, false, length, arith, rules}
use Rattle.std.proofs.lemmas.Bool.{le-ltb}
use Rattle.std.proofs.lemmas.Option.{IfSome_then}
use Rattle.l3_wav.proofs.RangeLemmas.{block_fits}
use Rattle.l3_wav.proofs.SampleLemmas.{whole_sum, block_whole, reads_full, reads_ended, has_more, gone_in_two, OnErr-always, fault_caused, none_remains, put_mid-long, served_on}
use Rattle.l3_wav.proofs.samples.read_values.Goals as goal
use Rattle.l3_wav.proofs.samples.read_values.Goals.{then-not-block-via-then-not-block, then-not-block-via-else-not-block+then-want-remaining}

pub returns-in_err-block-clause-some : goal.returns-in_err-block-clause-some
returns-in_err-block-clause-some g c =
    let left = g.S.Source.left in
    OnErr-always c.from_residual.result _ (gone_in_two (left c.args.source.now) (left c.loop-count.source) (left c.read_block.new.source) (2 * c.loop-count.count) c.min-want.result c.args.declared
    c.loop-count.invariant.some c.read_block.ensures.some (omega arith))

pub returns-then-not-block-clause-content : goal.returns-then-not-block-clause-content
returns-then-not-block-clause-content g c =
    let left = g.S.Source.left in
    let ends : (c.in_ok-block.block.is_whole ≡ false) ⊎ (c.min-want.result ≡ c.args.declared - 2 * c.loop-count.count) =
    elim c.then-not-block.branch [ then-not-block-via-then-not-block w ↦ inl (search rules) | then-not-block-via-else-not-block+then-want-remaining w ↦ inr (omega arith) ] in
    IfSome_then (left c.args.source.now) c.loop-count.invariant.content
    (λ bytes has. reads_ended c.args.channels c.args.declared bytes c.loop-count.count c.in_ok-block.block.count c.min-want.result (length c.loop-count.out - c.loop-count.count) c.in_ok-block.block.is_whole
    c.loop-count.out c.read_block.new.out (left c.loop-count.source) (left c.read_block.new.source) has c.in_ok-block.ensures.content (search rules) (search rules)
    c.loop-count.invariant.samples c.in_ok-block.ensures.samples (search rules) (omega arith) (omega arith) (omega arith) ends)

pub returns-then-not-block-clause-range : goal.returns-then-not-block-clause-range
returns-then-not-block-clause-range g c =
    block_fits c.loop-count.count c.in_ok-block.block.count _ c.loop-count.out c.read_block.new.out (search rules) (search rules) c.loop-count.invariant.range c.in_ok-block.ensures.range

pub loop-count-preserved : goal.loop-count-preserved
loop-count-preserved g c =
    let left = g.S.Source.left in
    let whole : c.in_ok-block.block.is_whole ≡ true = search rules in
    let is : 2 * c.in_ok-block.block.count ≡ c.min-want.result =
    block_whole c.args.channels (length c.loop-count.out) c.loop-count.count c.min-room.result c.loop-count.remaining c.min-want.result c.in_ok-block.block.count
    (search rules) c.loop-count.invariant.samples (search rules) (search rules) c.if-want-remaining.false (c.in_ok-block.ensures.whole whole) in
    record {
      room = search rules;
      samples = whole_sum c.args.channels c.loop-count.count c.in_ok-block.block.count c.loop-count.invariant.samples c.in_ok-block.ensures.samples;
      declared = omega arith;
      content = IfSome_then (left c.args.source.now) c.loop-count.invariant.content
          (λ bytes has. has_more c.args.channels c.args.declared bytes c.loop-count.count c.in_ok-block.block.count c.min-want.result (length c.loop-count.out - c.loop-count.count) c.in_ok-block.block.is_whole
          c.loop-count.out c.read_block.new.out (left c.loop-count.source) (left c.read_block.new.source) has c.in_ok-block.ensures.content (search rules) (search rules) is);
      range = block_fits c.loop-count.count c.in_ok-block.block.count _ c.loop-count.out c.read_block.new.out (search rules) (search rules) c.loop-count.invariant.range c.in_ok-block.ensures.range;
      some = gone_in_two (left c.args.source.now) (left c.loop-count.source) (left c.read_block.new.source) (2 * c.loop-count.count) c.min-want.result _ c.loop-count.invariant.some c.read_block.ensures.some (omega (arith, is));
      steady = search rules;
    }

pub returns-clause-content : goal.returns-clause-content
returns-clause-content g c =
    let left = g.S.Source.left in
    IfSome_then (left c.args.source.now) c.loop-count.invariant.content
    (λ bytes has. reads_full c.args.channels c.args.declared bytes c.loop-count.count c.loop-count.out (left c.loop-count.source) has (search rules) c.loop-count.invariant.samples (omega arith))

pub returns-in_err-block-clause-cause : goal.returns-in_err-block-clause-cause
returns-in_err-block-clause-cause g c =
    let faults = g.S.Source.faults in
    fault_caused (faults c.args.source.now) (faults c.loop-count.source) (faults c.read_block.new.source) c.from_residual.result c.read_block.result c.in_err-block.field-0.0 (search rules) c.in_err-block.was c.loop-count.invariant.steady c.read_block.ensures.cause

pub returns-then-not-block-clause-declared : goal.returns-then-not-block-clause-declared
returns-then-not-block-clause-declared g c = omega (arith, c.in_ok-block.ensures.bound)

pub returns-then-not-block-clause-samples : goal.returns-then-not-block-clause-samples
returns-then-not-block-clause-samples g c = whole_sum c.args.channels c.loop-count.count c.in_ok-block.block.count c.loop-count.invariant.samples c.in_ok-block.ensures.samples

pub returns-then-not-block-clause-cause : goal.returns-then-not-block-clause-cause
returns-then-not-block-clause-cause g c =
    let faults = g.S.Source.faults in
    served_on (faults c.args.source.now) (faults c.loop-count.source) (faults c.read_block.new.source) _ _ c.loop-count.invariant.steady c.in_ok-block.ensures.cause

pub returns-clause-range : goal.returns-clause-range
returns-clause-range g c = c.loop-count.invariant.range

pub returns-clause-bound : goal.returns-clause-bound
returns-clause-bound g c = c.loop-count.invariant.room

pub returns-clause-declared : goal.returns-clause-declared
returns-clause-declared g c = omega arith

pub returns-clause-samples : goal.returns-clause-samples
returns-clause-samples g c = c.loop-count.invariant.samples

pub returns-clause-remaining : goal.returns-clause-remaining
returns-clause-remaining g c =
    let full : length c.loop-count.out ≤ c.loop-count.count = omega arith in
    rw (le-ltb c.loop-count.count (length c.loop-count.out) full) (omega arith)

pub returns-clause-cause : goal.returns-clause-cause
returns-clause-cause g c =
    let steady = c.loop-count.invariant.steady in
    record { later = omega (arith, steady); failed = tt; served = steady }

pub returns-then-not-block-clause-bound : goal.returns-then-not-block-clause-bound
returns-then-not-block-clause-bound g c =
    let long = put_mid-long c.loop-count.count c.loop-count.out c.read_block.new.out (search rules) (search rules) in
    rw long (omega (arith, c.in_ok-block.ensures.bound))

pub returns-then-not-block-clause-remaining : goal.returns-then-not-block-clause-remaining
returns-then-not-block-clause-remaining g c =
    let long = put_mid-long c.loop-count.count c.loop-count.out c.read_block.new.out (search rules) (search rules) in
    rw long (none_remains (c.loop-count.count + c.in_ok-block.block.count) (length c.loop-count.out) c.args.declared
    (λ full. elim c.then-not-block.branch [
      | then-not-block-via-then-not-block w ↦ absurd (omega (arith, c.in_ok-block.ensures.short (search rules)))
      | then-not-block-via-else-not-block+then-want-remaining w ↦ omega (arith, c.in_ok-block.ensures.bound)
    ]))
