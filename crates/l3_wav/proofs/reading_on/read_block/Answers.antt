use Rattle.std.proofs.Common.{◌≡◌, ◌∙◌, ◌*◌, ap, length, rules}
use Rattle.l3_base.specs.Rates.{channels_of}
use Rattle.l3_wav.specs.Samples.{SamplesState}
use Rattle.l3_wav.proofs.GoneLemmas.{block-gone}
use Rattle.l3_wav.proofs.ReadLemmas.{block-told, block-left, block-right, block-count, block-declared, block-ended}
use Rattle.l3_wav.proofs.reading_on.read_block.Goals as goal

pub returns-clause-content : goal.returns-clause-content
returns-clause-content g c =
    let left = g.S.Source.left in
    let read = c.in_ok-there.ensures in
    let number_is : c.from-number.result ≡ channels_of c.args.channels = search rules in
    let long : length c.next.new.out ≡ c.args.room * c.from-number.result = search rules in
    block-told c.args.channels c.from-number.result c.args.samples.now c.next.new.self c.in_ok-there.there c.args.room c.next.new.out _ _ _ _
    (left c.args.source.now) (left c.next.new.source) number_is read.content read.state long read.declared read.samples c.requires.channels c.add_samples.ensures.left c.add_samples.ensures.right

pub returns-clause-left_long : goal.returns-clause-left_long
returns-clause-left_long g c =
    let number_is : c.from-number.result ≡ channels_of c.args.channels = search rules in
    block-left c.args.channels _ c.from-number.result c.in_ok-there.there c.next.new.out c.args.left.now.items c.add_samples.new.left.items number_is
    c.in_ok-there.ensures.bound c.in_ok-there.ensures.samples c.requires.channels c.add_samples.ensures.left

pub returns-clause-right_long : goal.returns-clause-right_long
returns-clause-right_long g c =
    let number_is : c.from-number.result ≡ channels_of c.args.channels = search rules in
    block-right c.args.channels _ c.from-number.result c.in_ok-there.there c.next.new.out c.args.right.now.items c.add_samples.new.right.items number_is
    c.in_ok-there.ensures.bound c.in_ok-there.ensures.samples c.requires.channels c.add_samples.ensures.right

pub returns-clause-gone : goal.returns-clause-gone
returns-clause-gone g c =
    let left = g.S.Source.left in
    let read = c.in_ok-there.ensures in
    block-gone c.args.samples.now c.next.new.self c.in_ok-there.there c.next.new.out (left c.args.source.now) (left c.next.new.source) read.content read.state read.declared

pub returns-clause-cause : goal.returns-clause-cause
returns-clause-cause g c = record { later = c.in_ok-there.ensures.cause.later; failed = tt; served = c.in_ok-there.ensures.cause.served }

pub returns-clause-state : goal.returns-clause-state
returns-clause-state g c =
    let after = c.in_ok-there.ensures.state in
    (ap (λ (s : SamplesState). s.channels) after ∙ c.requires.channels, ap (λ (s : SamplesState). s.failed) after)

pub returns-clause-bound : goal.returns-clause-bound
returns-clause-bound g c =
    let long : length c.next.new.out ≡ c.args.room * c.from-number.result = search rules in
    block-count c.args.channels c.from-number.result c.in_ok-there.there c.args.room (c.from-number.ensures ∙ c.number.ensures) (rw long at c.in_ok-there.ensures.bound)

pub returns-clause-declared : goal.returns-clause-declared
returns-clause-declared g c =
    let read = c.in_ok-there.ensures in
    block-declared c.args.channels c.from-number.result c.in_ok-there.there _ c.args.samples.now c.next.new.self (c.from-number.ensures ∙ c.number.ensures) read.state read.declared

pub returns-clause-ended : goal.returns-clause-ended
returns-clause-ended g c =
    let read = c.in_ok-there.ensures in
    let long : length c.next.new.out ≡ c.args.room * c.from-number.result = search rules in
    let whole = rw c.requires.channels at read.samples in
    block-ended c.args.channels c.from-number.result c.in_ok-there.there c.args.room c.args.samples.now c.next.new.self c.next.new.out (c.from-number.ensures ∙ c.number.ensures) read.state long whole
