use Rattle.std.proofs.Common.{◌≡◌, ◌∙◌, ◌*◌, ◌/◌, length, take, drop, arith, rules, length-take-le, ◌≤◌, le_trans}
use Rattle.l3_wav.proofs.RangeLemmas.{front_fits}
use Rattle.l3_wav.proofs.SampleLemmas.{block_read, counted-all, counted-less, counted-most, counted-whole}
use Rattle.l3_wav.proofs.samples.read_block.Goals as goal

pub returns-clause-content : goal.returns-clause-content
returns-clause-content g c =
    let left = g.S.Source.left in
    let count = c.in_ok-there.there / (2 * c.from-channels.result) * c.from-channels.result in
    block_read c.args.channels c.from-channels.result c.args.want c.in_ok-there.there c.read_full.new.buf c.decode.new.out (drop count c.args.out.now)
    (left c.args.source.now) (left c.read_full.new.source) (c.from-channels.ensures ∙ c.number.ensures)
    c.in_ok-there.ensures.bytes c.in_ok-there.ensures.bound (search rules) c.in_ok-there.ensures.end c.decode.ensures.values (search rules)

pub returns-clause-some : goal.returns-clause-some
returns-clause-some g c =
    let bytes = c.read_full.new.buf in
    let long = length-take-le c.in_ok-there.there bytes c.in_ok-there.ensures.bound in
    let room : length bytes ≡ c.args.want = search rules in
    (take c.in_ok-there.there bytes, omega (arith, long, room, c.in_ok-there.ensures.bound), c.in_ok-there.ensures.bytes)

pub returns-clause-range : goal.returns-clause-range
returns-clause-range g c =
    front_fits (c.in_ok-there.there / (2 * c.from-channels.result) * c.from-channels.result) c.decode.new.out _ (search rules) c.decode.ensures.range

pub returns-clause-bound : goal.returns-clause-bound
returns-clause-bound g c =
    let long : length c.read_full.new.buf ≡ c.args.want = search rules in
    let most : c.in_ok-there.there ≤ c.args.want = rw long at c.in_ok-there.ensures.bound in
    le_trans (counted-most c.args.channels c.from-channels.result c.in_ok-there.there (c.from-channels.ensures ∙ c.number.ensures)) most

pub returns-clause-samples : goal.returns-clause-samples
returns-clause-samples g c = counted-whole c.args.channels c.from-channels.result c.in_ok-there.there (c.from-channels.ensures ∙ c.number.ensures)

pub returns-clause-whole : goal.returns-clause-whole
returns-clause-whole g c = counted-all c.args.channels c.from-channels.result c.in_ok-there.there c.args.want (c.from-channels.ensures ∙ c.number.ensures)

pub returns-clause-short : goal.returns-clause-short
returns-clause-short g c =
    let long : length c.read_full.new.buf ≡ c.args.want = search rules in
    let most : c.in_ok-there.there ≤ c.args.want = rw long at c.in_ok-there.ensures.bound in
    counted-less c.args.channels c.from-channels.result c.in_ok-there.there c.args.want (c.from-channels.ensures ∙ c.number.ensures) most

pub returns-clause-cause : goal.returns-clause-cause
returns-clause-cause g c = record { later = c.in_ok-there.ensures.cause.later; failed = tt; served = c.in_ok-there.ensures.cause.served }
