use Rattle.std.proofs.Common.{◌≡◌, length, rules}
use Rattle.l3_frames.proofs.LeftSteps.{told_too_long, told_short_header}
use Rattle.l3_frames.proofs.frames.read_header_bytes.Goals as goal

pub returns-then-limit-number-clause-gone : goal.returns-then-limit-number-clause-gone
returns-then-limit-number-clause-gone g c =
    let four : length c.read_front.new.buf ≡ 4 = search rules in
    told_too_long c.in_ok-count.count c.read_front.new.buf four c.in_ok-count.ensures.bound
    c.args.at (g.S.Source.left c.args.source.now) (g.S.Source.left c.read_front.new.source)
    c.in_ok-count.ensures.content

pub returns-then-count-lt-HEADER_BYTES-clause-gone : goal.returns-then-count-lt-HEADER_BYTES-clause-gone
returns-then-count-lt-HEADER_BYTES-clause-gone g c =
    let four : length c.read_front.new.buf ≡ 4 = search rules in
    told_short_header c.in_ok-count.count c.read_front.new.buf four c.in_ok-count.ensures.bound
    c.args.at (g.S.Source.left c.args.source.now) (g.S.Source.left c.read_front.new.source)
    c.in_ok-count.ensures.content
