use Rattle.l3_bits.specs.Bits.{bits_of}
use Rattle.l3_stream.proofs.GranuleLemmas.{stereo_rule, stereo_parts, stereo_placed}
use Rattle.l3_stream.proofs.side_reading.read_stereo.Goals as goal

pub returns-then-read_granule-clause-rule : goal.returns-then-read_granule-clause-rule
returns-then-read_granule-clause-rule c = λ yes.
    stereo_rule (bits_of c.args.bytes.now) c.in-Some.ensures.clear (c.read_granule.ensures.first c.if-read_granule.true) (c.read_granule.ensures.second c.if-read_granule.true)
    (c.read_granule-then-read_granule.ensures.first yes) (c.read_granule-then-read_granule.ensures.second yes)

pub returns-then-read_granule-clause-units : goal.returns-then-read_granule-clause-units
returns-then-read_granule-clause-units c = λ yes.
    stereo_placed c.args.frame.now.units (bits_of c.args.bytes.now) c.read_granule.new.units c.read_granule-then-read_granule.new.units c.requires.empty
    (c.read_granule.ensures.units c.if-read_granule.true) (c.read_granule-then-read_granule.ensures.units yes)

pub returns-then-read_granule-clause-refused : goal.returns-then-read_granule-clause-refused
returns-then-read_granule-clause-refused c = λ none rule.
    let parts = stereo_parts (bits_of c.args.bytes.now) rule in
    c.read_granule-then-read_granule.ensures.refused none parts.third parts.fourth

pub returns-else-read_granule-clause-refused : goal.returns-else-read_granule-clause-refused
returns-else-read_granule-clause-refused c = λ none rule.
    let parts = stereo_parts (bits_of c.args.bytes.now) rule in
    c.read_granule.ensures.refused c.if-read_granule.false parts.first parts.second
