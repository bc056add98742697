use Rattle.std.proofs.Common.{◌≡◌, length, rules}
use Rattle.l3_stream.proofs.Shapes.{coded_frame, frame_coded}
use Rattle.l3_stream.proofs.coded.is_coded.Goals as goal

pub returns-then-is_coded_granule-clause-coded : goal.returns-then-is_coded_granule-clause-coded
returns-then-is_coded_granule-clause-coded c = λ yes_second.
    let two : length c.args.frame.now.units ≡ 2 = search rules in
    coded_frame c.args.settings.now c.args.frame.now two (c.is_coded_granule.ensures.coded c.if-is_coded_granule.true) (c.is_coded_granule-then-is_coded_granule.ensures.coded yes_second)

pub returns-then-is_coded_granule-clause-refused : goal.returns-then-is_coded_granule-clause-refused
returns-then-is_coded_granule-clause-refused c = λ no_second is.
    let two : length c.args.frame.now.units ≡ 2 = search rules in
    c.is_coded_granule-then-is_coded_granule.ensures.refused no_second (frame_coded c.args.settings.now c.args.frame.now two is).second

pub returns-else-is_coded_granule-clause-refused : goal.returns-else-is_coded_granule-clause-refused
returns-else-is_coded_granule-clause-refused c = λ no_first is.
    let two : length c.args.frame.now.units ≡ 2 = search rules in
    c.is_coded_granule.ensures.refused no_first (frame_coded c.args.settings.now c.args.frame.now two is).first
