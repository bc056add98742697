use Rattle.std.proofs.Common.{◌≡◌, length, rules}
use Rattle.l3_frames.proofs.Heads.{header_told}
use Rattle.l3_frames.proofs.frame.is_header.Goals as goal

pub returns : goal.returns
returns c =
    let four : length c.args.header.now ≡ 4 = search rules in
    header_told c.args.header.now c.write_header-wanted.result c.take_bits.result
    c.take_bits-2.result c.args.settings.now c.args.number four c.write_header-wanted.ensures
    c.take_bits.ensures.value c.take_bits-2.ensures.value
