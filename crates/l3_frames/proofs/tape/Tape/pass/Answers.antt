use Rattle.std.proofs.Common.{◌+◌, ◌-◌, ◌/◌, take, ap, ◌∙◌, arith}
use Rattle.l3_frames.proofs.Moved.{moved}
use Rattle.l3_frames.proofs.tape.Tape.pass.Goals as goal

pub returns-clause-kept : goal.returns-clause-kept
returns-clause-kept c =
    let t = c.args.self.now in
    let gone = c.args.end / 8 - t.base in
    let whole = t.filled + c.args.slot_bytes in
    ap (take (whole - gone)) c.copy_within.ensures.after ∙ moved t.bytes gone whole
    (omega (arith, c.requires.within, c.requires.begun))
    (omega (arith, c.requires.room, c.requires.bytes))
