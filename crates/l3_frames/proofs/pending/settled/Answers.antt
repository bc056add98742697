use Rattle.std.proofs.Common.{◌+◌, arith}
use Rattle.l3_stream.proofs.Tape.{slots-suc}
use Rattle.l3_frames.proofs.GivenLemmas.{next_place}
use Rattle.l3_frames.proofs.pending.settled.Goals as goal

pub returns-then-next-from : goal.returns-then-next-from
returns-then-next-from c =
    let st = c.args.settings.now in
    let place = c.loop-k.invariant.place in
    let far = c.loop-k.invariant.far in
    let next = slots-suc st (c.args.first + c.loop-k.k) in
    record {
      some = omega arith;
      place = place;
      far = far;
      most = λ lt. omega (arith, place, next, c.slot_bytes.ensures.value, c.from.ensures, c.if-next-from.true, c.requires.slots);
    }

pub loop-k-preserved : goal.loop-k-preserved
loop-k-preserved c =
    let st = c.args.settings.now in
    let place = c.loop-k.invariant.place in
    let next = next_place st c.args.first c.loop-k.k c.loop-k.bytes place in
    record {
      place = omega (arith, next, c.slot_bytes.ensures.value);
      far = omega (arith, next, c.slot_bytes.ensures.value, c.from.ensures, c.if-next-from.false, c.requires.slots);
    }
