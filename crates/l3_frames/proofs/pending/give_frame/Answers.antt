use Rattle.std.proofs.lemmas.Result.{err_from_is_err_and}
use Rattle.l3_io.proofs.TakenLemmas.{TakesPrefix-first, Writes-then}
use Rattle.l3_frames.proofs.pending.give_frame.Goals as goal

pub returns-in_err-write_all-clause-bytes : goal.returns-in_err-write_all-clause-bytes
returns-in_err-write_all-clause-bytes g c =
    let taken = g.K.Sink.taken in
    let p = err_from_is_err_and c.from_residual.result c.from_residual.ensures.1 in
    rw p.1 (TakesPrefix-first (taken c.args.sink.now) (taken c.write_all.new.sink) c.args.head.now c.args.slot.now c.in_err-write_all.ensures.bytes)

pub returns-clause-bytes : goal.returns-clause-bytes
returns-clause-bytes g c =
    let taken = g.K.Sink.taken in
    Writes-then (taken c.args.sink.now) (taken c.write_all.new.sink) (taken c.write_all-2.new.sink) c.write_all-2.result c.args.head.now c.args.slot.now
    c.in_ok-write_all.ensures.bytes c.write_all-2.ensures.bytes
