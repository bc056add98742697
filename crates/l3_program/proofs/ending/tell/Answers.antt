use Rattle.std.proofs.Common.{rules, ◌≡◌}
use Rattle.l3_io.proofs.TakenLemmas.{Writes-prefix}
use Rattle.l3_program.proofs.StatusLemmas.{whole_if_steady}
use Rattle.l3_program.specs.Status.{text_of}
use Rattle.l3_program.proofs.ending.tell.Goals as goal

pub returns-clause-told : goal.returns-clause-told
returns-clause-told g c =
    let taken = g.N.Sink.taken in
    let faults = g.N.Sink.faults in
    let old = c.args.notes.now in
    let new = c.write_all.new.sink in
    let text : c.as_bytes.result.now ≡ text_of c.args.ending = search rules in
    record {
      front = rw text at (Writes-prefix (taken old) (taken new) c.write_all.result c.as_bytes.result.now c.write_all.ensures.bytes);
      whole = λ steady. rw text at (whole_if_steady (taken old) (taken new) (faults old) (faults new) c.write_all.result c.as_bytes.result.now steady
          c.write_all.ensures.bytes c.write_all.ensures.cause.failed);
    }
