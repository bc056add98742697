use Rattle.std.proofs.Common.{[], ◌∷◌}
use Rattle.hex.specs.Hex.{encode_lower}
use Rattle.l3_io.proofs.TakenLemmas.{TakesPrefix-first, Writes-then}
use Rattle.l3_program.proofs.demo.write_rest.Goals as goal

pub returns-in-Ok-clause-bytes : goal.returns-in-Ok-clause-bytes
returns-in-Ok-clause-bytes g c =
    let taken = g.K.Sink.taken in
    Writes-then (taken c.args.sink.now) (taken c.write_all.new.sink) (taken c.write_all-in-Ok.new.sink) c.write_all-in-Ok.result (encode_lower c.args.digest) (10 ∷ [])
    (rw c.digits.ensures at c.in-Ok.ensures.bytes) c.write_all-in-Ok.ensures.bytes

pub returns-in-Err-clause-bytes : goal.returns-in-Err-clause-bytes
returns-in-Err-clause-bytes g c =
    let taken = g.K.Sink.taken in
    TakesPrefix-first (taken c.args.sink.now) (taken c.write_all.new.sink) (encode_lower c.args.digest) (10 ∷ []) (rw c.digits.ensures at c.in-Err.ensures.bytes)
