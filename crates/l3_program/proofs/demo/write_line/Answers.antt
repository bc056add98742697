use Rattle.std.proofs.Common.{rules, ◌≡◌, [], ◌∷◌, ◌++◌, append_assoc, codes, decimal, subst, sym}
use Rattle.hex.specs.Hex.{encode_lower}
use Rattle.l3_io.proofs.TakenLemmas.{TakesPrefix-first, Writes-then}
use Rattle.l3_io.specs.Taken.{TakesPrefix, Writes}
use Rattle.l3_program.proofs.demo.write_line.Goals as goal

pub returns-in-Ok-clause-bytes : goal.returns-in-Ok-clause-bytes
returns-in-Ok-clause-bytes g c =
    let old = g.K.Sink.taken c.args.sink.now in
    let mid = g.K.Sink.taken c.write_all.new.sink in
    let new = g.K.Sink.taken c.write_rest.new.sink in
    let s = c.args.summary.now in
    let front = codes "frames " ++ decimal s.frames ++ codes " bytes " ++ decimal s.bytes ++ codes " sha256 " in
    let hex = encode_lower s.digest in
    let text : c.as_bytes.result.now ≡ front = search rules in
    subst (λ line. Writes old new c.write_rest.result line) (sym (append_assoc front hex (10 ∷ [])))
    (Writes-then old mid new c.write_rest.result front (hex ++ 10 ∷ []) (rw text at c.in-Ok.ensures.bytes) c.write_rest.ensures.bytes)

pub returns-in-Err-clause-bytes : goal.returns-in-Err-clause-bytes
returns-in-Err-clause-bytes g c =
    let old = g.K.Sink.taken c.args.sink.now in
    let new = g.K.Sink.taken c.write_all.new.sink in
    let s = c.args.summary.now in
    let front = codes "frames " ++ decimal s.frames ++ codes " bytes " ++ decimal s.bytes ++ codes " sha256 " in
    let hex = encode_lower s.digest in
    let text : c.as_bytes.result.now ≡ front = search rules in
    subst (λ line. TakesPrefix old new line) (sym (append_assoc front hex (10 ∷ [])))
    (TakesPrefix-first old new front (hex ++ 10 ∷ []) (rw text at c.in-Err.ensures.bytes))
