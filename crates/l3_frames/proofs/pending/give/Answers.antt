use Rattle.std.proofs.Common.{◌+◌, ◌++◌, [], List, ℕ, suc, length, take, drop, get_or, arith, sym, subst, rules}
use Rattle.std.proofs.lemmas.Result.{err_from_is_err_and}
use Rattle.l3_base.specs.Lengths.{slot_bytes_of}
use Rattle.l3_stream.specs.Tape.{joined}
use Rattle.l3_io.specs.Taken.{Takes, TakesPrefix}
use Rattle.l3_io.proofs.TakenLemmas.{Takes-then, TakesPrefix-first, TakesPrefix-second}
use Rattle.l3_frames.proofs.GivenLemmas.{slot_inside, next_place, one_given, others_given, piece_is}
use Rattle.l3_frames.proofs.pending.give.Goals as goal

pub overflow_add-next : goal.overflow_add-next
overflow_add-next g c =
    let inside = slot_inside c.args.settings.now c.args.first c.loop-k.k (length c.args.heads.now) c.loop-k.at (length c.args.tape.now) c.loop-k-test.true c.loop-k.invariant.place c.requires.slots in
    omega (arith, inside, c.slot_bytes.ensures.value, c.requires.room)

pub slice_bounds-give_frame-end : goal.slice_bounds-give_frame-end
slice_bounds-give_frame-end g c =
    let inside = slot_inside c.args.settings.now c.args.first c.loop-k.k (length c.args.heads.now) c.loop-k.at (length c.args.tape.now) c.loop-k-test.true c.loop-k.invariant.place c.requires.slots in
    omega (arith, inside, c.slot_bytes.ensures.value)

pub returns-in_err-give_frame-clause-bytes : goal.returns-in_err-give_frame-clause-bytes
returns-in_err-give_frame-clause-bytes g c =
    let taken = g.K.Sink.taken in
    let st = c.args.settings.now in
    let first = c.args.first in
    let k = c.loop-k.k in
    let at = c.loop-k.at in
    let heads = c.args.heads.now in
    let tape = c.args.tape.now in
    let piece = piece_is st first k at c.slot_bytes.result heads tape c.bytes.result.now c.index-heads-k.result c.loop-k-test.true c.bytes.ensures c.index-heads-k.is c.slot_bytes.ensures.value in
    let frame : List ℕ = get_or heads k [] ++ take (slot_bytes_of st (first + k)) (drop at tape) in
    let rest = joined st (suc (first + k)) (drop (suc k) heads) (drop (slot_bytes_of st (first + k)) (drop at tape)) in
    let front : TakesPrefix (taken c.loop-k.sink) (taken c.give_frame.new.sink) frame = subst (λ (l : List ℕ). TakesPrefix (taken c.loop-k.sink) (taken c.give_frame.new.sink) l) piece c.in_err-give_frame.ensures.bytes in
    let p = err_from_is_err_and c.from_residual.result c.from_residual.ensures.1 in
    rw p.1 (subst (λ (l : List ℕ). TakesPrefix (taken c.args.sink.now) (taken c.give_frame.new.sink) l) (sym (others_given st first k at heads tape c.loop-k-test.true c.loop-k.invariant.place))
    (TakesPrefix-second (taken c.args.sink.now) (taken c.loop-k.sink) (taken c.give_frame.new.sink) (joined st first (take k heads) tape) (frame ++ rest) c.loop-k.invariant.taken
    (TakesPrefix-first (taken c.loop-k.sink) (taken c.give_frame.new.sink) frame rest front)))

pub loop-k-preserved : goal.loop-k-preserved
loop-k-preserved g c =
    let taken = g.K.Sink.taken in
    let st = c.args.settings.now in
    let first = c.args.first in
    let k = c.loop-k.k in
    let at = c.loop-k.at in
    let heads = c.args.heads.now in
    let tape = c.args.tape.now in
    let piece = piece_is st first k at c.slot_bytes.result heads tape c.bytes.result.now c.index-heads-k.result c.loop-k-test.true c.bytes.ensures c.index-heads-k.is c.slot_bytes.ensures.value in
    let frame : List ℕ = get_or heads k [] ++ take (slot_bytes_of st (first + k)) (drop at tape) in
    let all : Takes (taken c.loop-k.sink) (taken c.give_frame.new.sink) frame = subst (λ (l : List ℕ). Takes (taken c.loop-k.sink) (taken c.give_frame.new.sink) l) piece c.in_ok-give_frame.ensures.bytes in
    record {
      place = omega (arith, next_place st first k at c.loop-k.invariant.place, c.slot_bytes.ensures.value);
      taken = subst (λ (l : List ℕ). Takes (taken c.args.sink.now) (taken c.give_frame.new.sink) l) (sym (one_given st first k at heads tape c.loop-k-test.true c.loop-k.invariant.place))
          (Takes-then (taken c.args.sink.now) (taken c.loop-k.sink) (taken c.give_frame.new.sink) (joined st first (take k heads) tape) frame c.loop-k.invariant.taken all);
      steady = search rules;
    }
