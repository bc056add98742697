use Rattle.std.proofs.Common.{◌≡◌, ◌-◌, ◌++◌, ◌<◌, ◌≤◌, ℕ, List, subst, length, take, true, false, Err, sym, ap, ◌∙◌, arith, rules}
use Rattle.std.proofs.lemmas.List.{length-replicate, length-take, take_at, length-append}
use Rattle.std.specs.Prelude.{IfSome}
use Rattle.l3_base.specs.declared.settings.Settings.{Settings}
use Rattle.l3_base.specs.Lengths.{frame_bytes_of}
use Rattle.l3_stream.specs.declared.fault.StreamFault.TheVariants as faults
use Rattle.l3_bits.specs.Bits.{bits_of}
use Rattle.l3_stream.specs.Fields.{same}
use Rattle.l3_stream.specs.Header.{header_at}
use Rattle.l3_frames.specs.InTurn.{frame_at}
use Rattle.l3_frames.specs.Steps.{KeepsTape, tape_place}
use Rattle.l3_frames.specs.InTurn.{LeavesBehind}
use Rattle.l3_frames.proofs.Own.{within_not_memory, within_not_read}
use Rattle.l3_frames.proofs.LeftSteps.{told_leaves_header, told_leaves_some, told_leaves_nothing, told_leaves_whole}
use Rattle.l3_frames.proofs.FrameSteps.{small-number}
use Rattle.l3_frames.proofs.WholeSteps.{refused, at_refused, other_fault, told_bad_header, told_short, told_whole, told_rest, buffer_whole, buffer_room, refused_by, told_fault_of}
use Rattle.l3_frames.proofs.frames.read_whole.Goals as goal

pub returns-then-not-is_header-clause-fault : goal.returns-then-not-is_header-clause-fault
returns-then-not-is_header-clause-fault g c =
    let four : length c.args.header.now ≡ 4 = search rules in
    let other : c.is_header.result ≡ false = search rules in
    told_bad_header c.args.settings.now (tape_place c.args.tape.now) c.args.header.now four
    (g.S.Source.left c.args.source.now) (sym c.is_header.ensures ∙ other)

pub returns-then-count-size-clause-fault : goal.returns-then-count-size-clause-fault
returns-then-count-size-clause-fault g c =
    let four : length c.args.header.now ≡ 4 = search rules in
    let is : c.is_header.result ≡ true = search rules in
    let size = c.frame_bytes-size.result in
    let room : length c.read_front.new.buf ≡ size - 4 = search rules in
    told_short c.args.settings.now (tape_place c.args.tape.now) c.args.header.now four
    (g.S.Source.left c.args.source.now) (g.S.Source.left c.read_front.new.source)
    c.in_ok-count.count c.read_front.new.buf size
    c.frame_bytes-size.ensures.value room c.in_ok-count.ensures.bound (sym c.is_header.ensures
    ∙ is) c.if-count-size.true c.in_ok-count.ensures.content

pub slice_bounds-bytes-end-3 : goal.slice_bounds-bytes-end-3
slice_bounds-bytes-end-3 g c =
    let size = c.frame_bytes-size.result in
    let room : length c.read_front.new.buf ≡ size - 4 = search rules in
    let four : length c.args.header.now ≡ 4 = search rules in
    let zeros : length c.no_bytes-bytes.result ≡ 1441 = ap length c.no_bytes-bytes.ensures
    ∙ length-replicate {A = ℕ} 1441 0 in
    buffer_room c.no_bytes-bytes.result c.copy_from_slice.new.self c.args.header.now
    c.read_front.new.buf size zeros (omega (arith, c.frame_bytes-size.ensures.range))
    (omega (arith, c.frame_bytes-size.ensures.range)) c.copy_from_slice.ensures.after four room

pub slice_bounds-read_frame-end : goal.slice_bounds-read_frame-end
slice_bounds-read_frame-end g c =
    let size = c.frame_bytes-size.result in
    let room : length c.read_front.new.buf ≡ size - 4 = search rules in
    let four : length c.args.header.now ≡ 4 = search rules in
    omega (
      arith,
      ap length (buffer_whole c.no_bytes-bytes.result c.copy_from_slice.new.self
          c.args.header.now c.read_front.new.buf c.frame_bytes-size.result
          (omega (arith, c.frame_bytes-size.ensures.range)) c.copy_from_slice.ensures.after four
          room),
      length-append c.args.header.now c.read_front.new.buf,
      c.frame_bytes-size.ensures.range,
    )

pub read_frame-requires-clause-size : goal.read_frame-requires-clause-size
read_frame-requires-clause-size g c =
    let size = c.frame_bytes-size.result in
    let room : length c.read_front.new.buf ≡ size - 4 = search rules in
    let four : length c.args.header.now ≡ 4 = search rules in
    omega (
      arith,
      ap length (buffer_whole c.no_bytes-bytes.result c.copy_from_slice.new.self
          c.args.header.now c.read_front.new.buf c.frame_bytes-size.result
          (omega (arith, c.frame_bytes-size.ensures.range)) c.copy_from_slice.ensures.after four
          room),
      length-append c.args.header.now c.read_front.new.buf,
      c.frame_bytes-size.ensures.range,
      c.frame_bytes-size.ensures.value,
    )

pub read_frame-requires-clause-header : goal.read_frame-requires-clause-header
read_frame-requires-clause-header g c =
    let room : length c.read_front.new.buf ≡ c.frame_bytes-size.result - 4 = search rules in
    let four : length c.args.header.now ≡ 4 = search rules in
    let is : c.is_header.result ≡ true = search rules in
    ap (λ l. same (bits_of l) (header_at c.args.settings.now c.args.tape.now.number))
    (ap (take 4) (buffer_whole c.no_bytes-bytes.result c.copy_from_slice.new.self
    c.args.header.now c.read_front.new.buf c.frame_bytes-size.result
    (omega (arith, c.frame_bytes-size.ensures.range)) c.copy_from_slice.ensures.after four room)
    ∙ take_at c.args.header.now c.read_front.new.buf 4 four) ∙ (sym c.is_header.ensures ∙ is)

pub returns-in_err-frame-clause-fault : goal.returns-in_err-frame-clause-fault
returns-in_err-frame-clause-fault g c =
    let st = c.args.settings.now in
    let p = tape_place c.args.tape.now in
    let is : c.from_residual-in_err-frame.result ≡ Err c.in_err-frame.field-0.0 = search rules in
    let size = c.frame_bytes-size.result in
    let room : length c.read_front.new.buf ≡ size - 4 = search rules in
    let four : length c.args.header.now ≡ 4 = search rules in
    refused_by c.from_residual-in_err-frame.result c.in_err-frame.field-0.0
    (g.S.Source.left c.args.source.now) (λ left. frame_at st p (c.args.header.now ++ left)) is
    (told_fault_of c.in_err-frame.field-0.0 (g.S.Source.left c.args.source.now)
    (λ left. frame_at st p (c.args.header.now ++ left))
    (told_whole st p c.args.header.now four (g.S.Source.left c.args.source.now)
    (g.S.Source.left c.read_front.new.source) c.in_ok-count.count c.read_front.new.buf size
    c.frame_bytes-size.ensures.value room c.in_ok-count.ensures.bound
    (Err c.in_err-frame.field-0.0) c.if-count-size.false
    (omega (arith, c.frame_bytes-size.ensures.range))
    (ap (frame_at st p) (sym (buffer_whole c.no_bytes-bytes.result c.copy_from_slice.new.self
    c.args.header.now c.read_front.new.buf c.frame_bytes-size.result
    (omega (arith, c.frame_bytes-size.ensures.range)) c.copy_from_slice.ensures.after four
    room)) ∙ c.in_err-frame.ensures.value) c.in_ok-count.ensures.content))

pub returns-clause-content : goal.returns-clause-content
returns-clause-content g c =
    let st = c.args.settings.now in
    let p = tape_place c.args.tape.now in
    let size = c.frame_bytes-size.result in
    let room : length c.read_front.new.buf ≡ size - 4 = search rules in
    let four : length c.args.header.now ≡ 4 = search rules in
    told_whole st p c.args.header.now four (g.S.Source.left c.args.source.now)
    (g.S.Source.left c.read_front.new.source) c.in_ok-count.count c.read_front.new.buf size
    c.frame_bytes-size.ensures.value room c.in_ok-count.ensures.bound
    _ c.if-count-size.false (omega (arith, c.frame_bytes-size.ensures.range))
    (ap (frame_at st p) (sym (buffer_whole c.no_bytes-bytes.result c.copy_from_slice.new.self
    c.args.header.now c.read_front.new.buf c.frame_bytes-size.result
    (omega (arith, c.frame_bytes-size.ensures.range)) c.copy_from_slice.ensures.after four
    room)) ∙ c.in_ok-frame.ensures.value) c.in_ok-count.ensures.content

pub returns-clause-rest : goal.returns-clause-rest
returns-clause-rest g c =
    let st = c.args.settings.now in
    let p = tape_place c.args.tape.now in
    let size = c.frame_bytes-size.result in
    let room : length c.read_front.new.buf ≡ size - 4 = search rules in
    let four : length c.args.header.now ≡ 4 = search rules in
    told_rest st p c.args.header.now four (g.S.Source.left c.args.source.now)
    (g.S.Source.left c.read_front.new.source) c.in_ok-count.count c.read_front.new.buf size
    c.frame_bytes-size.ensures.value room c.in_ok-count.ensures.bound
    c.if-count-size.false (omega (arith, c.frame_bytes-size.ensures.range))
    c.in_ok-count.ensures.content

-- ---- what is left

pub returns-then-not-is_header-clause-gone : goal.returns-then-not-is_header-clause-gone
returns-then-not-is_header-clause-gone g c =
    let four : length c.args.header.now ≡ 4 = search rules in
    told_leaves_header c.args.header.now four c.args.tape.now.at
    (frame_bytes_of c.args.settings.now c.args.tape.now.number)
    (g.S.Source.left c.args.source.now)

pub returns-in_err-count-clause-gone : goal.returns-in_err-count-clause-gone
returns-in_err-count-clause-gone g c =
    let left = g.S.Source.left in
    let four : length c.args.header.now ≡ 4 = search rules in
    let size = frame_bytes_of c.args.settings.now c.args.tape.now.number in
    let fault = c.in_err-count.field-0.0 in
    let is : c.from_residual.result ≡ Err fault = search rules in
    let room : length c.read_front.new.buf ≡ c.frame_bytes-size.result - 4 = search rules in
    let gone = c.in_err-count.ensures.gone in
    let few : length gone.0 < size - 4 = omega (
      arith,
      gone.1,
      room,
      c.frame_bytes-size.ensures.value,
    ) in
    let some = told_leaves_some c.args.header.now four size (left c.args.source.now)
    (left c.read_front.new.source) gone.0 few gone.2 in
    refused c.from_residual.result fault (λ d. IfSome (left c.args.source.now)
    (λ l. LeavesBehind d size (c.args.header.now ++ l) (left c.read_front.new.source))) is
    (subst (λ d. IfSome (left c.args.source.now) (λ l. LeavesBehind d size (c.args.header.now ++ l)
    (left c.read_front.new.source))) (sym c.in_err-count.ensures.own) some)

pub returns-then-count-size-clause-gone : goal.returns-then-count-size-clause-gone
returns-then-count-size-clause-gone g c =
    let left = g.S.Source.left in
    let four : length c.args.header.now ≡ 4 = search rules in
    let size = frame_bytes_of c.args.settings.now c.args.tape.now.number in
    let room : length c.read_front.new.buf ≡ c.frame_bytes-size.result - 4 = search rules in
    told_leaves_nothing c.args.header.now four c.args.tape.now.at size c.in_ok-count.count
    (left c.args.source.now) (left c.read_front.new.source) c.read_front.new.buf
    (omega (arith, c.if-count-size.true, c.frame_bytes-size.ensures.value))
    (omega (arith, room, c.frame_bytes-size.ensures.value)) c.in_ok-count.ensures.content

pub returns-in_err-frame-clause-gone : goal.returns-in_err-frame-clause-gone
returns-in_err-frame-clause-gone g c =
    let left = g.S.Source.left in
    let st = c.args.settings.now in
    let p = tape_place c.args.tape.now in
    let size = c.frame_bytes-size.result in
    let fault = c.in_err-frame.field-0.0 in
    let four : length c.args.header.now ≡ 4 = search rules in
    let room : length c.read_front.new.buf ≡ size - 4 = search rules in
    let is : c.from_residual-in_err-frame.result ≡ Err fault = search rules in
    let rest = told_rest st p c.args.header.now four (left c.args.source.now)
    (left c.read_front.new.source) c.in_ok-count.count c.read_front.new.buf size
    c.frame_bytes-size.ensures.value room c.in_ok-count.ensures.bound
    c.if-count-size.false (omega (arith, c.frame_bytes-size.ensures.range))
    c.in_ok-count.ensures.content in
    refused c.from_residual-in_err-frame.result fault (λ d. IfSome (left c.args.source.now)
    (λ l. LeavesBehind d (frame_bytes_of st p.number) (c.args.header.now ++ l)
    (left c.read_front.new.source))) is
    (told_leaves_whole fault (frame_bytes_of st p.number) c.args.header.now (left c.args.source.now)
    (left c.read_front.new.source) c.in_err-frame.ensures.own rest)

pub returns-in_err-frame-clause-memory : goal.returns-in_err-frame-clause-memory
returns-in_err-frame-clause-memory g c =
    let fault = c.in_err-frame.field-0.0 in
    let is : c.from_residual-in_err-frame.result ≡ Err fault = search rules in
    other_fault c.from_residual-in_err-frame.result fault faults.Memory is
    (within_not_memory fault c.in_err-frame.ensures.own)

pub returns-in_err-frame-clause-read : goal.returns-in_err-frame-clause-read
returns-in_err-frame-clause-read g c =
    let fault = c.in_err-frame.field-0.0 in
    let is : c.from_residual-in_err-frame.result ≡ Err fault = search rules in
    λ e. absurd (other_fault c.from_residual-in_err-frame.result fault faults.Read is
    (within_not_read fault c.in_err-frame.ensures.own) e)

pub returns-then-not-is_header-clause-still : goal.returns-then-not-is_header-clause-still
returns-then-not-is_header-clause-still g c = λ st kept. kept

pub returns-then-count-size-clause-still : goal.returns-then-count-size-clause-still
returns-then-count-size-clause-still g c = λ st kept. kept

pub returns-in_err-count-clause-still : goal.returns-in_err-count-clause-still
returns-in_err-count-clause-still g c = at_refused c.from_residual.result ((st : Settings)
    → KeepsTape st c.args.tape.now → KeepsTape st c.args.tape.now) (λ st kept. kept)

pub returns-in_err-frame-clause-still : goal.returns-in_err-frame-clause-still
returns-in_err-frame-clause-still g c = at_refused c.from_residual-in_err-frame.result
    ((st : Settings) → KeepsTape st c.args.tape.now → KeepsTape st c.read_frame.new.tape)
    c.in_err-frame.ensures.still

-- what the calls ask, by a frame's length
front-fits : (size : ℕ) → 96 ≤ size → 4 ≤ size
front-fits size long = omega arith

pub is_header-requires : goal.is_header-requires
is_header-requires g c = small-number c.args.tape.now.number c.requires.number

pub frame_bytes-size-requires : goal.frame_bytes-size-requires
frame_bytes-size-requires g c = small-number c.args.tape.now.number c.requires.number

pub overflow_sub-size : goal.overflow_sub-size
overflow_sub-size g c = front-fits c.frame_bytes-size.result c.frame_bytes-size.ensures.range.0

pub slice_bounds-read_front-count : goal.slice_bounds-read_front-count
slice_bounds-read_front-count g c = front-fits c.frame_bytes-size.result
    c.frame_bytes-size.ensures.range.0

pub read_frame-requires-clause-kept : goal.read_frame-requires-clause-kept
read_frame-requires-clause-kept g c = c.requires.kept

pub read_frame-requires-clause-number : goal.read_frame-requires-clause-number
read_frame-requires-clause-number g c = c.requires.number

taken-few : (k most : ℕ) (xs : List ℕ) → k ≤ most → length (take k xs) ≤ most
taken-few k most xs few = omega (arith, length-take k xs)

pub read_frame-requires-clause-longest : goal.read_frame-requires-clause-longest
read_frame-requires-clause-longest g c = taken-few c.frame_bytes-size.result 1441 _
    c.frame_bytes-size.ensures.range.1

pub copy_from_slice-requires : goal.copy_from_slice-requires
copy_from_slice-requires g c =
    let four : length c.args.header.now ≡ 4 = search rules in
    ap (λ (xs : List ℕ). length (take 4 xs)) c.no_bytes-bytes.ensures ∙ sym four
