use Rattle.std.proofs.Common.{◌≡◌, ◌+◌, ◌-◌, ◌*◌, ◌/◌, ◌≤◌, ◌++◌, take, length, arith, ap, sym, ◌∙◌, rules}
use Rattle.std.proofs.lemmas.Slice.{take-put_mid, drop-put_mid}
use Rattle.l3_huff.specs.Words.{between}
use Rattle.l3_huff.proofs.Betweens.{length-between}
use Rattle.l3_stream.specs.Units.{zero_lines}
use Rattle.l3_stream.specs.UnitReading.{quads_at}
use Rattle.l3_frames.proofs.Found.{quad_found, quad_not_found}
use Rattle.l3_frames.proofs.Loops.{quads_begin, quads_on, quads_bad, quads_full, quads_done, with_quads, zeros_left, length-put_mid}
use Rattle.l3_frames.proofs.quantised.read_quads.Goals as goal

pub loop-place-init : goal.loop-place-init
loop-place-init c =
    let room = length c.args.lines.now / 4 in
    let all : room - 0 ≡ room = omega arith in
    let bits = between c.args.bytes.now c.args.at c.args.end in
    let end = c.args.first + c.args.end in
    let size : length c.args.lines.now ≡ length c.args.lines.now - 0 = omega arith in
    record {
      order = c.requires.order;
      size = search rules;
      few = omega arith;
      read = quads_begin (quads_at c.args.table end (room - 0) bits)
          ∙ ap (λ n. quads_at c.args.table end n bits) all;
      past = c.requires.zeros ∙ ap zero_lines size;
    }

pub overflow_add-result : goal.overflow_add-result
overflow_add-result c = omega (
  arith,
  c.loop-place.invariant.order,
  c.requires.first,
  c.requires.within,
)

pub overflow_add-result-in-None : goal.overflow_add-result-in-None
overflow_add-result-in-None c = omega (
  arith,
  c.loop-place.invariant.order,
  c.requires.first,
  c.requires.within,
)

pub returns-then-lines-count-lt4-clause-value : goal.returns-then-lines-count-lt4-clause-value
returns-then-lines-count-lt4-clause-value c =
    let room = length c.args.lines.now / 4 in
    let bytes = c.args.bytes.now in
    let end = c.args.first + c.args.end in
    let size = length-between bytes c.loop-place.place c.args.end c.loop-place.invariant.order
    c.requires.within in
    quads_full c.args.table (take (4 * c.loop-place.count) c.loop-place.lines) end
    (room - c.loop-place.count) (quads_at c.args.table end room
    (between bytes c.args.at c.args.end))
    (between bytes c.loop-place.place c.args.end) (c.args.first + c.loop-place.place)
    (omega (arith, size)) (omega (
      arith,
      c.loop-place.invariant.size,
      c.loop-place.invariant.few,
    )) (omega (arith, size, c.loop-place.invariant.order))
    c.loop-place.invariant.read

pub returns-in-None-clause-value : goal.returns-in-None-clause-value
returns-in-None-clause-value c =
    let room = length c.args.lines.now / 4 in
    let bytes = c.args.bytes.now in
    let end = c.args.first + c.args.end in
    let size = length-between bytes c.loop-place.place c.args.end c.loop-place.invariant.order
    c.requires.within in
    quads_bad c.args.table (take (4 * c.loop-place.count) c.loop-place.lines) end
    (room - c.loop-place.count) (quads_at c.args.table end room
    (between bytes c.args.at c.args.end))
    (between bytes c.loop-place.place c.args.end) (c.args.first + c.loop-place.place)
    (omega (arith, size)) (omega (
      arith,
      c.loop-place.invariant.size,
      c.loop-place.invariant.few,
    )) (omega (arith, size, c.loop-place.invariant.order))
    (quad_not_found c.args.table bytes c.loop-place.place c.args.end c.loop-place.invariant.order
    c.requires.within c.in-None.ensures.none) c.loop-place.invariant.read

pub loop-place-preserved : goal.loop-place-preserved
loop-place-preserved c =
    let room = length c.args.lines.now / 4 in
    let bytes = c.args.bytes.now in
    let end = c.args.first + c.args.end in
    let count = c.loop-place.count in
    let lines = c.loop-place.lines in
    let quad = c.in-Some.found.0 in
    let next = c.in-Some.found.1 in
    let stands = c.in-Some.ensures.found in
    let four : length quad ≡ 4 = stands.values.0 in
    let written : c.copy_from_slice.new.self ≡ quad = search rules in
    let width : 4 * count + 4 - 4 * count ≡ 4 = omega arith in
    let inside : 4 * count + 4 ≤ length lines = omega (
      arith,
      c.loop-place.invariant.size,
      c.loop-place.invariant.few,
    ) in
    let size = length-between bytes c.loop-place.place c.args.end c.loop-place.invariant.order
    c.requires.within in
    let front = take-put_mid (4 * count) (4 * count + 4 - 4 * count) lines
    c.copy_from_slice.new.self (4 * (count + 1)) (omega (arith, four, ap length written))
    (omega arith) in
    let left : room - count - 1 ≡ room - (count + 1) = omega arith in
    let read = quads_on c.args.table (take (4 * count) lines) end (room - count)
    (quads_at c.args.table end room (between bytes c.args.at c.args.end))
    (between bytes c.loop-place.place c.args.end) quad (between bytes next c.args.end)
    (omega (arith, size)) (omega (
      arith,
      c.loop-place.invariant.size,
      c.loop-place.invariant.few,
    ))
    (quad_found c.args.table bytes c.loop-place.place c.args.end quad next stands)
    c.loop-place.invariant.read in
    record {
      order = stands.whole;
      size = length-put_mid (4 * count) (4 * count + 4 - 4 * count) lines c.copy_from_slice.new.self
          (omega arith) (omega (arith, four, ap length written)) ∙ c.loop-place.invariant.size;
      few = omega (arith, c.loop-place.invariant.size, c.loop-place.invariant.few);
      read = ap (λ l. with_quads l (quads_at c.args.table end (room - (count + 1))
          (between bytes next c.args.end))) (front ∙ ap (λ l. take (4 * count) lines ++ l) written)
          ∙ (ap (λ n. with_quads (take (4 * count) lines ++ quad) (quads_at c.args.table end n
          (between bytes next c.args.end))) (sym left) ∙ read);
      past = drop-put_mid (4 * count) (4 * count + 4 - 4 * count) lines c.copy_from_slice.new.self
          (4 * (count + 1)) (omega arith) (omega arith) (omega (arith, four, ap length written))
          ∙ zeros_left lines (4 * count) (4 * (count + 1)) (length c.args.lines.now) (omega arith)
          (omega (arith, c.loop-place.invariant.size)) c.loop-place.invariant.past;
    }

pub returns-clause-value : goal.returns-clause-value
returns-clause-value c =
    let room = length c.args.lines.now / 4 in
    let bytes = c.args.bytes.now in
    let end = c.args.first + c.args.end in
    let size = length-between bytes c.loop-place.place c.args.end c.loop-place.invariant.order
    c.requires.within in
    quads_done c.args.table (take (4 * c.loop-place.count) c.loop-place.lines) end
    (room - c.loop-place.count) (quads_at c.args.table end room
    (between bytes c.args.at c.args.end))
    (between bytes c.loop-place.place c.args.end) (omega (arith, size)) c.loop-place.invariant.read
