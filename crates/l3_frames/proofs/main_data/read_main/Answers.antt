use Rattle.std.proofs.Common.{◌≡◌, ◌+◌, ◌*◌, ◌∙◌, ap, sym, length, take, Err, arith, rules}
use Rattle.std.proofs.lemmas.List.{length-take-le}
use Rattle.l3_stream.specs.Units.{lengths}
use Rattle.l3_stream.specs.Frames.{units_of}
use Rattle.l3_frames.proofs.UnitSteps.{gives_err}
use Rattle.l3_frames.proofs.MainSteps.{kept_bad_begin, kept_not_zero, kept_too_long, kept_units, kept_goes}
use Rattle.l3_stream.proofs.WholeFrame.{main_data_length-placed}
use Rattle.l3_frames.proofs.main_data.read_main.Goals as goal

pub main_start-requires : goal.main_start-requires
main_start-requires c = record {
  small = omega (
    arith,
    c.requires.kept.small,
    c.requires.kept.number,
  );
}

pub returns-in_default-clause-value : goal.returns-in_default-clause-value
returns-in_default-clause-value c =
    kept_bad_begin c.args.settings.now c.args.tape.now c.requires.kept c.args.frame.now.begin
    (units_of c.args.settings.now.channels c.args.frame.now.units) c.args.slot_bytes
    c.in_default.ensures.none

pub test_zeros-requires-clause-first : goal.test_zeros-requires-clause-first
test_zeros-requires-clause-first c =
    let t = c.args.tape.now in
    let size : length (take t.filled t.bytes) ≡ t.filled = length-take-le t.filled t.bytes
    (omega (arith, c.requires.kept.few, c.requires.kept.room)) in
    omega (arith, c.requires.kept.small, c.requires.kept.number)

pub returns-in_err-test_zeros-clause-value : goal.returns-in_err-test_zeros-clause-value
returns-in_err-test_zeros-clause-value c =
    let is : c.from_residual.result ≡ Err c.in_err-test_zeros.field-0.0 = search rules in
    let some = c.in-Some.ensures.some in
    gives_err _ _ c.from_residual.result c.in_err-test_zeros.field-0.0 is
    (kept_not_zero c.args.settings.now c.args.tape.now c.requires.kept c.args.frame.now.begin
    (units_of c.args.settings.now.channels c.args.frame.now.units) c.args.slot_bytes
    c.in-Some.start some.0 some.1 some.2 c.requires.room c.requires.slot
    c.in_err-test_zeros.field-0.0 (sym c.test_zeros.ensures ∙ c.in_err-test_zeros.was))

pub returns-then-length-from-clause-value : goal.returns-then-length-from-clause-value
returns-then-length-from-clause-value c =
    let some = c.in-Some.ensures.some in
    kept_too_long c.args.settings.now c.args.tape.now c.requires.kept c.args.frame.now.begin
    (units_of c.args.settings.now.channels c.args.frame.now.units) c.args.slot_bytes
    c.in-Some.start some.0 some.1 some.2 c.requires.room c.requires.slot
    (sym c.test_zeros.ensures ∙ c.in_ok-test_zeros.was)
    (omega (
      arith,
      c.from.ensures,
      c.main_data_length-length.ensures.value,
      main_data_length-placed c.args.settings.now.channels c.args.frame.now c.requires.shape
          c.requires.number,
    ))

pub read_units-requires-clause-first : goal.read_units-requires-clause-first
read_units-requires-clause-first c =
    let t = c.args.tape.now in
    let size : length (take (t.filled + c.args.slot_bytes) t.bytes)
    ≡ t.filled + c.args.slot_bytes = length-take-le (t.filled + c.args.slot_bytes) t.bytes
    (omega (arith, c.requires.kept.few, c.requires.kept.room, c.requires.room)) in
    omega (arith, c.requires.kept.small, c.requires.kept.number, c.requires.room)

pub read_units-requires-clause-within : goal.read_units-requires-clause-within
read_units-requires-clause-within c =
    let t = c.args.tape.now in
    let us = units_of c.args.settings.now.channels c.args.frame.now.units in
    let size : length (take (t.filled + c.args.slot_bytes) t.bytes) ≡ t.filled + c.args.slot_bytes =
    length-take-le (t.filled + c.args.slot_bytes) t.bytes
    (omega (arith, c.requires.kept.few, c.requires.kept.room, c.requires.room)) in
    let sum : c.main_data_length-length.result ≡ lengths us = c.main_data_length-length.ensures.value
    ∙ main_data_length-placed c.args.settings.now.channels c.args.frame.now c.requires.shape c.requires.number in
    let some = c.in-Some.ensures.some in
    omega (arith, size, sum, c.from.ensures, c.if-length-from.false, some.0, some.1, some.2, c.requires.kept.begun)

pub returns-in_err-next-clause-value : goal.returns-in_err-next-clause-value
returns-in_err-next-clause-value c =
    let is : c.from_residual-in_err-next.result ≡ Err c.in_err-next.field-0.0 = search rules in
    let some = c.in-Some.ensures.some in
    gives_err _ _ c.from_residual-in_err-next.result c.in_err-next.field-0.0 is
    (kept_units c.args.settings.now c.args.tape.now c.requires.kept c.args.frame.now.begin
    (units_of c.args.settings.now.channels c.args.frame.now.units) c.args.slot_bytes
    c.in-Some.start some.0 some.1 some.2 c.requires.room c.requires.slot
    (sym c.test_zeros.ensures ∙ c.in_ok-test_zeros.was) (Err c.in_err-next.field-0.0)
    (omega (
      arith,
      c.from.ensures,
      c.main_data_length-length.ensures.value,
      main_data_length-placed c.args.settings.now.channels c.args.frame.now c.requires.shape
          c.requires.number,
    )) c.in_err-next.ensures.value)

pub overflow_add-result : goal.overflow_add-result
overflow_add-result c =
    let some = c.in-Some.ensures.some in
    omega (
      arith,
      c.in_ok-next.ensures.next,
      c.from.ensures,
      c.main_data_length-length.ensures.value,
      main_data_length-placed c.args.settings.now.channels c.args.frame.now c.requires.shape
          c.requires.number,
      some.1,
      c.requires.kept.small,
      c.requires.kept.number,
      c.requires.room,
    )

pub returns-clause-value : goal.returns-clause-value
returns-clause-value c =
    let some = c.in-Some.ensures.some in
    kept_units c.args.settings.now c.args.tape.now c.requires.kept c.args.frame.now.begin
    (units_of c.args.settings.now.channels c.args.frame.now.units) c.args.slot_bytes
    c.in-Some.start some.0 some.1 some.2 c.requires.room c.requires.slot
    (sym c.test_zeros.ensures ∙ c.in_ok-test_zeros.was) _
    (omega (
      arith,
      c.from.ensures,
      c.main_data_length-length.ensures.value,
      main_data_length-placed c.args.settings.now.channels c.args.frame.now c.requires.shape
          c.requires.number,
    )) c.in_ok-next.ensures.value

pub returns-clause-end : goal.returns-clause-end
returns-clause-end c =
    let some = c.in-Some.ensures.some in
    kept_goes c.args.settings.now c.args.tape.now c.requires.kept c.args.frame.now.begin
    (units_of c.args.settings.now.channels c.args.frame.now.units) c.args.slot_bytes
    c.in-Some.start some.0 some.1 some.2 c.requires.room c.requires.slot
    _ (omega (
      arith,
      c.from.ensures,
      c.main_data_length-length.ensures.value,
      main_data_length-placed c.args.settings.now.channels c.args.frame.now c.requires.shape
          c.requires.number,
    )) (ap (λ n. 8 * c.args.tape.now.base + n) c.in_ok-next.ensures.next)
