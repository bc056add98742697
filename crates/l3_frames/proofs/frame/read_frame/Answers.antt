use Rattle.std.proofs.Common.{◌≡◌, ◌+◌, ◌-◌, ◌*◌, ◌<◌, ◌≤◌, ◌^◌, ℕ, List, length, take, drop, Result, Err, Ok, Some, sym, ap, subst, ◌∙◌, refl, arith, rules}
use Rattle.std.specs.Prelude.{All}
use Rattle.std.proofs.lemmas.List.{length-take-le, length-drop}
use Rattle.std.proofs.lemmas.List.Elements.{All-from_get_or}
use Rattle.l3_base.specs.declared.settings.Settings.{Settings}
use Rattle.l3_base.specs.declared.rate.Channels.{Channels}
use Rattle.l3_base.specs.declared.rate.Channels.TheVariants.{Mono, Stereo}
use Rattle.l3_base.specs.Rates.{head_bytes_of}
use Rattle.l3_base.specs.Lengths.{slot_bytes_of, frame_bytes_of}
use Rattle.l3_stream.specs.Side.{side_bytes}
use Rattle.l3_stream.specs.declared.fault.StreamFault.{StreamFault}
use Rattle.l3_stream.specs.declared.unit.Unit.{Unit}
use Rattle.l3_stream.specs.declared.unit.ChosenFrame.{ChosenFrame}
use Rattle.l3_stream.specs.Frames.{units_of, placed, IsCoded}
use Rattle.l3_stream.specs.Deviation.{Place, main_at, slot_at, next_place}
use Rattle.l3_frames.specs.InTurn.{frame_at}
use Rattle.l3_frames.specs.Steps.{tape_place, slot_behind}
use Rattle.l3_frames.proofs.UnitSteps.{gives_err}
use Rattle.l3_frames.proofs.FrameSteps.{frame_bad_side, frame_bad_main, frame_read, frame_coded, slot_part, side_part, appended_place, appended_kept, appended_slot, kept_place, passed_place, passed_kept, end_within, frame_made, small-number}
use Rattle.l3_frames.specs.Steps.{KeepsTape, IsWithin}
use Rattle.l3_frames.proofs.Own.{own_main, own_fault}
use Rattle.l3_frames.proofs.WholeSteps.{refused, at_refused}
use Rattle.l3_frames.proofs.frame.read_frame.Goals as goal
use Rattle.l3_frames.proofs.frame.read_frame.Goals.{After-from_residual}

abbrev both_of : ChosenFrame → Place → Result (ChosenFrame × Place) StreamFault
both_of g q = Ok (g, q)

pub returns-in_default-clause-value : goal.returns-in_default-clause-value
returns-in_default-clause-value c =
    let st = c.args.settings.now in
    let p = tape_place c.args.tape.now in
    let bytes = c.args.bytes.now in
    let slot = c.slot_bytes-slot_bytes.result in
    frame_bad_side st p bytes c.requires.size c.requires.header
    (side_part st p bytes c.requires.size c.requires.header slot (length bytes - slot) _
    c.slot_bytes-slot_bytes.ensures.value refl c.in_default.ensures.value)

said_so : (c : After-from_residual) → frame_at c.args.settings.now (tape_place c.args.tape.now)
    c.args.bytes.now ≡ Err c.in_err-end.field-0.0
said_so c =
    let st = c.args.settings.now in
    let old = c.args.tape.now in
    let t = c.append.new.self in
    let p = tape_place old in
    let bytes = c.args.bytes.now in
    let slot = c.slot_bytes-slot_bytes.result in
    let head = length bytes - slot in
    let side : ℕ × List Unit = (c.in-Some.side.begin, units_of st.channels c.in-Some.side.units) in
    let read = side_part st p bytes c.requires.size c.requires.header slot head
    (Some side) c.slot_bytes-slot_bytes.ensures.value refl c.in-Some.ensures.value in
    let part = take (length bytes - head) (drop head bytes) in
    let wide : length part ≡ slot = length-take-le (length bytes - head) (drop head bytes)
    (omega (arith, length-drop head bytes))
    ∙ omega (arith, c.slot_bytes-slot_bytes.ensures.range, c.requires.size) in
    let slot_is = appended_slot old t slot part c.append.ensures.same wide c.append.ensures.slot in
    let own = slot_part st p bytes c.requires.size c.requires.header slot head
    c.slot_bytes-slot_bytes.ensures.value refl in
    let main : main_at st p side (slot_at st p.number bytes) ≡ Err c.in_err-end.field-0.0 =
    ap (λ q. main_at st q side (slot_at st p.number bytes))
    (sym (appended_place old t c.append.ensures.same c.append.ensures.front))
    ∙ (ap (main_at st (tape_place t) side) (own ∙ sym slot_is) ∙ c.in_err-end.ensures.value) in
    frame_bad_main st p bytes c.requires.size c.requires.header side c.in_err-end.field-0.0 read
    main

pub returns-in_err-end-clause-value : goal.returns-in_err-end-clause-value
returns-in_err-end-clause-value c =
    let is : c.from_residual.result ≡ Err c.in_err-end.field-0.0 = search rules in
    gives_err _ _ c.from_residual.result c.in_err-end.field-0.0 is (said_so c)

pub returns-in_err-end-clause-own : goal.returns-in_err-end-clause-own
returns-in_err-end-clause-own c =
    let is : c.from_residual.result ≡ Err c.in_err-end.field-0.0 = search rules in
    let st = c.args.settings.now in
    let t = c.append.new.self in
    let f = c.in-Some.side in
    refused c.from_residual.result c.in_err-end.field-0.0 IsWithin is
    (own_fault _ c.in_err-end.field-0.0 (own_main st (tape_place t) (
      f.begin,
      units_of st.channels f.units,
    ) (slot_behind t c.slot_bytes-slot_bytes.result))
    c.in_err-end.ensures.value)

pub returns-in_err-end-clause-still : goal.returns-in_err-end-clause-still
returns-in_err-end-clause-still c =
    let old = c.args.tape.now in
    let t = c.append.new.self in
    at_refused c.from_residual.result ((st : Settings) → KeepsTape st old → KeepsTape st t)
    (λ st kept. appended_kept st old t kept c.append.ensures.same c.append.ensures.bytes)

pub returns-in_default-clause-still : goal.returns-in_default-clause-still
returns-in_default-clause-still c = λ st kept. kept

pub returns-in_err-end-clause-same : goal.returns-in_err-end-clause-same
returns-in_err-end-clause-same c = at_refused c.from_residual.result (tape_place c.append.new.self
    ≡ tape_place c.args.tape.now) (appended_place c.args.tape.now c.append.new.self
    c.append.ensures.same c.append.ensures.front)

pub pass-requires-clause-within : goal.pass-requires-clause-within
pass-requires-clause-within c =
    let st = c.args.settings.now in
    let old = c.args.tape.now in
    let t = c.append.new.self in
    let slot = c.slot_bytes-slot_bytes.result in
    let number : old.number ≡ t.number = ap (λ v. v.number) (sym c.append.ensures.same) in
    end_within st t c.in-Some.side.begin _ slot c.in_ok-end.end
    (appended_kept st old t c.requires.kept c.append.ensures.same c.append.ensures.bytes)
    (c.slot_bytes-slot_bytes.ensures.value ∙ ap (slot_bytes_of st) number)
    c.in_ok-end.ensures.end

pub returns-clause-value : goal.returns-clause-value
returns-clause-value c =
    let st = c.args.settings.now in
    let old = c.args.tape.now in
    let t = c.append.new.self in
    let p = tape_place old in
    let bytes = c.args.bytes.now in
    let slot = c.slot_bytes-slot_bytes.result in
    let head = length bytes - slot in
    let f = c.read_main.new.frame in
    let us = units_of st.channels f.units in
    let side : ℕ × List Unit = (c.in-Some.side.begin, units_of st.channels c.in-Some.side.units) in
    let read = side_part st p bytes c.requires.size c.requires.header slot head
    (Some side) c.slot_bytes-slot_bytes.ensures.value refl c.in-Some.ensures.value in
    let part = take (length bytes - head) (drop head bytes) in
    let wide : length part ≡ slot = length-take-le (length bytes - head) (drop head bytes)
    (omega (arith, length-drop head bytes))
    ∙ omega (arith, c.slot_bytes-slot_bytes.ensures.range, c.requires.size) in
    let slot_is = appended_slot old t slot part c.append.ensures.same wide c.append.ensures.slot in
    let own = slot_part st p bytes c.requires.size c.requires.header slot head
    c.slot_bytes-slot_bytes.ensures.value refl in
    let here = appended_place old t c.append.ensures.same c.append.ensures.front in
    let number : old.number ≡ t.number = ap (λ v. v.number) (sym c.append.ensures.same) in
    let main : main_at st p side (slot_at st p.number bytes) ≡ Ok us =
    ap (λ q. main_at st q side (slot_at st p.number bytes)) (sym here)
    ∙ (ap (main_at st (tape_place t) side) (own ∙ sym slot_is) ∙ c.in_ok-end.ensures.value) in
    let made : record { begin = side.0; units = placed st.channels us } ≡ f = frame_made f side.0
    (placed st.channels us) c.in_ok-end.ensures.begin c.in_ok-end.ensures.shape in
    let kept = appended_kept st old t c.requires.kept c.append.ensures.same c.append.ensures.bytes
    in
    let next : tape_place c.pass.new.self ≡ next_place st (tape_place t) side (slot_behind t slot) =
    passed_place st t c.pass.new.self kept side slot (length bytes) c.in_ok-end.end
    (omega (arith, c.slot_bytes-slot_bytes.ensures.range))
    (c.slot_bytes-slot_bytes.ensures.value ∙ ap (slot_bytes_of st) number)
    (c.requires.size ∙ ap (λ n. frame_bytes_of st n) number) c.in_ok-end.ensures.end
    c.pass.ensures.number c.pass.ensures.at c.pass.ensures.end c.pass.ensures.base
    c.pass.ensures.filled c.pass.ensures.kept in
    let place : next_place st p side (slot_at st p.number bytes) ≡ tape_place c.pass.new.self =
    ap (λ q. next_place st q side (slot_at st p.number bytes)) (sym here)
    ∙ (ap (next_place st (tape_place t) side) (own ∙ sym slot_is) ∙ sym next) in
    frame_read st p bytes c.requires.size c.requires.header side us read main
    ∙ (ap (λ g. both_of g (next_place st p side (slot_at st p.number bytes))) made
    ∙ ap (λ q. both_of f q) place)

pub returns-clause-kept : goal.returns-clause-kept
returns-clause-kept c =
    let st = c.args.settings.now in
    let old = c.args.tape.now in
    let t = c.append.new.self in
    let slot = c.slot_bytes-slot_bytes.result in
    let side : ℕ × List Unit = (c.in-Some.side.begin, units_of st.channels c.in-Some.side.units) in
    let number : old.number ≡ t.number = ap (λ v. v.number) (sym c.append.ensures.same) in
    let kept = appended_kept st old t c.requires.kept c.append.ensures.same c.append.ensures.bytes
    in
    let small = c.in-Some.ensures.found.small in
    passed_kept st t c.pass.new.self kept side slot (length c.args.bytes.now) c.in_ok-end.end
    (omega (arith, c.slot_bytes-slot_bytes.ensures.range))
    (c.slot_bytes-slot_bytes.ensures.value ∙ ap (slot_bytes_of st) number)
    (c.requires.size ∙ ap (λ n. frame_bytes_of st n) number) c.in_ok-end.ensures.end
    c.pass.ensures.number c.pass.ensures.at c.pass.ensures.end c.pass.ensures.base
    c.pass.ensures.filled c.pass.ensures.kept
    (omega arith) (omega arith) c.requires.longest c.pass.ensures.bytes

pub returns-clause-coded : goal.returns-clause-coded
returns-clause-coded c =
    let st = c.args.settings.now in
    let old = c.args.tape.now in
    let t = c.append.new.self in
    let p = tape_place old in
    let bytes = c.args.bytes.now in
    let slot = c.slot_bytes-slot_bytes.result in
    let head = length bytes - slot in
    let f = c.read_main.new.frame in
    let us = units_of st.channels f.units in
    let side : ℕ × List Unit = (c.in-Some.side.begin, units_of st.channels c.in-Some.side.units) in
    let read = side_part st p bytes c.requires.size c.requires.header slot head
    (Some side) c.slot_bytes-slot_bytes.ensures.value refl c.in-Some.ensures.value in
    let part = take (length bytes - head) (drop head bytes) in
    let wide : length part ≡ slot = length-take-le (length bytes - head) (drop head bytes)
    (omega (arith, length-drop head bytes))
    ∙ omega (arith, c.slot_bytes-slot_bytes.ensures.range, c.requires.size) in
    let slot_is = appended_slot old t slot part c.append.ensures.same wide c.append.ensures.slot in
    let own = slot_part st p bytes c.requires.size c.requires.header slot head
    c.slot_bytes-slot_bytes.ensures.value refl in
    let here = appended_place old t c.append.ensures.same c.append.ensures.front in
    let main : main_at st p side (slot_at st p.number bytes) ≡ Ok us =
    ap (λ q. main_at st q side (slot_at st p.number bytes)) (sym here)
    ∙ (ap (main_at st (tape_place t) side) (own ∙ sym slot_is) ∙ c.in_ok-end.ensures.value) in
    let made : record { begin = side.0; units = placed st.channels us } ≡ f = frame_made f side.0
    (placed st.channels us) c.in_ok-end.ensures.begin c.in_ok-end.ensures.shape in
    let small : All (λ byte. byte < 2 ^ 8) bytes = All-from_get_or (λ byte. byte < 2 ^ 8) bytes 0
    (λ i lt. omega (arith, c.type_inv.bytes i)) in
    subst (IsCoded st) made (frame_coded st p bytes c.requires.size c.requires.header side us
    (kept_place st old c.requires.kept) small read main)

-- what the calls ask, by a frame's lengths and what a tape keeps
behind-front : (long slot : ℕ) → long - slot ≤ long
behind-front long slot = omega arith

room-left : (filled part slot : ℕ) → part ≡ slot → filled ≤ 1931 → slot ≤ 1420 → filled + part ≤ 4096
room-left filled part slot is few small = omega (arith, is)

number-left : (old now : ℕ) → old ≡ now → old < 2 ^ 24 → now < 2 ^ 32
number-left old now is below = omega (arith, is)

place-left : (old now at long : ℕ) → old ≡ now → old < 2 ^ 24 → at ≤ 1441 * now → long ≤ 1441 → at + long < 2 ^ 64
place-left old now at long is below near few = omega (arith, is)

pub slot_bytes-slot_bytes-requires : goal.slot_bytes-slot_bytes-requires
slot_bytes-slot_bytes-requires c = small-number c.args.tape.now.number c.requires.number

pub slice_bounds-append-count : goal.slice_bounds-append-count
slice_bounds-append-count c = behind-front (length c.args.bytes.now) c.slot_bytes-slot_bytes.result

pub append-requires-clause-room : goal.append-requires-clause-room
append-requires-clause-room c =
    let bytes = c.args.bytes.now in
    let slot = c.slot_bytes-slot_bytes.result in
    let head = length bytes - slot in
    let part = take (length bytes - head) (drop head bytes) in
    let wide : length part ≡ slot = length-take-le (length bytes - head) (drop head bytes)
    (omega (arith, length-drop head bytes))
    ∙ omega (arith, c.slot_bytes-slot_bytes.ensures.range, c.requires.size) in
    room-left c.args.tape.now.filled (length part) slot wide c.requires.kept.few
    c.slot_bytes-slot_bytes.ensures.range.1

pub append-requires-clause-bytes : goal.append-requires-clause-bytes
append-requires-clause-bytes c = c.requires.kept.room

pub read_main-requires-clause-kept : goal.read_main-requires-clause-kept
read_main-requires-clause-kept c = appended_kept c.args.settings.now c.args.tape.now
    c.append.new.self c.requires.kept c.append.ensures.same c.append.ensures.bytes

pub read_main-requires-clause-slot : goal.read_main-requires-clause-slot
read_main-requires-clause-slot c = c.slot_bytes-slot_bytes.ensures.value
    ∙ ap (slot_bytes_of c.args.settings.now) (ap (λ v. v.number) (sym c.append.ensures.same))

pub read_main-requires-clause-room : goal.read_main-requires-clause-room
read_main-requires-clause-room c = c.slot_bytes-slot_bytes.ensures.range.1

pub read_main-requires-clause-shape : goal.read_main-requires-clause-shape
read_main-requires-clause-shape c = c.in-Some.ensures.placed

pub read_main-requires-clause-bare : goal.read_main-requires-clause-bare
read_main-requires-clause-bare c = c.in-Some.ensures.bare

pub pass-requires-clause-number : goal.pass-requires-clause-number
pass-requires-clause-number c = number-left c.args.tape.now.number c.append.new.self.number
    (ap (λ v. v.number) (sym c.append.ensures.same)) c.requires.number

pub pass-requires-clause-at : goal.pass-requires-clause-at
pass-requires-clause-at c =
    let old = c.args.tape.now in
    let t = c.append.new.self in
    let kept = appended_kept c.args.settings.now old t c.requires.kept c.append.ensures.same
    c.append.ensures.bytes in
    place-left old.number t.number t.at (length c.args.bytes.now)
    (ap (λ v. v.number) (sym c.append.ensures.same)) c.requires.number kept.at c.requires.longest

pub pass-requires-clause-room : goal.pass-requires-clause-room
pass-requires-clause-room c =
    let t = c.append.new.self in
    let kept = appended_kept c.args.settings.now c.args.tape.now t c.requires.kept
    c.append.ensures.same c.append.ensures.bytes in
    room-left t.filled c.slot_bytes-slot_bytes.result c.slot_bytes-slot_bytes.result refl kept.few
    c.slot_bytes-slot_bytes.ensures.range.1

pub pass-requires-clause-bytes : goal.pass-requires-clause-bytes
pass-requires-clause-bytes c = c.append.ensures.bytes

pub returns-clause-number : goal.returns-clause-number
returns-clause-number c = c.pass.ensures.number
    ∙ ap (λ k. k + 1) (ap (λ v. v.number) c.append.ensures.same)

pub read_main-requires-clause-number : goal.read_main-requires-clause-number
read_main-requires-clause-number c = c.in-Some.ensures.found.number

pub read_main-requires-clause-fields : goal.read_main-requires-clause-fields
read_main-requires-clause-fields c = c.in-Some.ensures.found.fields

-- the front of a frame is its header and its side information
slot-within : (long slot whole head : ℕ) → slot ≡ whole - head → 60 ≤ slot → long ≡ whole → slot ≤ long
slot-within long slot whole head is some size = omega (arith, is, size)

header-within : (ch : Channels) (long slot whole : ℕ) → slot ≡ whole - head_bytes_of ch → 60 ≤ slot → long ≡ whole → 4 ≤ long - slot
header-within Mono long slot whole is some size = omega (arith, is, size)
header-within Stereo long slot whole is some size = omega (arith, is, size)

side-count : (ch : Channels) (long slot whole : ℕ) → slot ≡ whole - head_bytes_of ch → 60 ≤ slot → long ≡ whole → long - slot - 4 ≡ side_bytes ch
side-count Mono long slot whole is some size = omega (arith, is, size)
side-count Stereo long slot whole is some size = omega (arith, is, size)

part-count : (bytes : List ℕ) (slot : ℕ) → length (take (length bytes - slot - 4) (drop 4 bytes)) ≡ length bytes - slot - 4
part-count bytes slot = length-take-le (length bytes - slot - 4) (drop 4 bytes) (omega (arith, length-drop 4 bytes))

pub overflow_sub-head_bytes : goal.overflow_sub-head_bytes
overflow_sub-head_bytes c = slot-within (length c.args.bytes.now) c.slot_bytes-slot_bytes.result
    (frame_bytes_of c.args.settings.now c.args.tape.now.number)
    (head_bytes_of c.args.settings.now.channels) c.slot_bytes-slot_bytes.ensures.value
    c.slot_bytes-slot_bytes.ensures.range.0 c.requires.size

pub slice_bounds-read_side-count : goal.slice_bounds-read_side-count
slice_bounds-read_side-count c = header-within c.args.settings.now.channels
    (length c.args.bytes.now) c.slot_bytes-slot_bytes.result
    (frame_bytes_of c.args.settings.now c.args.tape.now.number)
    c.slot_bytes-slot_bytes.ensures.value c.slot_bytes-slot_bytes.ensures.range.0 c.requires.size

pub read_side-requires : goal.read_side-requires
read_side-requires c = part-count c.args.bytes.now c.slot_bytes-slot_bytes.result
    ∙ side-count c.args.settings.now.channels (length c.args.bytes.now)
    c.slot_bytes-slot_bytes.result (frame_bytes_of c.args.settings.now c.args.tape.now.number)
    c.slot_bytes-slot_bytes.ensures.value c.slot_bytes-slot_bytes.ensures.range.0 c.requires.size
