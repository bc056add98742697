-- Reading one frame from its bytes: what each step gives.
use Rattle.std.proofs.Common.{◌≡◌, ℕ, zero, suc, ◌+◌, ◌-◌, ◌*◌, ◌/◌, ◌^◌, ◌<◌, ◌≤◌, leb, true, Bool, List, [], ◌∷◌, ◌++◌, length, take, drop, Option, Some, None, Result, Ok, Err, refl, sym, ap, subst, ◌∙◌, arith}
use Rattle.std.proofs.lemmas.Bool.{le-leb}
use Rattle.std.proofs.lemmas.List.{drop-drop, length-take-le, length-drop}
use Rattle.l3_bits.specs.Bits.{bits_of}
use Rattle.l3_bits.proofs.Places.{length-bits_of}
use Rattle.l3_base.specs.declared.settings.Settings.{Settings}
use Rattle.l3_base.specs.Lengths.{slots_before, slot_bytes_of, frame_bytes_of}
use Rattle.l3_stream.specs.declared.fault.StreamFault.{StreamFault}
use Rattle.l3_stream.specs.declared.fault.StreamFault.TheVariants as faults
use Rattle.l3_stream.specs.declared.unit.Unit.{Unit}
use Rattle.l3_stream.specs.declared.unit.ChosenFrame.{ChosenFrame}
use Rattle.l3_stream.specs.Units.{lengths}
use Rattle.l3_stream.specs.Fields.{same}
use Rattle.l3_stream.specs.Frames.{placed, IsCoded}
use Rattle.l3_stream.specs.Header.{header_at}
use Rattle.l3_stream.specs.Side.{side_bytes}
use Rattle.l3_stream.specs.SideReading.{side_at}
use Rattle.l3_stream.specs.Tape.{start_of}
use Rattle.l3_stream.specs.Faults.{checked, or_fault}
use Rattle.l3_stream.specs.Deviation.{Place, head_at, slot_at, main_at, next_place}
use Rattle.l3_stream.proofs.Steps.{bind_again, checked_again, or_fault_again}
use Rattle.l3_stream.proofs.Header.{frame_size}
use Rattle.l3_stream.proofs.Tape.{slots-suc}
use Rattle.l3_stream.proofs.FrameReading.{IsPlace, AreBytes, head_takes, main_takes}
use Rattle.l3_stream.proofs.WholeFrame.{frame_takes, slot_size}
use Rattle.l3_frames.specs.declared.tape.Tape.{Tape}
use Rattle.l3_frames.specs.InTurn.{frame_at}
use Rattle.l3_frames.specs.Steps.{KeepsTape, GoesTo, tape_place, slot_behind}
use Rattle.l3_frames.proofs.UnitSteps.{bind_bad}
use Rattle.l3_frames.proofs.MainSteps.{start_is, rest_units}

-- ---- the definition's steps

pub or_fault_none : {A : Type 0} (fault : StreamFault) (o : Option A) → o ≡ None → or_fault fault o
    ≡ Err fault
unfolding or_fault
or_fault_none fault o e = rw e refl

module _ (st : Settings) (p : Place) (bytes : List ℕ) (size : length bytes
    ≡ frame_bytes_of st p.number) (header : same (bits_of (take 4 bytes)) (header_at st p.number)
    ≡ true) where
  abbrev read_side : Option (ℕ × List Unit)
  read_side = side_at st.channels (bits_of (take (side_bytes st.channels) (drop 4 bytes)))

  head_is : (said : Result (ℕ × List Unit) StreamFault) → or_fault (faults.BadSide p.at) read_side
      ≡ said → head_at st p bytes ≡ said
  unfolding head_at
  head_is said e =
      bind_again (checked (leb 4 (length bytes)) (faults.ShortFrame p.at)) _ tt said
      (checked_again _ _ (le-leb _ _ (omega (arith, frame_size st p.number))))
      (bind_again (checked (same (bits_of (take 4 bytes)) (header_at st p.number))
      (faults.BadHeader p.at)) _ tt said (checked_again _ _ header)
      (bind_again (checked (leb (frame_bytes_of st p.number) (length bytes))
      (faults.ShortFrame p.at)) _ tt said (checked_again _ _ (le-leb _ _ (omega arith))) e))

  pub frame_bad_side : read_side ≡ None → frame_at st p bytes ≡ Err (faults.BadSide p.at)
  unfolding frame_at
  frame_bad_side none = bind_bad (head_at st p bytes) _ (faults.BadSide p.at)
      (head_is _ (or_fault_none _ read_side none))

  pub frame_bad_main : (side : ℕ × List Unit) (fault : StreamFault) → read_side ≡ Some side
      → main_at st p side (slot_at st p.number bytes) ≡ Err fault → frame_at st p bytes ≡ Err fault
  unfolding frame_at
  frame_bad_main side fault e h =
      bind_again (head_at st p bytes) _ side (Err fault)
      (head_is (Ok side) (or_fault_again _ read_side side e))
      (bind_bad (main_at st p side (slot_at st p.number bytes)) _ fault h)

  pub frame_read : (side : ℕ × List Unit) (us : List Unit) → read_side ≡ Some side
      → main_at st p side (slot_at st p.number bytes) ≡ Ok us
      → frame_at st p bytes ≡ Ok (
        record { begin = side.0; units = placed st.channels us },
        next_place st p side (slot_at st p.number bytes),
      )
  unfolding frame_at
  frame_read side us e h =
      bind_again (head_at st p bytes) _ side
      (Ok (
        record { begin = side.0; units = placed st.channels us },
        next_place st p side
            (slot_at st p.number bytes),
      )) (head_is (Ok side) (or_fault_again _ read_side side e))
      (bind_again (main_at st p side (slot_at st p.number bytes)) _ us
      (Ok (
        record { begin = side.0; units = placed st.channels us },
        next_place st p side
            (slot_at st p.number bytes),
      )) h refl)

  -- what is read is coded
  pub frame_coded : (side : ℕ × List Unit) (us : List Unit) → IsPlace st p → AreBytes bytes
      → read_side ≡ Some side → main_at st p side (slot_at st p.number bytes) ≡ Ok us
      → IsCoded st (record { begin = side.0; units = placed st.channels us })
  frame_coded side us place all e h =
      let head = head_takes st p bytes side all
      (head_is (Ok side) (or_fault_again _ read_side side e)) in
      let main = main_takes st p side (slot_at st p.number bytes) us place
      (slot_size st p.number bytes head.enough) head.units h in
      let stands = frame_takes st p bytes side us place all head main in
      stands.fit.coded

  -- the slot
  pub slot_part : (slot head : ℕ) → slot ≡ slot_bytes_of st p.number → head ≡ length bytes - slot
      → slot_at st p.number bytes ≡ bits_of (take (length bytes - head) (drop head bytes))
  unfolding slot_at
  slot_part slot head is e =
      let front : 4 + side_bytes st.channels ≡ head = omega (arith, frame_size st p.number) in
      let width : slot_bytes_of st p.number ≡ length bytes - head = omega (
        arith,
        frame_size st p.number,
      ) in
      ap (λ n. bits_of (take (slot_bytes_of st p.number) (drop n bytes))) front
      ∙ ap (λ n. bits_of (take n (drop head bytes))) width

  pub side_part : (slot head : ℕ) (said : Option (ℕ × List Unit)) → slot ≡ slot_bytes_of st p.number
      → head ≡ length bytes - slot → side_at st.channels (bits_of (take (head - 4) (drop 4 bytes)))
      ≡ said → read_side ≡ said
  side_part slot head said is e h =
      let width : side_bytes st.channels ≡ head - 4 = omega (arith, frame_size st p.number) in
      ap (λ n. side_at st.channels (bits_of (take n (drop 4 bytes)))) width ∙ h

-- ---- where reading stands

abbrev placed_at : ℕ → ℕ → ℕ → List Bool → Place
placed_at n a e r = record { number = n; at = a; end = e; rest = r }

abbrev frame_with : ℕ → List (List Unit) → ChosenFrame
frame_with n us = record { begin = n; units = us }

drop_none : (n : ℕ) → drop {A = Bool} n [] ≡ []
drop_none zero = refl
drop_none (suc n) = refl

pub appended_place : (t u : Tape) → u ≡ record t { bytes = u.bytes } → take t.filled u.bytes
    ≡ take t.filled t.bytes → tape_place u ≡ tape_place t
appended_place t u same front = ap tape_place same
    ∙ ap (λ l. placed_at t.number t.at t.end (drop (t.end - 8 * t.base) (bits_of l))) front

pub kept_place : (st : Settings) (t : Tape) → KeepsTape st t → IsPlace st (tape_place t)
kept_place st t kept =
    let front = take t.filled t.bytes in
    let size : length front ≡ t.filled = length-take-le t.filled t.bytes
    (omega (arith, kept.room, kept.few)) in
    record {
      size = omega (
        arith,
        length-drop (t.end - 8 * t.base) (bits_of front),
        length-bits_of front,
        size,
        kept.slots,
        kept.begun,
        kept.within,
      );
    }

bits_of-drop : (k : ℕ) (bytes : List ℕ) → bits_of (drop k bytes) ≡ drop (8 * k) (bits_of bytes)
bits_of-drop zero bytes = refl
bits_of-drop (suc k) [] = sym (drop_none (8 * suc k))
bits_of-drop (suc k) (x ∷ bytes) =
    let place : 8 + 8 * k ≡ 8 * suc k = omega arith in
    bits_of-drop k bytes ∙ (drop-drop (8 * k) 8 (bits_of (x ∷ bytes))
    ∙ ap (λ n. drop n (bits_of (x ∷ bytes))) place)

module _ (st : Settings) (t u : Tape) (kept : KeepsTape st t) (side : ℕ × List Unit)
    (slot frame end : ℕ) (room : slot ≤ 1420) (slot_is : slot ≡ slot_bytes_of st t.number)
    (frame_is : frame ≡ frame_bytes_of st t.number)
    (goes : GoesTo st t side.0 (lengths side.1) end) (number : u.number ≡ t.number + 1)
    (at : u.at ≡ t.at + frame) (ends : u.end ≡ end) (base : u.base ≡ end / 8)
    (filled : u.base + u.filled ≡ t.base + (t.filled + slot))
    (bytes : take u.filled u.bytes ≡ drop (end / 8 - t.base) (take (t.filled + slot) t.bytes)) where
  start : start_of st t.number side.0 ≡ 8 * (t.base + t.filled - side.0)
  start = start_is st t.number side.0 (t.base + t.filled) kept.slots

  reached : side.0 ≤ t.base + t.filled
  reached = subst (λ (s : ℕ). side.0 ≤ s) (sym kept.slots) goes.reached

  rest : (tape_place u).rest ≡ drop (lengths side.1) (drop (start_of st t.number side.0 - t.end)
      ((tape_place t).rest ++ slot_behind t slot))
  rest =
      let whole = take (t.filled + slot) t.bytes in
      let cut : u.end - 8 * u.base ≡ end - 8 * (end / 8) = omega arith in
      let sum : 8 * (end / 8 - t.base) + (end - 8 * (end / 8)) ≡ end - 8 * t.base = omega (
        arith,
        kept.begun,
        goes.after,
        goes.is,
      ) in
      let sum' : start_of st t.number side.0 - 8 * t.base + lengths side.1
      ≡ end - 8 * t.base = omega (arith, kept.begun, goes.after, goes.is) in
      let left : drop (u.end - 8 * u.base) (bits_of (take u.filled u.bytes)) ≡ drop
      (end - 8 * t.base) (bits_of whole) =
      ap (λ n. drop n (bits_of (take u.filled u.bytes))) cut
      ∙ (ap (λ l. drop (end - 8 * (end / 8)) (bits_of l)) bytes
      ∙ (ap (drop (end - 8 * (end / 8))) (bits_of-drop (end / 8 - t.base) whole)
      ∙ (drop-drop (end - 8 * (end / 8)) (8 * (end / 8 - t.base)) (bits_of whole)
      ∙ ap (λ n. drop n (bits_of whole)) sum))) in
      let right : drop (lengths side.1) (drop (start_of st t.number side.0 - t.end)
      ((tape_place t).rest ++ slot_behind t slot)) ≡ drop (end - 8 * t.base) (bits_of whole) =
      ap (drop (lengths side.1)) (rest_units t (start_of st t.number side.0) kept.begun goes.after
      slot (omega (arith, kept.room, kept.few)) kept.within)
      ∙ (drop-drop (lengths side.1) (start_of st t.number side.0 - 8 * t.base) (bits_of whole)
      ∙ ap (λ n. drop n (bits_of whole)) sum') in
      left ∙ sym right

  pub passed_place : tape_place u ≡ next_place st (tape_place t) side (slot_behind t slot)
  unfolding next_place
  passed_place =
      let r = (tape_place u).rest in
      let next : u.number ≡ suc t.number = omega arith in
      let place : u.at ≡ t.at + frame_bytes_of st t.number = omega arith in
      let codes : u.end ≡ start_of st t.number side.0 + lengths side.1 = ends ∙ goes.is in
      ap (λ n. placed_at n u.at u.end r) next ∙ (ap (λ n. placed_at (suc t.number) n u.end r) place
      ∙ (ap (λ n. placed_at (suc t.number) (t.at + frame_bytes_of st t.number) n r) codes
      ∙ ap (λ l. placed_at (suc t.number) (t.at + frame_bytes_of st t.number)
      (start_of st t.number side.0 + lengths side.1) l) rest))

  pub passed_kept : side.0 ≤ 511 → t.number < 2 ^ 24 → frame ≤ 1441 → length u.bytes ≡ 4096
      → KeepsTape st u
  passed_kept small few longest size =
      let from : end ≡ 8 * (t.base + t.filled - side.0) + lengths side.1 = goes.is
      ∙ ap (λ s. s + lengths side.1) start in
      let within : lengths side.1 ≤ 8 * (side.0 + slot) = subst (λ (s : ℕ). lengths side.1 ≤ 8 *
      (side.0 + s)) (sym slot_is) goes.within in
      let next : slots_before st (suc t.number) ≡ slots_before st u.number = ap (slots_before st)
      (omega arith) in
      record {
        room = size;
        number = omega arith;
        at = omega (arith, kept.at);
        slots = filled ∙ (omega (arith, kept.slots, slots-suc st t.number) ∙ next);
        small = omega (arith, kept.small);
        few = omega (arith, reached);
        begun = omega arith;
        near = omega arith;
        within = omega (arith, reached);
      }

pub end_within : (st : Settings) (t : Tape) (begin bits slot end : ℕ) → KeepsTape st t
    → slot ≡ slot_bytes_of st t.number → GoesTo st t begin bits end
    → end ≤ 8 * (t.base + (t.filled + slot))
end_within st t begin bits slot end kept slot_is goes =
    let from : end ≡ 8 * (t.base + t.filled - begin) + bits = goes.is ∙ ap (λ s. s + bits)
    (start_is st t.number begin (t.base + t.filled) kept.slots) in
    let low : begin ≤ t.base + t.filled = subst (λ (s : ℕ). begin ≤ s) (sym kept.slots) goes.reached
    in
    let few : bits ≤ 8 * (begin + slot) = subst (λ (s : ℕ). bits ≤ 8 * (begin + s))
    (sym slot_is) goes.within in
    omega arith

pub end_begun : (st : Settings) (t : Tape) (begin bits end : ℕ) → KeepsTape st t
    → GoesTo st t begin bits end → 8 * t.base ≤ end
end_begun st t begin bits end kept goes = omega (arith, kept.begun, goes.after, goes.is)

pub appended_kept : (st : Settings) (t u : Tape) → KeepsTape st t → u ≡ record t { bytes = u.bytes }
    → length u.bytes ≡ 4096 → KeepsTape st u
appended_kept st t u kept same size = subst (KeepsTape st) (sym same) (record {
  room = size;
  number = kept.number;
  at = kept.at;
  slots = kept.slots;
  small = kept.small;
  few = kept.few;
  begun = kept.begun;
  near = kept.near;
  within = kept.within;
})

pub appended_slot : (t u : Tape) (slot : ℕ) (part : List ℕ) → u ≡ record t { bytes = u.bytes }
    → length part ≡ slot → take (length part) (drop t.filled u.bytes) ≡ part → slot_behind u slot
    ≡ bits_of part
appended_slot t u slot part same size is =
    ap (λ n. bits_of (take n (drop u.filled u.bytes))) (sym size)
    ∙ (ap (λ n. bits_of (take (length part) (drop n u.bytes))) (ap (λ v. v.filled) same)
    ∙ ap bits_of is)

pub frame_made : (f : ChosenFrame) (begin : ℕ) (units : List (List Unit)) → f.begin ≡ begin
    → f.units ≡ units → record { begin = begin; units = units } ≡ f
frame_made f begin units a b = ap (λ n. frame_with n units) (sym a)
    ∙ ap (λ us. frame_with f.begin us) (sym b)

-- the number of a frame that is read is one that its lengths are known for
pub small-number : (n : ℕ) → n < 2 ^ 24 → n ≤ 2 ^ 32
small-number n below = omega arith
