-- Header, side information and main data of a frame: what is read is spelled so, and what is
-- spelled so is read.
use Rattle.std.proofs.Common.{◌≡◌, ℕ, zero, suc, ◌+◌, ◌-◌, ◌*◌, ◌^◌, ◌<◌, ◌≤◌, Bool, false, ◌&&◌, leb, List, [], ◌∷◌, ◌++◌, length, replicate, take, drop, map, Ok, refl, sym, ap, ◌∙◌, arith, append_assoc, length-append}
use Rattle.std.specs.Prelude.{All}
use Rattle.std.specs.List.{AllByRecursion}
use Rattle.std.proofs.lemmas.Bool.{and_parts, and_from, leb-true, le-leb}
use Rattle.std.proofs.lemmas.List.{take_at, drop_at, take-append-drop, take-append-le, length-take-le, length-drop, length-replicate}
use Rattle.std.proofs.lemmas.List.Elements.{All-take, All-drop}
use Rattle.l3_bits.specs.Bits.{packed, bits_of}
use Rattle.l3_bits.proofs.Places.{length-bits_of}
use Rattle.l3_bits.proofs.Bytes.{packed-bits_of, bits_of-packed}
use Rattle.l3_base.specs.declared.settings.Settings.{Settings}
use Rattle.l3_base.specs.Lengths.{frame_bytes_of, slot_bytes_of, slots_before}
use Rattle.l3_stream.specs.declared.fault.StreamFault.TheVariants as faults
use Rattle.l3_stream.specs.declared.unit.Unit.{Unit}
use Rattle.l3_stream.specs.Units.{lengths, IsCodedUnit}
use Rattle.l3_stream.specs.Frames.{units_number, units_bits}
use Rattle.l3_stream.specs.Fields.{same}
use Rattle.l3_stream.specs.Header.{header_at}
use Rattle.l3_stream.specs.Side.{side_bytes, side_bits}
use Rattle.l3_stream.specs.SideReading.{stripped, side_at}
use Rattle.l3_stream.specs.Tape.{start_of}
use Rattle.l3_stream.specs.Faults.{◌>>=◌, checked, or_fault, clear}
use Rattle.l3_stream.specs.UnitReading.{main_units_at}
use Rattle.l3_stream.specs.Deviation.{Place, head_at, main_at, next_place}
use Rattle.l3_stream.proofs.Steps.{bind_ok, checked_ok, checked_again, or_fault_ok, or_fault_again, clear_ok, clear_again}
use Rattle.l3_stream.proofs.Fields.{same_is, same_again}
use Rattle.l3_stream.proofs.Side.{IsSideUnit, side_takes, side_again, side-length}
use Rattle.l3_stream.proofs.UnitReading.{units_take, units_again, lengths-bits, bare_units, fields_of}
use Rattle.l3_stream.proofs.Packing.{packed-length}
use Rattle.l3_stream.proofs.Header.{header-length, frame_size}
use Rattle.l3_stream.proofs.Tape.{slots-suc}

abbrev pub AreBytes : List ℕ → Type 0
AreBytes bytes = All (λ byte. byte < 2 ^ 8) bytes

-- ---- header and side information

-- the bytes of a header and side information
unfoldable pub front_of : Settings → ℕ → ℕ → List Unit → List ℕ
front_of st n begin us = packed (header_at st n) ++ packed (side_bits st.channels begin us)

pub record IsHead (st : Settings) (n : ℕ) (bytes : List ℕ) (x : ℕ × List Unit) : Type 0 where
  pub enough : frame_bytes_of st n ≤ length bytes
  pub front : take (4 + side_bytes st.channels) bytes ≡ front_of st n x.0 x.1
  pub number : length x.1 ≡ units_number st.channels
  pub units : AllByRecursion IsSideUnit x.1
  pub small : x.0 < 2 ^ 9

take_none : (n : ℕ) (nothing : List ℕ) → nothing ≡ [] → nothing ≡ take n nothing
take_none zero xs e = e
take_none (suc n) [] e = refl
take_none (suc n) (x ∷ xs) e = absurd cc

take_both : (m n : ℕ) (xs : List ℕ) → take (m + n) xs ≡ take m xs ++ take n (drop m xs)
take_both zero n xs = let e : 0 + n ≡ n = omega arith in rw e refl
take_both (suc m) n [] = let e : suc m + n ≡ suc (m + n) = omega arith in rw e (take_none n [] refl)
take_both (suc m) n (x ∷ xs) = let e : suc m + n ≡ suc (m + n) = omega arith in rw e (ap (λ l. x ∷ l) (take_both m n xs))

pub head_takes : (st : Settings) (p : Place) (bytes : List ℕ) (x : ℕ × List Unit) → AreBytes bytes → head_at st p bytes ≡ Ok x → IsHead st p.number bytes x
unfolding head_at front_of
head_takes st p bytes x all e =
    let n = p.number in
    let side = or_fault (faults.BadSide p.at) (side_at st.channels (bits_of (take (side_bytes st.channels) (drop 4 bytes)))) in
    let a = bind_ok (checked (leb 4 (length bytes)) (faults.ShortFrame p.at)) (λ _. checked (same (bits_of (take 4 bytes)) (header_at st n)) (faults.BadHeader p.at) >>= λ _. checked (leb (frame_bytes_of st n) (length bytes)) (faults.ShortFrame p.at) >>= λ _. side) x e in
    let b = bind_ok (checked (same (bits_of (take 4 bytes)) (header_at st n)) (faults.BadHeader p.at)) (λ _. checked (leb (frame_bytes_of st n) (length bytes)) (faults.ShortFrame p.at) >>= λ _. side) x a.2 in
    let c = bind_ok (checked (leb (frame_bytes_of st n) (length bytes)) (faults.ShortFrame p.at)) (λ _. side) x b.2 in
    let header : bits_of (take 4 bytes) ≡ header_at st n = same_is _ _ (checked_ok _ _ _ b.1) in
    let enough : frame_bytes_of st n ≤ length bytes = leb-true _ _ (checked_ok _ _ _ c.1) in
    let middle = take (side_bytes st.channels) (drop 4 bytes) in
    let size : length middle ≡ side_bytes st.channels = length-take-le (side_bytes st.channels) (drop 4 bytes) (omega (arith, frame_size st n, length-drop 4 bytes)) in
    let read = side_takes st.channels (bits_of middle) x (omega (arith, length-bits_of middle, size)) (or_fault_ok _ _ _ c.2) in
    let is = read.side in
    let four : take 4 bytes ≡ packed (header_at st n) = sym (packed-bits_of (take 4 bytes) (All-take (λ byte. byte < 2 ^ 8) 4 bytes all)) ∙ ap packed header in
    let rest : middle ≡ packed (side_bits st.channels x.0 x.1) = sym (packed-bits_of middle (All-take (λ byte. byte < 2 ^ 8) (side_bytes st.channels) (drop 4 bytes) (All-drop (λ byte. byte < 2 ^ 8) 4 bytes all))) ∙ ap packed is.text in
    record {
      enough = enough;
      front = take_both 4 (side_bytes st.channels) bytes ∙ (ap (λ l. l ++ middle) four ∙ ap (λ l. packed (header_at st n) ++ l) rest);
      number = is.number;
      units = read.units;
      small = is.small;
    }

pub front-length : (st : Settings) (n begin : ℕ) (us : List Unit) → length us ≡ units_number st.channels → length (front_of st n begin us) ≡ 4 + side_bytes st.channels
unfolding front_of
front-length st n begin us number =
    omega (arith, length-append (packed (header_at st n)) (packed (side_bits st.channels begin us)), packed-length 4 (header_at st n) (header-length st n), packed-length (side_bytes st.channels) (side_bits st.channels begin us) (side-length st.channels begin us number))

front_parts : (st : Settings) (n begin : ℕ) (us : List Unit) (rest : List ℕ) → length us ≡ units_number st.channels →
    (bits_of (take 4 (front_of st n begin us ++ rest)) ≡ header_at st n) × (bits_of (take (side_bytes st.channels) (drop 4 (front_of st n begin us ++ rest))) ≡ side_bits st.channels begin us)
unfolding front_of
front_parts st n begin us rest number =
    let h = packed (header_at st n) in
    let s = packed (side_bits st.channels begin us) in
    let four : length h ≡ 4 = packed-length 4 (header_at st n) (header-length st n) in
    let size : length s ≡ side_bytes st.channels = packed-length (side_bytes st.channels) (side_bits st.channels begin us) (side-length st.channels begin us number) in
    let regrouped : (h ++ s) ++ rest ≡ h ++ (s ++ rest) = append_assoc h s rest in (
      ap (λ l. bits_of (take 4 l)) regrouped ∙ (ap bits_of (take_at h (s ++ rest) 4 four) ∙ bits_of-packed (header_at st n) 4 (header-length st n)),
      ap (λ l. bits_of (take (side_bytes st.channels) (drop 4 l))) regrouped
          ∙ (ap (λ l. bits_of (take (side_bytes st.channels) l)) (drop_at h (s ++ rest) 4 four)
          ∙ (ap bits_of (take_at s rest (side_bytes st.channels) size) ∙ bits_of-packed (side_bits st.channels begin us) (side_bytes st.channels) (side-length st.channels begin us number))),
    )

pub head_again : (st : Settings) (p : Place) (begin : ℕ) (us : List Unit) (rest : List ℕ) → begin < 2 ^ 9 → length us ≡ units_number st.channels → AllByRecursion (IsCodedUnit st) us → slot_bytes_of st p.number ≤ length rest
    → head_at st p (front_of st p.number begin us ++ rest) ≡ Ok (begin, map stripped us)
unfolding head_at ◌>>=◌
head_again st p begin us rest small number coded enough =
    let n = p.number in
    let bytes = front_of st n begin us ++ rest in
    let size : length bytes ≡ 4 + side_bytes st.channels + length rest = omega (arith, length-append (front_of st n begin us) rest, front-length st n begin us number) in
    let long : checked (leb 4 (length bytes)) (faults.ShortFrame p.at) ≡ Ok tt = checked_again _ _ (le-leb _ _ (omega arith)) in
    let whole : checked (leb (frame_bytes_of st n) (length bytes)) (faults.ShortFrame p.at) ≡ Ok tt = checked_again _ _ (le-leb _ _ (omega (arith, frame_size st n))) in
    let parts = front_parts st n begin us rest number in
    let header : checked (same (bits_of (take 4 bytes)) (header_at st n)) (faults.BadHeader p.at) ≡ Ok tt = checked_again _ _ (ap (λ l. same l (header_at st n)) parts.0 ∙ same_again (header_at st n)) in
    let side : or_fault (faults.BadSide p.at) (side_at st.channels (bits_of (take (side_bytes st.channels) (drop 4 bytes)))) ≡ Ok (begin, map stripped us) = or_fault_again _ _ _ (ap (side_at st.channels) parts.1 ∙ side_again st.channels begin us small number (fields_of st us coded)) in
    rw (long, header, whole) side

-- ---- the main data

-- the bits from the codes' end to the end of the slots so far
pub record IsPlace (st : Settings) (p : Place) : Type 0 where
  pub size : length p.rest + p.end ≡ 8 * slots_before st p.number

pub record IsMain (st : Settings) (p : Place) (side : ℕ × List Unit) (slot : List Bool) (us : List Unit) : Type 0 where
  pub reached : side.0 ≤ slots_before st p.number
  pub after : p.end ≤ start_of st p.number side.0
  pub within : start_of st p.number side.0 + lengths side.1 ≤ 8 * slots_before st (suc p.number)
  pub coded : AllByRecursion (IsCodedUnit st) us
  pub side_is : map stripped us ≡ side.1
  pub tape : p.rest ++ slot ≡ replicate (start_of st p.number side.0 - p.end) false ++ (units_bits st us ++ (next_place st p side slot).rest)

start_is : (st : Settings) (n begin : ℕ) → begin ≤ slots_before st n → start_of st n begin + 8 * begin ≡ 8 * slots_before st n
unfolding start_of
start_is st n begin le = omega arith

pub next_rest : (st : Settings) (p : Place) (side : ℕ × List Unit) (slot : List Bool) → (next_place st p side slot).rest ≡ drop (lengths side.1) (drop (start_of st p.number side.0 - p.end) (p.rest ++ slot))
unfolding next_place
next_rest st p side slot = refl

pub next_end : (st : Settings) (p : Place) (side : ℕ × List Unit) (slot : List Bool) → (next_place st p side slot).end ≡ start_of st p.number side.0 + lengths side.1
unfolding next_place
next_end st p side slot = refl

pub next_number : (st : Settings) (p : Place) (side : ℕ × List Unit) (slot : List Bool) → (next_place st p side slot).number ≡ suc p.number
unfolding next_place
next_number st p side slot = refl

pub main_takes : (st : Settings) (p : Place) (side : ℕ × List Unit) (slot : List Bool) (us : List Unit) → IsPlace st p → length slot ≡ 8 * slot_bytes_of st p.number → AllByRecursion IsSideUnit side.1
    → main_at st p side slot ≡ Ok us → IsMain st p side slot us
unfolding main_at
main_takes st p side slot us place size sides e =
    let n = p.number in
    let start = start_of st n side.0 in
    let gap = start - p.end in
    let tape = p.rest ++ slot in
    let a = bind_ok (checked (leb side.0 (slots_before st n) && leb p.end start) (faults.BadBegin p.at)) (λ _. clear p.end (take gap p.rest) >>= λ _. checked (leb (lengths side.1) (8 * (side.0 + slot_bytes_of st n))) (faults.WrongLength start) >>= λ _. main_units_at st start side.1 (drop gap tape)) us e in
    let b = bind_ok (clear p.end (take gap p.rest)) (λ _. checked (leb (lengths side.1) (8 * (side.0 + slot_bytes_of st n))) (faults.WrongLength start) >>= λ _. main_units_at st start side.1 (drop gap tape)) us a.2 in
    let c = bind_ok (checked (leb (lengths side.1) (8 * (side.0 + slot_bytes_of st n))) (faults.WrongLength start)) (λ _. main_units_at st start side.1 (drop gap tape)) us b.2 in
    let begun = and_parts (leb side.0 (slots_before st n)) (leb p.end start) (checked_ok _ _ _ a.1) in
    let reached : side.0 ≤ slots_before st n = leb-true _ _ begun.0 in
    let after : p.end ≤ start = leb-true _ _ begun.1 in
    let sized : lengths side.1 ≤ 8 * (side.0 + slot_bytes_of st n) = leb-true _ _ (checked_ok _ _ _ c.1) in
    let front_size : length (take gap p.rest) ≡ gap = length-take-le gap p.rest (omega (arith, start_is st n side.0 reached, place.size)) in
    let zeros : take gap p.rest ≡ replicate gap false = clear_ok _ _ _ b.1 ∙ ap (λ k. replicate k false) front_size in
    let front : take gap tape ≡ replicate gap false = take-append-le gap p.rest slot (omega (arith, start_is st n side.0 reached, place.size)) ∙ zeros in
    let read = units_take st start side.1 (drop gap tape) us sides (omega (arith, length-drop gap tape, length-append p.rest slot, size, start_is st n side.0 reached, place.size)) c.2 in
    record {
      reached = reached;
      after = after;
      within = omega (arith, slots-suc st n, start_is st n side.0 reached);
      coded = read.coded;
      side_is = read.side ∙ bare_units side.1 sides;
      tape = sym (take-append-drop gap tape) ∙ (ap (λ l. l ++ drop gap tape) front ∙ ap (λ l. replicate gap false ++ l) (read.text ∙ ap (λ l. units_bits st us ++ l) (sym (next_rest st p side slot))));
    }

pub next_is_place : (st : Settings) (p : Place) (side : ℕ × List Unit) (slot : List Bool) → IsPlace st p → length slot ≡ 8 * slot_bytes_of st p.number
    → side.0 ≤ slots_before st p.number → p.end ≤ start_of st p.number side.0 → start_of st p.number side.0 + lengths side.1 ≤ 8 * slots_before st (suc p.number) → IsPlace st (next_place st p side slot)
unfolding next_place
next_is_place st p side slot place size reached after within =
    let gap = start_of st p.number side.0 - p.end in
    let tape = p.rest ++ slot in
    record { size = omega (arith, slots-suc st p.number, start_is st p.number side.0 reached, place.size, length-drop (lengths side.1) (drop gap tape), length-drop gap tape, length-append p.rest slot, size) }

pub main_again : (st : Settings) (p : Place) (begin : ℕ) (us : List Unit) (slot rest : List Bool) → IsPlace st p → length slot ≡ 8 * slot_bytes_of st p.number → AllByRecursion (IsCodedUnit st) us
    → begin ≤ slots_before st p.number → p.end ≤ start_of st p.number begin → start_of st p.number begin + lengths (map stripped us) ≤ 8 * slots_before st (suc p.number)
    → p.rest ++ slot ≡ replicate (start_of st p.number begin - p.end) false ++ (units_bits st us ++ rest)
    → main_at st p (begin, map stripped us) slot ≡ Ok us
unfolding main_at ◌>>=◌
main_again st p begin us slot rest place size coded reached after within laid =
    let n = p.number in
    let start = start_of st n begin in
    let gap = start - p.end in
    let tape = p.rest ++ slot in
    let begun : checked (leb begin (slots_before st n) && leb p.end start) (faults.BadBegin p.at) ≡ Ok tt = checked_again _ _ (and_from _ _ (le-leb _ _ reached) (le-leb _ _ after)) in
    let front : take gap p.rest ≡ replicate gap false =
    sym (take-append-le gap p.rest slot (omega (arith, start_is st n begin reached, place.size))) ∙ (ap (take gap) laid ∙ take_at (replicate gap false) (units_bits st us ++ rest) gap (length-replicate gap false)) in
    let zeros : clear p.end (take gap p.rest) ≡ Ok tt = ap (clear p.end) front ∙ clear_again p.end gap in
    let sized : checked (leb (lengths (map stripped us)) (8 * (begin + slot_bytes_of st n))) (faults.WrongLength start) ≡ Ok tt = checked_again _ _ (le-leb _ _ (omega (arith, slots-suc st n, start_is st n begin reached))) in
    let back : drop gap tape ≡ units_bits st us ++ rest = ap (drop gap) laid ∙ drop_at (replicate gap false) (units_bits st us ++ rest) gap (length-replicate gap false) in
    let units : main_units_at st start (map stripped us) (drop gap tape) ≡ Ok us = ap (main_units_at st start (map stripped us)) back ∙ units_again st start us rest coded in
    rw (begun, zeros, sized) units

pub next_rest_again : (st : Settings) (p : Place) (begin : ℕ) (us : List Unit) (slot rest : List Bool) → AllByRecursion (IsCodedUnit st) us
    → p.rest ++ slot ≡ replicate (start_of st p.number begin - p.end) false ++ (units_bits st us ++ rest) → (next_place st p (begin, map stripped us) slot).rest ≡ rest
next_rest_again st p begin us slot rest coded laid =
    let gap = start_of st p.number begin - p.end in
    next_rest st p (begin, map stripped us) slot
    ∙ (ap (λ l. drop (lengths (map stripped us)) (drop gap l)) laid
    ∙ (ap (drop (lengths (map stripped us))) (drop_at (replicate gap false) (units_bits st us ++ rest) gap (length-replicate gap false))
    ∙ drop_at (units_bits st us) rest (lengths (map stripped us)) (sym (lengths-bits st us coded))))
