-- One frame: what is read is spelled so, and what is spelled so is read.
use Rattle.std.proofs.Common.{◌≡◌, ℕ, suc, ◌+◌, ◌-◌, ◌*◌, ◌^◌, ◌<◌, ◌≤◌, Bool, false, List, [], ◌∷◌, ◌++◌, length, replicate, take, drop, map, Ok, refl, sym, ap, subst, ◌∙◌, arith, append_assoc, length-append}
use Rattle.std.specs.Prelude.{sum_by}
use Rattle.std.specs.List.{flat_map, AllByRecursion}
use Rattle.std.proofs.lemmas.List.{take_at, drop_at, take-append-drop, length-take-le, length-drop, drop-drop}
use Rattle.std.proofs.lemmas.List.Elements.{All-take, All-drop}
use Rattle.l3_bits.specs.Bits.{packed, bits_of}
use Rattle.l3_bits.proofs.Places.{length-bits_of}
use Rattle.l3_bits.proofs.Bytes.{packed-bits_of, bits_of-packed}
use Rattle.l3_base.specs.declared.settings.Settings.{Settings}
use Rattle.l3_base.specs.declared.rate.Channels.{Channels}
use Rattle.l3_base.specs.declared.rate.Channels.TheVariants.{Mono, Stereo}
use Rattle.l3_base.specs.Lengths.{frame_bytes_of, slot_bytes_of, slots_before}
use Rattle.l3_stream.specs.declared.unit.Unit.{Unit}
use Rattle.l3_stream.specs.declared.unit.ChosenFrame.{ChosenFrame}
use Rattle.l3_stream.specs.Units.{lengths, IsCodedUnit}
use Rattle.l3_stream.specs.Frames.{blank, units_of, placed, units_number, units_bits, code_bits, main_data_length, IsCoded}
use Rattle.l3_stream.specs.Side.{unit_side, side_bytes}
use Rattle.l3_stream.specs.SideReading.{stripped}
use Rattle.l3_stream.specs.Tape.{start_of, end_of, FitsAt, head_of}
use Rattle.l3_stream.specs.Deviation.{Place, head_at, main_at, slot_at, next_place}
use Rattle.l3_stream.proofs.Side.{unit_side-stripped}
use Rattle.l3_stream.proofs.UnitReading.{lengths-bits, lengths-stripped}
use Rattle.l3_stream.proofs.Packing.{packed-length}
use Rattle.l3_stream.proofs.Header.{frame_size}
use Rattle.l3_stream.proofs.FrameReading.{AreBytes, front_of, IsHead, front-length, head_again, IsPlace, IsMain, next_end, next_is_place, main_again, next_rest_again}

abbrev pub frame_of : Channels → ℕ → List Unit → ChosenFrame
frame_of c begin us = record { begin = begin; units = placed c us }

pub units_of-placed : (c : Channels) (us : List Unit) → length us ≡ units_number c → units_of c (placed c us) ≡ us
unfolding units_of placed
units_of-placed Mono [] e = absurd (omega arith)
units_of-placed Mono (a ∷ []) e = absurd (omega arith)
units_of-placed Mono (a ∷ b ∷ []) e = refl
units_of-placed Mono (a ∷ b ∷ c ∷ us) e = absurd (omega arith)
units_of-placed Stereo [] e = absurd (omega arith)
units_of-placed Stereo (a ∷ []) e = absurd (omega arith)
units_of-placed Stereo (a ∷ b ∷ []) e = absurd (omega arith)
units_of-placed Stereo (a ∷ b ∷ c ∷ []) e = absurd (omega arith)
units_of-placed Stereo (a ∷ b ∷ c ∷ d ∷ []) e = refl
units_of-placed Stereo (a ∷ b ∷ c ∷ d ∷ x ∷ us) e = absurd (omega arith)

pub code_bits-is : (st : Settings) (f : ChosenFrame) → code_bits st f ≡ units_bits st (units_of st.channels f.units)
unfolding code_bits
code_bits-is st f = refl

-- a coded frame has as many code bits as its units' part2_3_length say
pub code_bits-length : (st : Settings) (f : ChosenFrame) → IsCoded st f → length (code_bits st f) ≡ lengths (units_of st.channels f.units)
code_bits-length st f coded =
    let us = units_of st.channels f.units in
    ap length (code_bits-is st f) ∙ (sym (lengths-bits st us coded.units) ∙ lengths-stripped us)

-- units by granule and channel are as long as they are in a row
lengths-placed : (c : Channels) (us : List Unit) → length us ≡ units_number c → sum_by lengths (placed c us) ≡ lengths us
unfolding placed blank
lengths-placed Mono (a ∷ b ∷ []) number = omega arith
lengths-placed Stereo (a ∷ b ∷ c ∷ d ∷ []) number = omega arith
lengths-placed Mono [] number = cc
lengths-placed Mono (a ∷ []) number = absurd (omega (arith, number))
lengths-placed Mono (a ∷ b ∷ c ∷ us) number = absurd (omega (arith, number))
lengths-placed Stereo [] number = cc
lengths-placed Stereo (a ∷ []) number = absurd (omega (arith, number))
lengths-placed Stereo (a ∷ b ∷ []) number = absurd (omega (arith, number))
lengths-placed Stereo (a ∷ b ∷ c ∷ []) number = absurd (omega (arith, number))
lengths-placed Stereo (a ∷ b ∷ c ∷ d ∷ e ∷ us) number = absurd (omega (arith, number))

-- a frame's main data is as long as its units in the stream's order
pub main_data_length-placed : (c : Channels) (f : ChosenFrame) → f.units ≡ placed c (units_of c f.units) → length (units_of c f.units) ≡ units_number c
    → main_data_length f ≡ lengths (units_of c f.units)
main_data_length-placed c f shape number = ap (sum_by lengths) shape ∙ lengths-placed c (units_of c f.units) number

-- a coded frame has as many code bits as all its units' part2_3_length say
pub code_bits-main_data : (st : Settings) (f : ChosenFrame) → IsCoded st f → length (code_bits st f) ≡ main_data_length f
code_bits-main_data st f coded = code_bits-length st f coded ∙ sym (main_data_length-placed st.channels f coded.shape coded.number)

pub code_bits-frame_of : (st : Settings) (begin : ℕ) (us : List Unit) → length us ≡ units_number st.channels → code_bits st (frame_of st.channels begin us) ≡ units_bits st us
code_bits-frame_of st begin us number = code_bits-is st (frame_of st.channels begin us) ∙ ap (units_bits st) (units_of-placed st.channels us number)

sides_same : (us : List Unit) → flat_map unit_side (map stripped us) ≡ flat_map unit_side us
sides_same [] = refl
sides_same (u ∷ us) = ap (λ l. l ++ flat_map unit_side (map stripped us)) (unit_side-stripped u) ∙ ap (λ l. unit_side u ++ l) (sides_same us)

front_same : (st : Settings) (n begin : ℕ) (us : List Unit) → front_of st n begin (map stripped us) ≡ front_of st n begin us
unfolding front_of
front_same st n begin us = rw (sides_same us) refl

pub head_of-is : (st : Settings) (n : ℕ) (f : ChosenFrame) → head_of st n f ≡ front_of st n f.begin (units_of st.channels f.units)
unfolding head_of front_of
head_of-is st n f = refl

pub record FrameStands (st : Settings) (p : Place) (f : ChosenFrame) (bytes : List ℕ) (rest : List Bool) (more : List ℕ) : Type 0 where
  pub fit : FitsAt st p.number p.end f
  pub slot : List Bool
  pub size : length slot ≡ 8 * slot_bytes_of st p.number
  pub text : bytes ≡ head_of st p.number f ++ (packed slot ++ more)
  pub tape : p.rest ++ slot ≡ replicate (start_of st p.number f.begin - p.end) false ++ (code_bits st f ++ rest)

map-length : (us : List Unit) → length (map stripped us) ≡ length us
map-length [] = refl
map-length (u ∷ us) = ap suc (map-length us)

coded_frame : (st : Settings) (begin : ℕ) (us : List Unit) → length us ≡ units_number st.channels → AllByRecursion (IsCodedUnit st) us → IsCoded st (frame_of st.channels begin us)
coded_frame st begin us number coded =
    let e = units_of-placed st.channels us number in
    record { shape = ap (placed st.channels) (sym e); number = ap length e ∙ number; units = subst (λ (l : List Unit). AllByRecursion (IsCodedUnit st) l) (sym e) coded }

-- the bytes of the slot
abbrev slot_bytes : Settings → ℕ → List ℕ → List ℕ
slot_bytes st n bytes = take (slot_bytes_of st n) (drop (4 + side_bytes st.channels) bytes)

pub slot_size : (st : Settings) (n : ℕ) (bytes : List ℕ) → frame_bytes_of st n ≤ length bytes → length (slot_at st n bytes) ≡ 8 * slot_bytes_of st n
unfolding slot_at
slot_size st n bytes enough = omega (arith, length-bits_of (slot_bytes st n bytes), length-take-le (slot_bytes_of st n) (drop (4 + side_bytes st.channels) bytes) (omega (arith, frame_size st n, length-drop (4 + side_bytes st.channels) bytes)))

slot_packed : (st : Settings) (n : ℕ) (bytes : List ℕ) → AreBytes bytes → packed (slot_at st n bytes) ≡ slot_bytes st n bytes
unfolding slot_at
slot_packed st n bytes all = packed-bits_of (slot_bytes st n bytes) (All-take (λ byte. byte < 2 ^ 8) (slot_bytes_of st n) (drop (4 + side_bytes st.channels) bytes) (All-drop (λ byte. byte < 2 ^ 8) (4 + side_bytes st.channels) bytes all))

pub frame_takes : (st : Settings) (p : Place) (bytes : List ℕ) (side : ℕ × List Unit) (us : List Unit) → IsPlace st p → AreBytes bytes → IsHead st p.number bytes side → IsMain st p side (slot_at st p.number bytes) us
    → FrameStands st p (frame_of st.channels side.0 us) bytes (next_place st p side (slot_at st p.number bytes)).rest (drop (frame_bytes_of st p.number) bytes)
frame_takes st p bytes side us place all head main =
    let n = p.number in
    let f = frame_of st.channels side.0 us in
    let slot = slot_at st n bytes in
    let number : length us ≡ units_number st.channels = sym (map-length us) ∙ (ap length main.side_is ∙ head.number) in
    let codes : code_bits st f ≡ units_bits st us = code_bits-frame_of st side.0 us number in
    let size : length (units_bits st us) ≡ lengths side.1 = sym (lengths-bits st us main.coded) ∙ ap lengths main.side_is in
    let m = 4 + side_bytes st.channels in
    let front : take m bytes ≡ head_of st n f = head.front ∙ (ap (front_of st n side.0) (sym main.side_is) ∙ (front_same st n side.0 us ∙ (ap (front_of st n side.0) (sym (units_of-placed st.channels us number)) ∙ sym (head_of-is st n f)))) in
    let later : drop (slot_bytes_of st n) (drop m bytes) ≡ drop (frame_bytes_of st n) bytes = drop-drop (slot_bytes_of st n) m bytes ∙ ap (λ k. drop k bytes) (sym (frame_size st n)) in
    let back : drop m bytes ≡ packed slot ++ drop (frame_bytes_of st n) bytes = sym (take-append-drop (slot_bytes_of st n) (drop m bytes)) ∙ (ap (λ l. l ++ drop (slot_bytes_of st n) (drop m bytes)) (sym (slot_packed st n bytes all)) ∙ ap (λ l. packed slot ++ l) later) in
    let small = head.small in
    let within = main.within in
    record {
      fit = record { coded = coded_frame st side.0 us number main.coded; small = omega arith; reached = main.reached; after = main.after; within = omega (arith, ap length codes, size) };
      slot = slot;
      size = slot_size st n bytes head.enough;
      text = sym (take-append-drop m bytes) ∙ (ap (λ l. l ++ drop m bytes) front ∙ ap (λ l. head_of st n f ++ l) back);
      tape = main.tape ∙ ap (λ l. replicate (start_of st n side.0 - p.end) false ++ (l ++ (next_place st p side slot).rest)) (sym codes);
    }

pub frame_end : (st : Settings) (p : Place) (bytes : List ℕ) (side : ℕ × List Unit) (us : List Unit) → IsHead st p.number bytes side → IsMain st p side (slot_at st p.number bytes) us
    → (next_place st p side (slot_at st p.number bytes)).end ≡ end_of st p.number (frame_of st.channels side.0 us)
frame_end st p bytes side us head main =
    let number : length us ≡ units_number st.channels = sym (map-length us) ∙ (ap length main.side_is ∙ head.number) in
    let codes : code_bits st (frame_of st.channels side.0 us) ≡ units_bits st us = code_bits-frame_of st side.0 us number in
    let size : length (units_bits st us) ≡ lengths side.1 = sym (lengths-bits st us main.coded) ∙ ap lengths main.side_is in
    next_end st p side (slot_at st p.number bytes) ∙ ap (λ k. start_of st p.number side.0 + k) (sym size ∙ ap length (sym codes))

-- what reading finds of a frame that stands there
pub record IsFound (st : Settings) (p : Place) (f : ChosenFrame) (bytes : List ℕ) (rest : List Bool) (more : List ℕ) : Type 0 where
  pub side : ℕ × List Unit
  pub units : List Unit
  pub head : head_at st p bytes ≡ Ok side
  pub main : main_at st p side (slot_at st p.number bytes) ≡ Ok units
  pub frame : frame_of st.channels side.0 units ≡ f
  pub place : IsPlace st (next_place st p side (slot_at st p.number bytes))
  pub end : (next_place st p side (slot_at st p.number bytes)).end ≡ end_of st p.number f
  pub tape : (next_place st p side (slot_at st p.number bytes)).rest ≡ rest
  pub left : drop (frame_bytes_of st p.number) bytes ≡ more

slot_found : (st : Settings) (n : ℕ) (front : List ℕ) (slot : List Bool) (more : List ℕ) → length front ≡ 4 + side_bytes st.channels → length slot ≡ 8 * slot_bytes_of st n → slot_at st n (front ++ (packed slot ++ more)) ≡ slot
unfolding slot_at
slot_found st n front slot more size wide =
    ap (λ l. bits_of (take (slot_bytes_of st n) l)) (drop_at front (packed slot ++ more) (4 + side_bytes st.channels) size)
    ∙ (ap bits_of (take_at (packed slot) more (slot_bytes_of st n) (packed-length (slot_bytes_of st n) slot wide)) ∙ bits_of-packed slot (slot_bytes_of st n) wide)

left_found : (st : Settings) (n : ℕ) (front : List ℕ) (slot : List Bool) (more : List ℕ) → length front ≡ 4 + side_bytes st.channels → length slot ≡ 8 * slot_bytes_of st n → drop (frame_bytes_of st n) (front ++ (packed slot ++ more)) ≡ more
left_found st n front slot more size wide =
    ap (λ l. drop (frame_bytes_of st n) l) (sym (append_assoc front (packed slot) more))
    ∙ drop_at (front ++ packed slot) more (frame_bytes_of st n) (omega (arith, length-append front (packed slot), packed-length (slot_bytes_of st n) slot wide, frame_size st n))

abbrev again_of : ChosenFrame → List (List Unit) → ChosenFrame
again_of f l = record { begin = f.begin; units = l }

pub frame_again : (st : Settings) (p : Place) (f : ChosenFrame) (bytes : List ℕ) (rest : List Bool) (more : List ℕ) → IsPlace st p → FrameStands st p f bytes rest more → IsFound st p f bytes rest more
frame_again st p f bytes rest more place stands =
    let n = p.number in
    let us = units_of st.channels f.units in
    let fit = stands.fit in
    let coded = fit.coded in
    let slot = stands.slot in
    let side : ℕ × List Unit = (f.begin, map stripped us) in
    let front = front_of st n f.begin us in
    let text : bytes ≡ front ++ (packed slot ++ more) = stands.text ∙ ap (λ l. l ++ (packed slot ++ more)) (head_of-is st n f) in
    let size : length front ≡ 4 + side_bytes st.channels = front-length st n f.begin us coded.number in
    let found : slot_at st n bytes ≡ slot = ap (slot_at st n) text ∙ slot_found st n front slot more size stands.size in
    let laid : p.rest ++ slot ≡ replicate (start_of st n f.begin - p.end) false ++ (units_bits st us ++ rest) = stands.tape ∙ ap (λ l. replicate (start_of st n f.begin - p.end) false ++ (l ++ rest)) (code_bits-is st f) in
    let total : lengths (map stripped us) ≡ length (code_bits st f) = lengths-bits st us coded.units ∙ ap length (sym (code_bits-is st f)) in
    let small = fit.small in
    let within' = fit.within in
    let within : start_of st n f.begin + lengths (map stripped us) ≤ 8 * slots_before st (suc n) = omega arith in
    let head : head_at st p bytes ≡ Ok side = ap (head_at st p) text ∙ head_again st p f.begin us (packed slot ++ more) (omega arith) coded.number coded.units (omega (arith, length-append (packed slot) more, packed-length (slot_bytes_of st n) slot stands.size)) in
    record {
      side = side;
      units = us;
      head = head;
      main = ap (main_at st p side) found ∙ main_again st p f.begin us slot rest place stands.size coded.units fit.reached fit.after within laid;
      frame = ap (λ l. again_of f l) (sym coded.shape);
      place = subst (λ (l : List Bool). IsPlace st (next_place st p side l)) (sym found) (next_is_place st p side slot place stands.size fit.reached fit.after within);
      end = next_end st p side (slot_at st n bytes) ∙ ap (λ k. start_of st n f.begin + k) total;
      tape = ap (λ l. (next_place st p side l).rest) found ∙ next_rest_again st p f.begin us slot rest coded.units laid;
      left = ap (λ l. drop (frame_bytes_of st n) l) text ∙ left_found st n front slot more size stands.size;
    }
