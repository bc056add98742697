-- Frames one after the other: what is read is spelled so, and what is spelled so is read.
use Rattle.std.proofs.Common.{◌≡◌, ℕ, zero, suc, ◌+◌, ◌-◌, ◌*◌, ◌^◌, ◌<◌, ◌≤◌, Bool, false, List, [], ◌∷◌, ◌++◌, length, replicate, take, drop, Ok, refl, sym, ap, subst, ◌∙◌, arith, append_assoc, length-append}
use Rattle.std.proofs.lemmas.List.{take_at, drop_at, take-append-drop, length-take-le, length-replicate, append-nil, nil_from_length}
use Rattle.std.proofs.lemmas.List.Elements.{All-drop}
use Rattle.l3_bits.specs.Bits.{packed}
use Rattle.l3_base.specs.declared.settings.Settings.{Settings}
use Rattle.l3_base.specs.Lengths.{frame_bytes_of, slot_bytes_of, slots_before}
use Rattle.l3_stream.specs.declared.unit.ChosenFrame.{ChosenFrame}
use Rattle.l3_stream.specs.Frames.{code_bits, units_of}
use Rattle.l3_stream.specs.Tape.{start_of, end_of, tape_from, FitsAt, FramesFit, head_of, heads_of, joined}
use Rattle.l3_stream.specs.Faults.{◌>>=◌, clear}
use Rattle.l3_stream.specs.Deviation.{Place, head_at, main_at, slot_at, next_place, frames_from}
use Rattle.l3_stream.proofs.Steps.{bind_ok, ok_is, clear_ok, clear_again}
use Rattle.l3_stream.proofs.Packing.{packed-append, packed-length}
use Rattle.l3_stream.proofs.Header.{slots-grow}
use Rattle.l3_stream.proofs.Tape.{slots-suc, tape-length}
use Rattle.l3_stream.proofs.FrameReading.{AreBytes, IsPlace, head_takes, main_takes, next_is_place, next_number, front-length}
use Rattle.l3_stream.proofs.WholeFrame.{FrameStands, IsFound, frame_takes, frame_end, frame_again, frame_of, slot_size, head_of-is}

-- ---- what is read

pub record AreFrames (st : Settings) (n end : ℕ) (before : List Bool) (limit : ℕ) (bytes : List ℕ) (fs : List ChosenFrame) : Type 0 where
  pub few : length fs ≤ limit
  pub fit : FramesFit st n end fs
  pub tape : List Bool
  pub laid : tape_from st n end fs ≡ before ++ tape
  pub text : bytes ≡ joined st n (heads_of st n fs) (packed tape)

ended : (st : Settings) (p : Place) (limit : ℕ) (fs : List ChosenFrame) → IsPlace st p → (clear p.end p.rest >>= λ _. Ok []) ≡ Ok fs → AreFrames st p.number p.end p.rest limit [] fs
ended st p limit fs place e =
    let a = bind_ok (clear p.end p.rest) (λ _. Ok []) fs e in
    let zeros = clear_ok p.end p.rest a.0 a.1 in
    let size : 8 * slots_before st p.number - p.end ≡ length p.rest = omega (arith, place.size) in
    subst (AreFrames st p.number p.end p.rest limit []) (ok_is [] fs a.2) (record {
      few = omega arith;
      fit = tt;
      tape = [];
      laid = ap (λ k. replicate k false) size ∙ (sym zeros ∙ sym (append-nil p.rest));
      text = refl;
    })

-- one frame in front of those that were read
joined_front : (st : Settings) (p : Place) (f : ChosenFrame) (fs : List ChosenFrame) (bytes more : List ℕ) (q : Place) (limit : ℕ) → FrameStands st p f bytes q.rest more → AreFrames st (suc p.number) (end_of st p.number f) q.rest limit more fs
    → AreFrames st p.number p.end p.rest (suc limit) bytes (f ∷ fs)
joined_front st p f fs bytes more q limit stands others =
    let n = p.number in
    let gap = replicate (start_of st n f.begin - p.end) false in
    let codes = code_bits st f in
    let few = others.few in
    let size = packed-length (slot_bytes_of st n) stands.slot stands.size in
    let parts = packed-append (slot_bytes_of st n) stands.slot others.tape stands.size in
    let later = joined st (suc n) (heads_of st (suc n) fs) in
    let cut : take (slot_bytes_of st n) (packed (stands.slot ++ others.tape)) ≡ packed stands.slot = ap (take (slot_bytes_of st n)) parts ∙ take_at (packed stands.slot) (packed others.tape) (slot_bytes_of st n) size in
    let left : drop (slot_bytes_of st n) (packed (stands.slot ++ others.tape)) ≡ packed others.tape = ap (drop (slot_bytes_of st n)) parts ∙ drop_at (packed stands.slot) (packed others.tape) (slot_bytes_of st n) size in
    record {
      few = omega arith;
      fit = (stands.fit, others.fit);
      tape = stands.slot ++ others.tape;
      laid = ap (λ l. gap ++ (codes ++ l)) others.laid
          ∙ (ap (λ l. gap ++ l) (sym (append_assoc codes q.rest others.tape))
          ∙ (sym (append_assoc gap (codes ++ q.rest) others.tape)
          ∙ (ap (λ l. l ++ others.tape) (sym stands.tape) ∙ append_assoc p.rest stands.slot others.tape)));
      text = stands.text ∙ ap (λ l. head_of st n f ++ (packed stands.slot ++ l)) others.text
          ∙ (ap (λ l. head_of st n f ++ (l ++ later (packed others.tape))) (sym cut) ∙ ap (λ l. head_of st n f ++ (take (slot_bytes_of st n) (packed (stands.slot ++ others.tape)) ++ later l)) (sym left));
    }

pub frames_take : (st : Settings) (limit : ℕ) (p : Place) (bytes : List ℕ) (fs : List ChosenFrame) → IsPlace st p → AreBytes bytes → frames_from st limit p bytes ≡ Ok fs → AreFrames st p.number p.end p.rest limit bytes fs
unfolding frames_from
frames_take st zero p [] fs place all e = ended st p 0 fs place e
frames_take st (suc limit) p [] fs place all e = ended st p (suc limit) fs place e
frames_take st zero p (h ∷ bytes) fs place all e = absurd cc
frames_take st (suc limit) p (h ∷ bytes) fs place all e =
    let n = p.number in
    let whole = h ∷ bytes in
    let slot = slot_at st n whole in
    let left = drop (frame_bytes_of st n) whole in
    let a = bind_ok (head_at st p whole) (λ side. main_at st p side slot >>= λ units. frames_from st limit (next_place st p side slot) left >>= λ others. Ok (frame_of st.channels side.0 units ∷ others)) fs e in
    let b = bind_ok (main_at st p a.0 slot) (λ units. frames_from st limit (next_place st p a.0 slot) left >>= λ others. Ok (frame_of st.channels a.0.0 units ∷ others)) fs a.2 in
    let c = bind_ok (frames_from st limit (next_place st p a.0 slot) left) (λ others. Ok (frame_of st.channels a.0.0 b.0 ∷ others)) fs b.2 in
    let head = head_takes st p whole a.0 all a.1 in
    let main = main_takes st p a.0 slot b.0 place (slot_size st n whole head.enough) head.units b.1 in
    let stands = frame_takes st p whole a.0 b.0 place all head main in
    let f = frame_of st.channels a.0.0 b.0 in
    let q = next_place st p a.0 slot in
    let next = next_is_place st p a.0 slot place (slot_size st n whole head.enough) main.reached main.after main.within in
    let others = frames_take st limit q left c.0 next (All-drop (λ byte. byte < 2 ^ 8) (frame_bytes_of st n) whole all) c.1 in
    let end : q.end ≡ end_of st n f = frame_end st p whole a.0 b.0 head main in
    let moved : AreFrames st (suc n) (end_of st n f) q.rest limit left c.0 = subst (λ (k : ℕ). AreFrames st (suc n) k q.rest limit left c.0) end (subst (λ (k : ℕ). AreFrames st k q.end q.rest limit left c.0) (next_number st p a.0 slot) others) in
    subst (AreFrames st n p.end p.rest (suc limit) whole) (ok_is (f ∷ c.0) fs c.2) (joined_front st p f c.0 whole left q limit stands moved)

-- ---- what is spelled

frames_more : (st : Settings) (limit : ℕ) (p : Place) (f : ChosenFrame) (bytes more : List ℕ) (rest : List Bool) (others : List ChosenFrame) → 0 < length bytes → (found : IsFound st p f bytes rest more)
    → frames_from st limit (next_place st p found.side (slot_at st p.number bytes)) more ≡ Ok others → frames_from st (suc limit) p bytes ≡ Ok (f ∷ others)
unfolding frames_from ◌>>=◌
frames_more st limit p f [] more rest others some found e = absurd (omega arith)
frames_more st limit p f (h ∷ bytes) more rest others some found e =
    let later : frames_from st limit (next_place st p found.side (slot_at st p.number (h ∷ bytes))) (drop (frame_bytes_of st p.number) (h ∷ bytes)) ≡ Ok others = ap (frames_from st limit (next_place st p found.side (slot_at st p.number (h ∷ bytes)))) found.left ∙ e in
    rw (found.head, found.main, later) (ap (λ g. Ok (g ∷ others)) found.frame)

frames_none : (st : Settings) (limit : ℕ) (p : Place) → clear p.end p.rest ≡ Ok tt → frames_from st limit p [] ≡ Ok []
unfolding frames_from ◌>>=◌
frames_none st zero p e = rw e refl
frames_none st (suc limit) p e = rw e refl

-- two ways to cut one list
record IsCut (a t b t' : List Bool) : Type 0 where
  longer : b ≡ a ++ drop (length a) b
  shorter : t ≡ drop (length a) b ++ t'

cut_of : (a t b t' : List Bool) → a ++ t ≡ b ++ t' → length a ≤ length b → IsCut a t b t'
cut_of [] t b t' e le = record { longer = refl; shorter = e }
cut_of (x ∷ a) t [] t' e le = absurd (omega arith)
cut_of (x ∷ a) t (y ∷ b) t' e le =
    let same : x ≡ y = cc in
    let more : a ++ t ≡ b ++ t' = cc in
    let cut = cut_of a t b t' more (omega arith) in
    record { longer = ap (λ z. z ∷ b) (sym same) ∙ ap (λ l. x ∷ l) cut.longer; shorter = cut.shorter }

record HasFrame (st : Settings) (p : Place) (f : ChosenFrame) (fs : List ChosenFrame) (bytes : List ℕ) (limit : ℕ) : Type 0 where
  rest : List Bool
  more : List ℕ
  stands : FrameStands st p f bytes rest more
  others : AreFrames st (suc p.number) (end_of st p.number f) rest limit more fs

has_frame : (st : Settings) (p : Place) (f : ChosenFrame) (fs : List ChosenFrame) (bytes : List ℕ) (limit : ℕ) → IsPlace st p → AreFrames st p.number p.end p.rest (suc limit) bytes (f ∷ fs) → HasFrame st p f fs bytes limit
has_frame st p f fs bytes limit place all =
    let n = p.number in
    let fit : FitsAt st n p.end f = all.fit.0 in
    let after = fit.after in
    let within = fit.within in
    let few = all.few in
    let gap = replicate (start_of st n f.begin - p.end) false in
    let codes = code_bits st f in
    let later = tape_from st (suc n) (end_of st n f) fs in
    let width = 8 * slot_bytes_of st n in
    let slot = take width all.tape in
    let tape = drop width all.tape in
    let whole : slot ++ tape ≡ all.tape = take-append-drop width all.tape in
    let enough : width ≤ length all.tape = omega (
      arith,
      place.size,
      tape-length st (suc n) (end_of st n f) fs all.fit.1 within,
      ap length all.laid,
      length-append p.rest all.tape,
      length-append gap (codes ++ later),
      length-append codes later,
      length-replicate (start_of st n f.begin - p.end) false,
      slots-grow st (suc n) (length fs),
      slots-suc st n,
    ) in
    let size : length slot ≡ width = length-take-le width all.tape enough in
    let front : (gap ++ codes) ++ later ≡ (p.rest ++ slot) ++ tape = append_assoc gap codes later ∙ (all.laid ∙ (ap (λ l. p.rest ++ l) (sym whole) ∙ sym (append_assoc p.rest slot tape))) in
    let reach : length (gap ++ codes) ≤ length (p.rest ++ slot) = omega (arith, size, place.size, slots-suc st n, length-append gap codes, length-append p.rest slot, length-replicate (start_of st n f.begin - p.end) false) in
    let cut = cut_of (gap ++ codes) later (p.rest ++ slot) tape front reach in
    let bytes_of_slot = packed-length (slot_bytes_of st n) slot size in
    let parts : packed all.tape ≡ packed slot ++ packed tape = ap packed (sym whole) ∙ packed-append (slot_bytes_of st n) slot tape size in
    let next = joined st (suc n) (heads_of st (suc n) fs) in
    let first : take (slot_bytes_of st n) (packed all.tape) ≡ packed slot = ap (take (slot_bytes_of st n)) parts ∙ take_at (packed slot) (packed tape) (slot_bytes_of st n) bytes_of_slot in
    let second : drop (slot_bytes_of st n) (packed all.tape) ≡ packed tape = ap (drop (slot_bytes_of st n)) parts ∙ drop_at (packed slot) (packed tape) (slot_bytes_of st n) bytes_of_slot in
    record {
      rest = drop (length (gap ++ codes)) (p.rest ++ slot);
      more = next (packed tape);
      stands = record {
        fit = fit;
        slot = slot;
        size = size;
        text = all.text ∙ (ap (λ l. head_of st n f ++ (l ++ next (drop (slot_bytes_of st n) (packed all.tape)))) first ∙ ap (λ l. head_of st n f ++ (packed slot ++ next l)) second);
        tape = cut.longer ∙ append_assoc gap codes (drop (length (gap ++ codes)) (p.rest ++ slot));
      };
      others = record { few = omega arith; fit = all.fit.1; tape = tape; laid = cut.shorter; text = refl };
    }

pub frames_again : (st : Settings) (limit : ℕ) (p : Place) (bytes : List ℕ) (fs : List ChosenFrame) → IsPlace st p → AreFrames st p.number p.end p.rest limit bytes fs → frames_from st limit p bytes ≡ Ok fs
frames_again st limit p bytes [] place all =
    let size : length p.rest + p.end ≡ 8 * slots_before st p.number = place.size in
    let nothing : all.tape ≡ [] = nil_from_length all.tape (omega (arith, ap length all.laid, length-append p.rest all.tape, length-replicate (8 * slots_before st p.number - p.end) false)) in
    let zeros : replicate (8 * slots_before st p.number - p.end) false ≡ p.rest = all.laid ∙ (ap (λ l. p.rest ++ l) nothing ∙ append-nil p.rest) in
    ap (frames_from st limit p) all.text ∙ frames_none st limit p (ap (clear p.end) (sym zeros) ∙ clear_again p.end (8 * slots_before st p.number - p.end))
frames_again st zero p bytes (f ∷ fs) place all = let few = all.few in absurd (omega arith)
frames_again st (suc limit) p bytes (f ∷ fs) place all =
    let n = p.number in
    let has = has_frame st p f fs bytes limit place all in
    let stands = has.stands in
    let fit : FitsAt st n p.end f = stands.fit in
    let coded = fit.coded in
    let found = frame_again st p f bytes has.rest has.more place stands in
    let q = next_place st p found.side (slot_at st n bytes) in
    let moved : AreFrames st q.number q.end q.rest limit has.more fs =
    subst (λ (k : ℕ). AreFrames st k q.end q.rest limit has.more fs) (sym (next_number st p found.side (slot_at st n bytes)))
    (subst (λ (k : ℕ). AreFrames st (suc n) k q.rest limit has.more fs) (sym found.end)
    (subst (λ (l : List Bool). AreFrames st (suc n) (end_of st n f) l limit has.more fs) (sym found.tape) has.others)) in
    let some : 0 < length bytes = omega (arith, ap length stands.text, length-append (head_of st n f) (packed stands.slot ++ has.more), ap length (head_of-is st n f), front-length st n f.begin (units_of st.channels f.units) coded.number) in
    frames_more st limit p f bytes has.more has.rest fs some found (frames_again st limit q has.more fs found.place moved)
