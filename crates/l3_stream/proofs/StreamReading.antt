-- Whole streams: what is read is spelled so, and what is spelled so is read.
use Rattle.std.proofs.Common.{◌≡◌, ℕ, zero, suc, ◌+◌, ◌≤◌, leb, List, [], ◌∷◌, ◌++◌, length, take, drop, Some, None, Result, Ok, Err, refl, sym, ap, subst, ◌∙◌, arith, append_assoc, length-append}
use Rattle.std.specs.Prelude.{◌≢◌}
use Rattle.std.proofs.lemmas.List.{take_at}
use Rattle.std.proofs.lemmas.Bool.{le-leb}
use Rattle.l3_bits.specs.Bits.{packed, bits_of}
use Rattle.l3_bits.proofs.Bytes.{bits_of-packed}
use Rattle.l3_base.specs.declared.settings.Settings.{Settings}
use Rattle.l3_base.specs.declared.rate.Rate.TheVariants.{K32}
use Rattle.l3_base.specs.declared.rate.SampleRate.TheVariants.{Hz44100}
use Rattle.l3_base.specs.declared.rate.Channels.TheVariants.{Mono}
use Rattle.l3_base.specs.Lengths.{slot_bytes_of, slots_before}
use Rattle.l3_stream.specs.declared.fault.StreamFault.{StreamFault}
use Rattle.l3_stream.specs.declared.fault.StreamFault.TheVariants as faults
use Rattle.l3_stream.specs.declared.unit.ChosenFrame.{ChosenFrame}
use Rattle.l3_stream.specs.Frames.{units_of}
use Rattle.l3_stream.specs.Header.{header_at, settings_at}
use Rattle.l3_stream.specs.Side.{side_bits}
use Rattle.l3_stream.specs.Tape.{tape_from, FitsAt, head_of, heads_of, joined, Spells}
use Rattle.l3_stream.specs.Faults.{◌>>=◌, checked, or_fault}
use Rattle.l3_stream.specs.Deviation.{frames_from, first_place, Content, content_of, reading_of, fault_in, deviation_of}
use Rattle.l3_stream.specs.StreamLaws.{AreSame, IsContent, DeviatesExactly}
use Rattle.l3_stream.proofs.Steps.{bind_ok, ok_is, checked_again, or_fault_again}
use Rattle.l3_stream.proofs.Packing.{packed-length}
use Rattle.l3_stream.proofs.Header.{header-length, settings_again}
use Rattle.l3_stream.proofs.FrameReading.{AreBytes, IsPlace, front-length}
use Rattle.l3_stream.proofs.WholeFrame.{head_of-is}
use Rattle.l3_stream.proofs.FramesReading.{AreFrames, frames_take, frames_again}

start_place : (st : Settings) → IsPlace st first_place
unfolding slots_before
start_place st = record { size = refl }

none_before : (st : Settings) → slots_before st 0 ≡ 0
unfolding slots_before
none_before st = refl

some_settings : Settings
some_settings = record { rate = K32; sample_rate = Hz44100; channels = Mono }

abbrev content_with : Settings → List ChosenFrame → Content
content_with st fs = record { settings = Some st; frames = fs }

-- bytes that are read have a frame, where there is a byte
content_some : (st : Settings) (fs : List ChosenFrame) (h : ℕ) (bytes tape : List ℕ) → h ∷ bytes ≡ joined st 0 (heads_of st 0 fs) tape → content_with st fs ≡ content_of st fs
content_some st [] h bytes tape e = absurd cc
content_some st (f ∷ fs) h bytes tape e = refl

pub reading_takes : (limit : ℕ) (bytes : List ℕ) (r : Content) → AreBytes bytes → reading_of limit bytes ≡ Ok r → IsContent limit bytes r
unfolding reading_of
reading_takes limit [] r all e = subst (IsContent limit []) (ok_is (record { settings = None; frames = [] }) r e) (record { settings = some_settings; few = omega arith; spells = record { fit = tt; text = refl }; same = refl })
reading_takes zero (h ∷ bytes) r all e = absurd cc
reading_takes (suc limit) (h ∷ bytes) r all e =
    let whole = h ∷ bytes in
    let a = bind_ok (checked (leb 4 (length whole)) (faults.ShortFrame 0)) (λ _. or_fault (faults.BadHeader 0) (settings_at (bits_of (take 4 whole))) >>= λ st. frames_from st (suc limit) first_place whole >>= λ frames. Ok (record { settings = Some st; frames = frames })) r e in
    let b = bind_ok (or_fault (faults.BadHeader 0) (settings_at (bits_of (take 4 whole)))) (λ st. frames_from st (suc limit) first_place whole >>= λ frames. Ok (record { settings = Some st; frames = frames })) r a.2 in
    let c = bind_ok (frames_from b.0 (suc limit) first_place whole) (λ frames. Ok (record { settings = Some b.0; frames = frames })) r b.2 in
    let are = frames_take b.0 (suc limit) first_place whole c.0 (start_place b.0) all c.1 in
    subst (IsContent (suc limit) whole) (ok_is (record { settings = Some b.0; frames = c.0 }) r c.2) (record {
      settings = b.0;
      few = are.few;
      spells = record { fit = are.fit; text = are.text ∙ ap (λ l. joined b.0 0 (heads_of b.0 0 c.0) (packed l)) (sym are.laid) };
      same = content_some b.0 c.0 h bytes (packed are.tape) are.text;
    })

reading_more : (limit : ℕ) (bytes : List ℕ) (st : Settings) (fs : List ChosenFrame) → 4 ≤ length bytes → settings_at (bits_of (take 4 bytes)) ≡ Some st → frames_from st (suc limit) first_place bytes ≡ Ok fs → reading_of (suc limit) bytes ≡ Ok (record { settings = Some st; frames = fs })
unfolding reading_of ◌>>=◌
reading_more limit [] st fs four is e = absurd (omega arith)
reading_more limit (h ∷ bytes) st fs four is e =
    rw (checked_again (leb 4 (length (h ∷ bytes))) (faults.ShortFrame 0) (le-leb _ _ four), or_fault_again (faults.BadHeader 0) (settings_at (bits_of (take 4 (h ∷ bytes)))) st is, e) refl

front_header : (st : Settings) (n : ℕ) (f : ChosenFrame) (rest : List ℕ) → bits_of (take 4 (head_of st n f ++ rest)) ≡ header_at st n
unfolding head_of
front_header st n f rest =
    let h = packed (header_at st n) in
    let s = packed (side_bits st.channels f.begin (units_of st.channels f.units)) in
    ap (λ l. bits_of (take 4 l)) (append_assoc h s rest) ∙ (ap bits_of (take_at h (s ++ rest) 4 (packed-length 4 (header_at st n) (header-length st n))) ∙ bits_of-packed (header_at st n) 4 (header-length st n))

reading_none : (limit : ℕ) → reading_of limit [] ≡ Ok (record { settings = None; frames = [] })
unfolding reading_of
reading_none zero = refl
reading_none (suc limit) = refl

pub reading_again : (limit : ℕ) (bytes : List ℕ) (st : Settings) (fs : List ChosenFrame) → length fs ≤ limit → Spells bytes st fs → reading_of limit bytes ≡ Ok (content_of st fs)
reading_again limit bytes st [] few spells = ap (reading_of limit) spells.text ∙ reading_none limit
reading_again zero bytes st (f ∷ fs) few spells = absurd (omega arith)
reading_again (suc limit) bytes st (f ∷ fs) few spells =
    let fit : FitsAt st 0 0 f = spells.fit.0 in
    let coded = fit.coded in
    let tape = packed (tape_from st 0 0 (f ∷ fs)) in
    let rest = take (slot_bytes_of st 0) tape ++ joined st 1 (heads_of st 1 fs) (drop (slot_bytes_of st 0) tape) in
    let four : 4 ≤ length bytes = omega (arith, ap length spells.text, length-append (head_of st 0 f) rest, ap length (head_of-is st 0 f), front-length st 0 f.begin (units_of st.channels f.units) coded.number) in
    let is : settings_at (bits_of (take 4 bytes)) ≡ Some st = ap (λ l. settings_at (bits_of (take 4 l))) spells.text ∙ (ap settings_at (front_header st 0 f rest) ∙ settings_again st) in
    let all : AreFrames st 0 0 [] (suc limit) bytes (f ∷ fs) = record { few = few; fit = spells.fit; tape = tape_from st 0 0 (f ∷ fs); laid = refl; text = spells.text } in
    reading_more limit bytes st (f ∷ fs) four is (frames_again st (suc limit) first_place bytes (f ∷ fs) (start_place st) all)

-- ---- the laws

content_of-frames : (st : Settings) (fs : List ChosenFrame) → (content_of st fs).frames ≡ fs
content_of-frames st [] = refl
content_of-frames st (f ∷ fs) = refl

settings_same : (st st' : Settings) (fs fs' : List ChosenFrame) → content_of st fs ≡ content_of st' fs' → fs ≢ [] → st ≡ st'
settings_same st st' [] fs' e some = absurd (some refl)
settings_same st st' (f ∷ fs) [] e some = let bad : Some st ≡ None = ap (λ r. r.settings) e in absurd cc
settings_same st st' (f ∷ fs) (g ∷ fs') e some = let same : Some st ≡ Some st' = ap (λ r. r.settings) e in cc

pub one_reading : (bytes : List ℕ) (st st' : Settings) (fs fs' : List ChosenFrame) → Spells bytes st fs → Spells bytes st' fs' → AreSame st st' fs fs'
one_reading bytes st st' fs fs' one other =
    let limit = length fs + length fs' in
    let same : content_of st fs ≡ content_of st' fs' = ok_is (content_of st fs) (content_of st' fs') (sym (reading_again limit bytes st fs (omega arith) one) ∙ reading_again limit bytes st' fs' (omega arith) other) in
    record {
      frames = sym (content_of-frames st fs) ∙ (ap (λ r. r.frames) same ∙ content_of-frames st' fs');
      settings = settings_same st st' fs fs' same;
    }

ok_of : (r : Result Content StreamFault) → fault_in r ≡ None → (x : Content) × (r ≡ Ok x)
ok_of (Ok x) e = (x, refl)
ok_of (Err d) e = absurd cc

pub deviates_exactly : (limit : ℕ) (bytes : List ℕ) → AreBytes bytes → DeviatesExactly limit bytes
unfolding deviation_of
deviates_exactly limit bytes all = record {
  only = λ e.
      let r = ok_of (reading_of limit bytes) e in
      let is = reading_takes limit bytes r.0 all r.1 in
      record { settings = is.settings; frames = r.0.frames; few = is.few; spells = is.spells };
  there = λ is. ap fault_in (reading_again limit bytes is.settings is.frames is.few is.spells);
  read = λ content e. reading_takes limit bytes content all e;
  found = λ st fs few spells. reading_again limit bytes st fs few spells;
}
