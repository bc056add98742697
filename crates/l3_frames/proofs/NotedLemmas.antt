-- A frame that was pushed changes nothing of what is owed.
use Rattle.std.proofs.Common.{◌≡◌, ℕ, suc, ◌+◌, ◌-◌, ◌*◌, ◌≤◌, Bool, false, List, [], ◌∷◌, ◌++◌, length, take, drop, replicate, refl, sym, ap, ◌∙◌, arith, append_assoc, length-append, add-one}
use Rattle.std.proofs.lemmas.List.{length-replicate, take-append-le}
use Rattle.l3_bits.specs.Bits.{bits_of, packed}
use Rattle.l3_bits.proofs.Places.{length-bits_of}
use Rattle.l3_base.specs.Lengths.{slots_before, slot_bytes_of}
use Rattle.l3_stream.specs.declared.unit.ChosenFrame.{ChosenFrame}
use Rattle.l3_stream.specs.Frames.{code_bits}
use Rattle.l3_stream.specs.Tape.{start_of, end_of, head_of, heads_of, FitsAt, tape_from, joined}
use Rattle.l3_stream.proofs.Tape.{slots-suc}
use Rattle.l3_frames.specs.Writing.{Writing, first_of, open_from, owed, FitBehind}
use Rattle.l3_frames.specs.Laying.{laid_over}
use Rattle.l3_frames.specs.Pending.{given_bytes, reached_bits, IsWriting, IsPushed}
use Rattle.l3_bits.proofs.Bytes.{bits_of-append}
use Rattle.l3_frames.proofs.TapeLemmas.{start-is, tape-later, zeros_further, zeros_longer, take_zeros, laid_over-length, laid_over-drop, laid_over-take, bits_of-zeros}

-- where a frame's codes are laid over the slots that are not given yet, and what stands there
-- before
pub record HasPlace (w : Writing) (f : ChosenFrame) : Type 0 where
  pub at : ℕ
  pub is : at ≡ start_of w.settings w.frames f.begin - 8 * given_bytes w
  pub start : 8 * given_bytes w + at ≡ start_of w.settings w.frames f.begin
  pub byte : at ≡ 8 * (length w.slots - f.begin)
  pub begin : f.begin ≤ length w.slots
  pub within : at ≤ 8 * length w.slots
  pub reached : reached_bits w ≤ at
  pub later : open_from w.settings w.frames w.end ≤ start_of w.settings w.frames f.begin
  pub opened : 8 * given_bytes w ≤ open_from w.settings w.frames w.end
  pub fits : at + length (code_bits w.settings f) ≤ 8 * (length w.slots + slot_bytes_of w.settings w.frames)

pub has_place : (w : Writing) (f : ChosenFrame) → IsWriting w → FitsAt w.settings w.frames w.end f → HasPlace w f
has_place w f sound fit =
    let start = start-is w.settings w.frames f.begin in
    let slots = sound.slots in
    let near = sound.near in
    let small = fit.small in
    let reached = fit.reached in
    let after = fit.after in
    let within = fit.within in
    let next = slots-suc w.settings w.frames in
    record {
      at = start_of w.settings w.frames f.begin - 8 * given_bytes w;
      is = refl;
      start = omega arith;
      byte = omega arith;
      begin = omega arith;
      within = omega arith;
      reached = omega arith;
      later = omega arith;
      opened = omega arith;
      fits = omega arith;
    }

-- the slots with the new one, before its codes are laid
abbrev pub with_slot : Writing → List Bool
with_slot w = bits_of (w.slots ++ replicate (slot_bytes_of w.settings w.frames) 0)

pub record IsLonger (w : Writing) : Type 0 where
  pub size : length (with_slot w) ≡ 8 * (length w.slots + slot_bytes_of w.settings w.frames)
  pub parts : with_slot w ≡ bits_of w.slots ++ replicate (8 * slot_bytes_of w.settings w.frames) false
  pub zeros : drop (reached_bits w) (with_slot w) ≡ replicate (8 * (length w.slots + slot_bytes_of w.settings w.frames) - reached_bits w) false

pub is_longer : (w : Writing) → IsWriting w → IsLonger w
is_longer w sound =
    let slot = slot_bytes_of w.settings w.frames in
    let size : length (bits_of w.slots) ≡ 8 * length w.slots = length-bits_of w.slots in
    let parts : with_slot w ≡ bits_of w.slots ++ replicate (8 * slot) false = bits_of-append w.slots (replicate slot 0) ∙ ap (λ l. bits_of w.slots ++ l) (bits_of-zeros slot) in
    let slots = sound.slots in
    let end = sound.end in
    let within : reached_bits w ≤ 8 * length w.slots = omega arith in
    let sum : 8 * length w.slots + 8 * slot - reached_bits w ≡ 8 * (length w.slots + slot) - reached_bits w = omega arith in
    record {
      size = omega (arith, length-bits_of (w.slots ++ replicate slot 0), length-append w.slots (replicate slot 0), length-replicate {A = ℕ} slot 0);
      parts = parts;
      zeros = ap (drop (reached_bits w)) parts
          ∙ (zeros_longer (bits_of w.slots) (reached_bits w) (8 * length w.slots) (8 * slot) size within sound.zeros ∙ ap (λ k. replicate k false) sum);
    }

same_first : (w now : Writing) (f : ChosenFrame) → IsWriting w → IsPushed w f now → first_of now ≡ first_of w
same_first w now f sound noted =
    let heads = sound.heads in
    let frames = noted.frames in
    omega (arith, ap length noted.heads, length-append w.heads (head_of w.settings w.frames f ∷ []))

pub same_given : (w now : Writing) (f : ChosenFrame) → IsWriting w → IsPushed w f now → given_bytes now ≡ given_bytes w
same_given w now f sound noted =
    ap (λ st. slots_before st (first_of now)) noted.settings ∙ ap (slots_before w.settings) (same_first w now f sound noted)

size_noted : (w now : Writing) (f : ChosenFrame) → IsWriting w → FitsAt w.settings w.frames w.end f → IsPushed w f now → length now.slots ≡ length w.slots + slot_bytes_of w.settings w.frames
size_noted w now f sound fit noted =
    let place = has_place w f sound fit in
    let longer = is_longer w sound in
    let fits = place.fits in
    let size = longer.size in
    let inside : place.at + length (code_bits w.settings f) ≤ length (with_slot w) = omega arith in
    omega (arith, length-bits_of now.slots, ap length noted.slots, ap (λ k. length (laid_over k (code_bits w.settings f) (with_slot w))) (sym place.is), laid_over-length place.at (code_bits w.settings f) (with_slot w) inside)

end_is : (w now : Writing) (f : ChosenFrame) → IsWriting w → FitsAt w.settings w.frames w.end f → IsPushed w f now → 8 * given_bytes w + (start_of w.settings w.frames f.begin - 8 * given_bytes w + length (code_bits w.settings f)) ≡ now.end
end_is w now f sound fit noted = let place = has_place w f sound fit in let start = place.start in let is = place.is in let end = noted.end in omega arith

next_slots : (w now : Writing) (f : ChosenFrame) → IsPushed w f now → slots_before now.settings now.frames ≡ slots_before w.settings w.frames + slot_bytes_of w.settings w.frames
next_slots w now f noted =
    ap (λ st. slots_before st now.frames) noted.settings
    ∙ (ap (slots_before w.settings) (noted.frames ∙ add-one w.frames) ∙ slots-suc w.settings w.frames)

pub noted_is_sound : (w now : Writing) (f : ChosenFrame) → IsWriting w → FitsAt w.settings w.frames w.end f → IsPushed w f now → IsWriting now
noted_is_sound w now f sound fit noted =
    let place = has_place w f sound fit in
    let longer = is_longer w sound in
    let given = same_given w now f sound noted in
    let size = size_noted w now f sound fit noted in
    let end = end_is w now f sound fit noted in
    let next = next_slots w now f noted in
    let heads = sound.heads in
    let slots = sound.slots in
    let near = sound.near in
    let fits = place.fits in
    let within = place.within in
    let reached = place.reached in
    let is = place.is in
    let code = code_bits w.settings f in
    let behind : reached_bits now ≡ place.at + length code = omega arith in
    let inside : place.at ≤ length (with_slot w) = omega (arith, longer.size) in
    let total : 8 * (length w.slots + slot_bytes_of w.settings w.frames) - (place.at + length code) ≡ 8 * length now.slots - reached_bits now = omega arith in
    record {
      heads = omega (arith, noted.frames, ap length noted.heads, length-append w.heads (head_of w.settings w.frames f ∷ []));
      slots = omega arith;
      bytes = noted.bytes;
      end = omega arith;
      zeros = ap (λ k. drop k (bits_of now.slots)) behind
          ∙ (ap (drop (place.at + length code)) (noted.slots ∙ ap (λ k. laid_over k code (with_slot w)) (sym place.is))
          ∙ (laid_over-drop place.at code (with_slot w) inside
          ∙ (zeros_further (with_slot w) (reached_bits w) (place.at + length code) (8 * (length w.slots + slot_bytes_of w.settings w.frames)) (omega arith) longer.zeros
          ∙ ap (λ k. replicate k false) total)));
      near = omega arith;
    }

-- the tape is the same, whether the frame is still to come or was laid
same_tape : (w now : Writing) (f : ChosenFrame) (fs : List ChosenFrame) → IsWriting w → FitsAt w.settings w.frames w.end f → IsPushed w f now → FitBehind w f fs →
    take (open_from w.settings w.frames w.end - 8 * given_bytes w) (bits_of w.slots) ++ tape_from w.settings w.frames (open_from w.settings w.frames w.end) (f ∷ fs)
    ≡ take (open_from w.settings (suc w.frames) (end_of w.settings w.frames f) - 8 * given_bytes w) (bits_of now.slots) ++ tape_from w.settings (suc w.frames) (open_from w.settings (suc w.frames) (end_of w.settings w.frames f)) fs
same_tape w now f fs sound fit noted behind =
    let st = w.settings in
    let n = w.frames in
    let code = code_bits st f in
    let end = end_of st n f in
    let o = open_from st n w.end in
    let o' = open_from st (suc n) end in
    let place = has_place w f sound fit in
    let longer = is_longer w sound in
    let at = place.at in
    let start = place.start in
    let later = place.later in
    let opened = place.opened in
    let within = place.within in
    let fits = place.fits in
    let reached = place.reached in
    let slots = sound.slots in
    let inside = fit.within in
    let next = slots-suc st n in
    let total = 8 * (length w.slots + slot_bytes_of st n) in
    let size = longer.size in
    let c : ℕ = o - 8 * given_bytes w in
    let c' : ℕ = o' - 8 * given_bytes w in
    let low : c ≤ at = omega arith in
    let from : reached_bits w ≤ c = omega arith in
    let gap : at - c ≡ start_of st n f.begin - o = omega arith in
    let bytes : at ≤ length (bits_of w.slots) = omega (arith, length-bits_of w.slots) in
    let wide : at ≤ length (with_slot w) = omega arith in
    let past : at + length code ≤ c' = omega arith in
    let fits' : c' ≤ total = omega arith in
    let rest : c' - (at + length code) ≡ o' - end = omega arith in
    let zeros = zeros_further (bits_of w.slots) (reached_bits w) c (8 * length w.slots) from sound.zeros in
    let front : take at (bits_of w.slots) ≡ take c (bits_of w.slots) ++ replicate (start_of st n f.begin - o) false =
    take_zeros (bits_of w.slots) c at (8 * length w.slots) low within zeros ∙ ap (λ k. take c (bits_of w.slots) ++ replicate k false) gap in
    let front' : take at (with_slot w) ≡ take at (bits_of w.slots) = ap (take at) longer.parts ∙ take-append-le at (bits_of w.slots) (replicate (8 * slot_bytes_of st n) false) bytes in
    let zeros' = zeros_further (with_slot w) (reached_bits w) (at + length code) total (omega arith) longer.zeros in
    let laid : bits_of now.slots ≡ laid_over at code (with_slot w) = noted.slots ∙ ap (λ k. laid_over k code (with_slot w)) (sym place.is) in
    let tail = tape_from st (suc n) o' fs in
    let gone = replicate (o' - end) false in
    let now_front : take c' (bits_of now.slots) ≡ take at (bits_of w.slots) ++ (code ++ gone) =
    ap (take c') laid ∙ (laid_over-take at c' total code (with_slot w) wide past fits' zeros'
    ∙ (ap (λ l. l ++ (code ++ replicate (c' - (at + length code)) false)) front' ∙ ap (λ k. take at (bits_of w.slots) ++ (code ++ replicate k false)) rest)) in
    let ended : end ≤ 8 * slots_before st (suc n) = omega arith in
    let behind_it : tape_from st (suc n) end fs ≡ gone ++ tail = tape-later st (suc n) end o' fs refl ended behind in
    sym (append_assoc (take c (bits_of w.slots)) (replicate (start_of st n f.begin - o) false) (code ++ tape_from st (suc n) end fs))
    ∙ (ap (λ l. l ++ (code ++ tape_from st (suc n) end fs)) (sym front)
    ∙ (ap (λ l. take at (bits_of w.slots) ++ (code ++ l)) behind_it
    ∙ (ap (λ l. take at (bits_of w.slots) ++ l) (sym (append_assoc code gone tail))
    ∙ (sym (append_assoc (take at (bits_of w.slots)) (code ++ gone) tail) ∙ ap (λ l. l ++ tail) (sym now_front)))))

pub noted_owes : (w now : Writing) (f : ChosenFrame) (fs : List ChosenFrame) → IsWriting w → FitsAt w.settings w.frames w.end f → IsPushed w f now → FitBehind w f fs →
    owed w (f ∷ fs) ≡ owed now fs
noted_owes w now f fs sound fit noted behind =
    let st = w.settings in
    let n = w.frames in
    let next : now.frames ≡ suc n = noted.frames ∙ add-one n in
    let h = head_of st n f in
    let tape = same_tape w now f fs sound fit noted behind in
    let heads : w.heads ++ h ∷ heads_of st (suc n) fs ≡ now.heads ++ heads_of st (suc n) fs = sym (append_assoc w.heads (h ∷ []) (heads_of st (suc n) fs)) ∙ ap (λ l. l ++ heads_of st (suc n) fs) (sym noted.heads) in
    let first = same_first w now f sound noted in
    let given = same_given w now f sound noted in
    ap (λ t. joined st (first_of w) (w.heads ++ h ∷ heads_of st (suc n) fs) (packed t)) tape
    ∙ (ap (λ l. joined st (first_of w) l (packed (take (open_from st (suc n) (end_of st n f) - 8 * given_bytes w) (bits_of now.slots) ++ tape_from st (suc n) (open_from st (suc n) (end_of st n f)) fs))) heads
    ∙ rw (first, noted.settings, next, noted.end) refl)
