-- Frames that are given are the first of what is owed.
use Rattle.std.proofs.Common.{◌≡◌, ℕ, zero, suc, ◌+◌, ◌-◌, ◌*◌, ◌<◌, ◌≤◌, ◌^◌, false, List, [], ◌∷◌, ◌++◌, length, take, drop, get_or, replicate, refl, sym, ap, ◌∙◌, arith, append_assoc, drop-cons, inl, inr}
use Rattle.std.proofs.lemmas.Bool.{cases_lt}
use Rattle.std.proofs.lemmas.List.{append-nil, drop-drop, length-drop, length-take-le, take-append-drop, take_at, take_more, drop_at}
use Rattle.std.proofs.lemmas.List.Elements.{All-drop}
use Rattle.l3_bits.specs.Bits.{bits_of, packed}
use Rattle.l3_bits.proofs.Bytes.{packed-bits_of}
use Rattle.l3_base.specs.declared.settings.Settings.{Settings}
use Rattle.l3_base.specs.Lengths.{slots_before, slot_bytes_of}
use Rattle.l3_stream.specs.declared.unit.ChosenFrame.{ChosenFrame}
use Rattle.l3_stream.specs.Tape.{heads_of, tape_from, joined}
use Rattle.l3_stream.proofs.Tape.{slots-suc}
use Rattle.l3_stream.proofs.Header.{slots-grow}
use Rattle.l3_frames.specs.Writing.{Writing, first_of, open_from, owed}
use Rattle.l3_frames.specs.Pending.{given_bytes, reached_bits, IsWriting, IsShort, AreSettled}
use Rattle.l3_frames.proofs.SlotLemmas.{slot_range, slots-spread}
use Rattle.l3_frames.proofs.JoinedLemmas.{joined-append, joined-take}
use Rattle.l3_frames.proofs.TapeLemmas.{zeros_further, bits_of-split, packed_split}

-- the state when the first k frames were given
pub record IsGiven (w : Writing) (k bytes : ℕ) (now : Writing) : Type 0 where
  pub settings : now.settings ≡ w.settings
  pub frames : now.frames ≡ w.frames
  pub end : now.end ≡ w.end
  pub heads : now.heads ≡ drop k w.heads
  pub slots : now.slots ≡ drop bytes w.slots

-- the first k frames that are not given yet are settled
abbrev pub AreSettledIn : Writing → ℕ → ℕ → Type 0
AreSettledIn w k bytes = AreSettled w.settings (first_of w) (length w.heads) k bytes

record HasNumbers (w : Writing) (k bytes : ℕ) (now : Writing) : Type 0 where
  all : first_of w + length w.heads ≡ w.frames
  first : first_of now ≡ first_of w + k
  given : given_bytes now ≡ given_bytes w + bytes
  inside : bytes ≤ length w.slots
  far : given_bytes w + bytes ≤ slots_before w.settings w.frames - 511

has_numbers : (w now : Writing) (k bytes : ℕ) → IsWriting w → AreSettledIn w k bytes → IsGiven w k bytes now → HasNumbers w k bytes now
has_numbers w now k bytes sound settled is =
    let heads = sound.heads in
    let slots = sound.slots in
    let some = settled.some in
    let place = settled.place in
    let all : first_of w + length w.heads ≡ w.frames = omega arith in
    let far : slots_before w.settings (first_of w + k) ≤ slots_before w.settings w.frames - 511 = rw all at settled.far in
    let frames = is.frames in
    let first : first_of now ≡ first_of w + k = omega (arith, ap length is.heads, length-drop k w.heads) in
    record {
      all = all;
      first = first;
      given = ap (λ st. slots_before st (first_of now)) is.settings ∙ (ap (slots_before w.settings) first ∙ sym place);
      inside = omega arith;
      far = omega arith;
    }

pub given_is_sound : (w now : Writing) (k bytes : ℕ) → IsWriting w → AreSettledIn w k bytes → IsGiven w k bytes now → IsWriting now
given_is_sound w now k bytes sound settled is =
    let numbers = has_numbers w now k bytes sound settled is in
    let given = numbers.given in
    let inside = numbers.inside in
    let far = numbers.far in
    let heads = sound.heads in
    let slots = sound.slots in
    let end = sound.end in
    let frames = is.frames in
    let end_same = is.end in
    let size : length now.slots ≡ length w.slots - bytes = ap length is.slots ∙ length-drop bytes w.slots in
    let before : slots_before now.settings now.frames ≡ slots_before w.settings w.frames = ap (λ st. slots_before st now.frames) is.settings ∙ ap (slots_before w.settings) is.frames in
    let further : reached_bits w ≤ 8 * bytes + reached_bits now = omega arith in
    let total : 8 * length w.slots - (8 * bytes + reached_bits now) ≡ 8 * length now.slots - reached_bits now = omega arith in
    let split = bits_of-split w.slots bytes inside in
    record {
      heads = omega (arith, ap length is.heads, length-drop k w.heads);
      slots = omega arith;
      bytes = rw is.slots (All-drop (λ byte. byte < 2 ^ 8) bytes w.slots sound.bytes);
      end = omega arith;
      zeros = ap (λ l. drop (reached_bits now) (bits_of l)) is.slots
          ∙ (ap (drop (reached_bits now)) (sym split.back)
          ∙ (drop-drop (reached_bits now) (8 * bytes) (bits_of w.slots)
          ∙ (zeros_further (bits_of w.slots) (reached_bits w) (8 * bytes + reached_bits now) (8 * length w.slots) further sound.zeros
          ∙ ap (λ n. replicate n false) total)));
      near = omega arith;
    }

pub given_is_short : (w now : Writing) (k bytes : ℕ) → IsWriting w → AreSettledIn w k bytes → IsGiven w k bytes now → IsShort now
given_is_short w now k bytes sound settled is =
    let numbers = has_numbers w now k bytes sound settled is in
    let inside = numbers.inside in
    let all = numbers.all in
    let some = settled.some in
    let place = settled.place in
    let slots = sound.slots in
    let size : length now.slots ≡ length w.slots - bytes = ap length is.slots ∙ length-drop bytes w.slots in
    let count : length now.heads ≡ length w.heads - k = ap length is.heads ∙ length-drop k w.heads in
    elim (cases_lt k (length w.heads)) as (λ _. IsShort now) [
      | inl lt ↦
          let most : slots_before w.settings w.frames - 511 < slots_before w.settings (suc (first_of w + k)) = rw all at (settled.most lt) in
          let next = slots-suc w.settings (first_of w + k) in
          let slot = (slot_range w.settings (first_of w + k)).below in
          let left : ℕ = length w.heads - k - 1 in
          let last : suc (first_of w + k) + left ≡ w.frames = omega arith in
          let spread : slots_before w.settings (suc (first_of w + k)) + 60 * left ≤ slots_before w.settings w.frames = rw last at (slots-spread w.settings (suc (first_of w + k)) left) in
          record { heads = omega arith; slots = omega arith }
      | inr le ↦
          let same : k ≡ length w.heads = omega arith in
          let last : first_of w + k ≡ w.frames = omega arith in
          let ends = ap (slots_before w.settings) last in
          record { heads = omega arith; slots = omega arith }
    ]

-- the frames given, and what is owed then
pub given_owes : (w now : Writing) (k bytes : ℕ) (fs : List ChosenFrame) → IsWriting w → AreSettledIn w k bytes → IsGiven w k bytes now →
    owed w fs ≡ joined w.settings (first_of w) (take k w.heads) w.slots ++ owed now fs
given_owes w now k bytes fs sound settled is =
    let st = w.settings in
    let n = w.frames in
    let o = open_from st n w.end in
    let numbers = has_numbers w now k bytes sound settled is in
    let inside = numbers.inside in
    let far = numbers.far in
    let given = numbers.given in
    let some = settled.some in
    let later = tape_from st n o fs in
    let more = heads_of st n fs in
    let c : ℕ = o - 8 * given_bytes w in
    let rest = packed (take (c - 8 * bytes) (bits_of (drop bytes w.slots)) ++ later) in
    let low : 8 * bytes ≤ c = omega arith in
    let tape : packed (take c (bits_of w.slots) ++ later) ≡ take bytes w.slots ++ rest = packed_split w.slots c bytes later sound.bytes inside low in
    let size : length (take bytes w.slots) ≡ bytes = length-take-le bytes w.slots inside in
    let number : first_of w + k ≡ first_of w + length (take k w.heads) = ap (λ i. first_of w + i) (sym (length-take-le k w.heads some)) in
    let heads : w.heads ++ more ≡ take k w.heads ++ (drop k w.heads ++ more) = ap (λ l. l ++ more) (sym (take-append-drop k w.heads)) ∙ append_assoc (take k w.heads) (drop k w.heads) more in
    let whole = take bytes w.slots ++ rest in
    let front : joined st (first_of w) (take k w.heads) whole ≡ joined st (first_of w) (take k w.heads) w.slots =
    sym (joined-take st (first_of w) (first_of w + k) bytes (take k w.heads) whole number settled.place)
    ∙ (ap (joined st (first_of w) (take k w.heads)) (take_at (take bytes w.slots) rest bytes size)
    ∙ joined-take st (first_of w) (first_of w + k) bytes (take k w.heads) w.slots number settled.place) in
    let place = settled.place in
    let count : c - 8 * bytes ≡ o - 8 * slots_before st (first_of w + k) = omega arith in
    let same : joined st (first_of w + k) (drop k w.heads ++ more) rest ≡ owed now fs = rw (numbers.first, is.settings, is.frames, is.end, is.heads, is.slots) (ap (λ i. joined st (first_of w + k) (drop k w.heads ++ more) (packed (take i (bits_of (drop bytes w.slots)) ++ later))) count) in
    ap (λ t. joined st (first_of w) (w.heads ++ more) t) tape
    ∙ (ap (λ l. joined st (first_of w) l whole) heads
    ∙ (joined-append st (first_of w) (first_of w + k) bytes (take k w.heads) (drop k w.heads ++ more) whole number settled.place
    ∙ (ap (λ l. l ++ joined st (first_of w + k) (drop k w.heads ++ more) (drop bytes whole)) front
    ∙ (ap (λ t. joined st (first_of w) (take k w.heads) w.slots ++ joined st (first_of w + k) (drop k w.heads ++ more) t) (drop_at (take bytes w.slots) rest bytes size)
    ∙ ap (λ l. joined st (first_of w) (take k w.heads) w.slots ++ l) same))))

-- all that is pending
pub finished_owes : (w : Writing) → IsWriting w → owed w [] ≡ joined w.settings (first_of w) w.heads w.slots
finished_owes w sound =
    let st = w.settings in
    let n = w.frames in
    let o = open_from st n w.end in
    let slots = sound.slots in
    let end = sound.end in
    let near = sound.near in
    let c : ℕ = o - 8 * given_bytes w in
    let from : reached_bits w ≤ c = omega arith in
    let count : 8 * slots_before st n - o ≡ 8 * length w.slots - c = omega arith in
    let zeros = zeros_further (bits_of w.slots) (reached_bits w) c (8 * length w.slots) from sound.zeros in
    let bits : take c (bits_of w.slots) ++ replicate (8 * slots_before st n - o) false ≡ bits_of w.slots =
    ap (λ k. take c (bits_of w.slots) ++ replicate k false) count ∙ (ap (λ l. take c (bits_of w.slots) ++ l) (sym zeros) ∙ take-append-drop c (bits_of w.slots)) in
    ap (λ l. joined st (first_of w) l (packed (take c (bits_of w.slots) ++ replicate (8 * slots_before st n - o) false))) (append-nil w.heads)
    ∙ ap (λ t. joined st (first_of w) w.heads t) (ap packed bits ∙ packed-bits_of w.slots sound.bytes)

-- ---- frames given one by one

-- the slot of a frame is within the tape's bytes
pub slot_inside : (st : Settings) (first k count at size : ℕ) → k < count → slots_before st first + at ≡ slots_before st (first + k) → slots_before st (first + count) ≤ slots_before st first + size →
    at + slot_bytes_of st (first + k) ≤ size
slot_inside st first k count at size lt place within =
    let left : ℕ = count - k - 1 in
    let last : suc (first + k) + left ≡ first + count = omega arith in
    omega (arith, slots-suc st (first + k), slots-grow st (suc (first + k)) left, ap (slots_before st) last)

pub next_place : (st : Settings) (first k at : ℕ) → slots_before st first + at ≡ slots_before st (first + k) → slots_before st first + (at + slot_bytes_of st (first + k)) ≡ slots_before st (first + (k + 1))
next_place st first k at place =
    let e : first + (k + 1) ≡ suc (first + k) = omega arith in
    omega (arith, slots-suc st (first + k), ap (slots_before st) e)

-- one frame more
pub one_given : (st : Settings) (first k at : ℕ) (heads : List (List ℕ)) (tape : List ℕ) → k < length heads → slots_before st first + at ≡ slots_before st (first + k) →
    joined st first (take (k + 1) heads) tape ≡ joined st first (take k heads) tape ++ (get_or heads k [] ++ take (slot_bytes_of st (first + k)) (drop at tape))
one_given st first k at heads tape lt place =
    let few : k ≤ length heads = omega arith in
    let number : first + k ≡ first + length (take k heads) = ap (λ i. first + i) (sym (length-take-le k heads few)) in
    let slot = take (slot_bytes_of st (first + k)) (drop at tape) in
    ap (λ l. joined st first l tape) (take_more heads k [] lt)
    ∙ (joined-append st first (first + k) at (take k heads) (get_or heads k [] ∷ []) tape number place
    ∙ ap (λ l. joined st first (take k heads) tape ++ (get_or heads k [] ++ l)) (append-nil slot))

-- and those after it
pub others_given : (st : Settings) (first k at : ℕ) (heads : List (List ℕ)) (tape : List ℕ) → k < length heads → slots_before st first + at ≡ slots_before st (first + k) →
    joined st first heads tape ≡ joined st first (take k heads) tape
    ++ ((get_or heads k [] ++ take (slot_bytes_of st (first + k)) (drop at tape)) ++ joined st (suc (first + k)) (drop (suc k) heads) (drop (slot_bytes_of st (first + k)) (drop at tape)))
others_given st first k at heads tape lt place =
    let few : k ≤ length heads = omega arith in
    let number : first + k ≡ first + length (take k heads) = ap (λ i. first + i) (sym (length-take-le k heads few)) in
    let slot = take (slot_bytes_of st (first + k)) (drop at tape) in
    let rest = joined st (suc (first + k)) (drop (suc k) heads) (drop (slot_bytes_of st (first + k)) (drop at tape)) in
    ap (λ l. joined st first l tape) (sym (take-append-drop k heads))
    ∙ (joined-append st first (first + k) at (take k heads) (drop k heads) tape number place
    ∙ (ap (λ l. joined st first (take k heads) tape ++ joined st (first + k) l (drop at tape)) (drop-cons heads k [] lt)
    ∙ ap (λ l. joined st first (take k heads) tape ++ l) (sym (append_assoc (get_or heads k []) slot rest))))

same_element : (xs : List (List ℕ)) (k : ℕ) (d e : List ℕ) → k < length xs → get_or xs k d ≡ get_or xs k e
same_element [] k d e lt = absurd (omega arith)
same_element (x ∷ xs) zero d e lt = refl
same_element (x ∷ xs) (suc k) d e lt = same_element xs k d e (omega arith)

-- a frame as it is given: its head, and its slot cut from the tape
pub piece_is : (st : Settings) (first k at size : ℕ) (heads : List (List ℕ)) (tape head element : List ℕ) → k < length heads → head ≡ element → element ≡ get_or heads k element → size ≡ slot_bytes_of st (first + k) →
    head ++ take (at + size - at) (drop at tape) ≡ get_or heads k [] ++ take (slot_bytes_of st (first + k)) (drop at tape)
piece_is st first k at size heads tape head element lt is place long =
    let count : at + size - at ≡ slot_bytes_of st (first + k) = omega arith in
    ap (λ l. l ++ take (at + size - at) (drop at tape)) (is ∙ (place ∙ same_element heads k element [] lt))
    ∙ ap (λ n. get_or heads k [] ++ take n (drop at tape)) count
