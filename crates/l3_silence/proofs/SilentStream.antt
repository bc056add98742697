-- The stream of frames without codes is the stream of silence.
use Rattle.std.proofs.Common.{◌≡◌, refl, sym, ap, ◌∙◌, ℕ, zero, suc, ◌+◌, ◌-◌, ◌*◌, ◌≤◌, Bool, false, List, [], ◌∷◌, ◌++◌, length, drop, replicate, min, arith, append_assoc}
use Rattle.std.specs.Prelude.{ℤ}
use Rattle.std.specs.List.{flat_map, range_with_len}
use Rattle.std.proofs.lemmas.List.{take-replicate, drop-replicate, replicate-append-replicate}
use Rattle.l3_bits.specs.Bits.{digits, packed}
use Rattle.l3_base.specs.declared.settings.Settings.{Settings}
use Rattle.l3_base.specs.declared.rate.Channels.{Channels}
use Rattle.l3_base.specs.declared.rate.Channels.TheVariants.{Mono, Stereo}
use Rattle.l3_base.specs.Rates.{head_bytes_of}
use Rattle.l3_base.specs.Header.{header_bits}
use Rattle.l3_base.specs.Lengths.{is_padded, frame_bytes_of, slot_bytes_of, slots_before, mmax_of, frames_for}
use Rattle.l3_stream.specs.Units.{pairs_code, quads_code, pairs_of, quads_of, unit_bits}
use Rattle.l3_stream.specs.Frames.{blank, units_number, units_of, units_bits, code_bits}
use Rattle.l3_stream.specs.Header.{header_at}
use Rattle.l3_stream.specs.Side.{front_bits, unit_side, side_bytes, side_bits}
use Rattle.l3_stream.specs.Tape.{start_of, tape_from, tape_of, head_of, heads_of, joined, stream_of}
use Rattle.l3_stream.proofs.Packing.{packed-append}
use Rattle.l3_stream.proofs.Side.{side-length}
use Rattle.l3_stream.proofs.Tape.{slots-suc, start_within}
use Rattle.l3_silence.specs.Silence.{begin_of, silent_frame, silence_of}
use Rattle.l3_frames.proofs.PackingLemmas.{packed-zeros}
use Rattle.l3_frames.proofs.SlotLemmas.{slot_range, slots-spread}
use Rattle.l3_commit.specs.Encoding.{spectra_of, frames_chosen}
use Rattle.l3_silence.specs.Silent.{AreSilent, ZerosEncodeToSilence}
use Rattle.l3_silence.proofs.SilentSpectrum.{spectrum-zero}
use Rattle.l3_silence.proofs.SilentFrames.{NoSpectra, blank_granule, silent_chosen, silent_from, frames-silent}

-- ---- no codes

blank-code : (st : Settings) → unit_bits st blank ≡ []
unfolding unit_bits blank pairs_of quads_of pairs_code quads_code
blank-code st = refl

blanks-code : (ch : Channels) (st : Settings) → units_bits st (units_of ch (blank_granule ∷ blank_granule ∷ [])) ≡ []
unfolding units_of blank_granule
blanks-code Mono st = rw (blank-code st) refl
blanks-code Stereo st = rw (blank-code st) refl

silent-code : (st : Settings) (n : ℕ) → code_bits st (silent_chosen st n) ≡ []
unfolding code_bits silent_chosen
silent-code st n = blanks-code st.channels st

silent-begin : (st : Settings) (n : ℕ) → (silent_chosen st n).begin ≡ begin_of st n
unfolding silent_chosen
silent-begin st n = refl

-- ---- the tape

start-is : (st : Settings) (n begin : ℕ) → start_of st n begin ≡ 8 * (slots_before st n - begin)
unfolding start_of
start-is st n begin = refl

begin-suc : (st : Settings) (n : ℕ) → begin_of st (suc n) ≡ min (begin_of st n + slot_bytes_of st n) (mmax_of st)
unfolding begin_of
begin-suc st n = refl

further-by : (slots slot begin limit : ℕ) → 8 * (slots - begin) ≤ 8 * (slots + slot - min (begin + slot) limit)
further-by slots slot begin limit = omega arith

-- main data begins no earlier than that of the frame before
start-further : (st : Settings) (n : ℕ) → start_of st n (begin_of st n) ≤ start_of st (suc n) (begin_of st (suc n))
start-further st n =
    let later : start_of st (suc n) (begin_of st (suc n)) ≡ 8 * (slots_before st n + slot_bytes_of st n - min (begin_of st n + slot_bytes_of st n) (mmax_of st)) =
    start-is st (suc n) (begin_of st (suc n)) ∙ (ap (λ b. 8 * (slots_before st (suc n) - b)) (begin-suc st n) ∙ ap (λ s. 8 * (s - min (begin_of st n + slot_bytes_of st n) (mmax_of st))) (slots-suc st n)) in
    omega (arith, start-is st n (begin_of st n), later, further-by (slots_before st n) (slot_bytes_of st n) (begin_of st n) (mmax_of st))

-- zeros, no codes and zeros
only-zeros : (gap more whole : ℕ) (code rest : List Bool) → code ≡ [] → rest ≡ replicate more false → gap + more ≡ whole → replicate gap false ++ (code ++ rest) ≡ replicate whole false
only-zeros gap more whole code rest none zeros e =
    ap (λ c. replicate gap false ++ (c ++ rest)) none
    ∙ (ap (λ l. replicate gap false ++ l) zeros
    ∙ (replicate-append-replicate gap more false ∙ ap (λ k. replicate k false) e))

same-end : (start : ℕ) (code : List Bool) → code ≡ [] → start + length code ≡ start
same-end start code none = rw none (omega arith)

tape-silent : (st : Settings) (n end k : ℕ) → end ≤ start_of st n (begin_of st n) → tape_from st n end (silent_from st n k) ≡ replicate (8 * slots_before st (n + k) - end) false
unfolding silent_from
tape-silent st n end zero le =
    let e : n ≡ n + 0 = omega arith in
    ap (λ (m : ℕ). replicate (8 * slots_before st m - end) false) e
tape-silent st n end (suc k) le =
    let code = code_bits st (silent_chosen st n) in
    let start = start_of st n (silent_chosen st n).begin in
    let others = silent_from st (suc n) k in
    let last = slots_before st (suc n + k) in
    let begun : start ≡ start_of st n (begin_of st n) = ap (start_of st n) (silent-begin st n) in
    let low : start ≤ start_of st (suc n) (begin_of st (suc n)) = omega (arith, begun, start-further st n) in
    let rest : tape_from st (suc n) (start + length code) others ≡ replicate (8 * last - start) false =
    ap (λ (e : ℕ). tape_from st (suc n) e others) (same-end start code (silent-code st n)) ∙ tape-silent st (suc n) start k low in
    let within : start ≤ 8 * last = omega (arith, begun, start_within st n (begin_of st n), slots-suc st n, slots-spread st (suc n) k) in
    let number : suc n + k ≡ n + suc k = omega arith in
    let count : start - end + (8 * last - start) ≡ 8 * slots_before st (n + suc k) - end = omega (arith, le, begun, within, ap (slots_before st) number) in
    only-zeros (start - end) (8 * last - start) (8 * slots_before st (n + suc k) - end) code (tape_from st (suc n) (start + length code) others) (silent-code st n) rest count

-- ---- a frame

-- the side information is main_data_begin and zeros
side-by : (ch : Channels) (begin : ℕ) → side_bits ch begin (units_of ch (blank_granule ∷ blank_granule ∷ [])) ≡ digits 9 begin ++ replicate (8 * side_bytes ch - 9) false
unfolding units_of blank_granule blank front_bits unit_side
side-by Mono begin = refl
side-by Stereo begin = refl

units-number : (ch : Channels) → length (units_of ch (blank_granule ∷ blank_granule ∷ [])) ≡ units_number ch
unfolding units_of blank_granule
units-number Mono = refl
units-number Stereo = refl

header-length : (st : Settings) (padded : Bool) → length (header_bits st padded false false) ≡ 8 * 4
header-length st padded = refl

head_bytes-is : (ch : Channels) → head_bytes_of ch ≡ 4 + side_bytes ch
head_bytes-is Mono = refl
head_bytes-is Stereo = refl

side_bytes-least : (ch : Channels) → 9 ≤ 8 * side_bytes ch
side_bytes-least Mono = omega arith
side_bytes-least Stereo = omega arith

-- the bytes of a frame are packed as one
packed-frame : (header side : List Bool) (begin size slot long : ℕ) → length header ≡ 8 * 4 → length side ≡ 8 * size → side ≡ digits 9 begin ++ replicate (8 * size - 9) false → 9 ≤ 8 * size → long ≡ 4 + size + slot →
    (packed header ++ packed side) ++ replicate slot 0 ≡ packed (header ++ digits 9 begin ++ replicate (8 * long - (32 + 9)) false)
packed-frame header side begin size slot long four sized is low e =
    let zeros = replicate (8 * slot) false in
    let count : 8 * size - 9 + 8 * slot ≡ 8 * long - (32 + 9) = omega arith in
    let behind : side ++ zeros ≡ digits 9 begin ++ replicate (8 * long - (32 + 9)) false =
    ap (λ l. l ++ zeros) is ∙ (append_assoc (digits 9 begin) (replicate (8 * size - 9) false) zeros
    ∙ ap (λ l. digits 9 begin ++ l) (replicate-append-replicate (8 * size - 9) (8 * slot) false ∙ ap (λ c. replicate c false) count)) in
    append_assoc (packed header) (packed side) (replicate slot 0)
    ∙ (ap (λ l. packed header ++ (packed side ++ l)) (sym (packed-zeros slot))
    ∙ (ap (λ l. packed header ++ l) (sym (packed-append size side zeros sized))
    ∙ (sym (packed-append 4 header (side ++ zeros) four)
    ∙ (ap (λ l. packed (header ++ l)) behind ∙ ap packed (sym (append_assoc header (digits 9 begin) (replicate (8 * long - (32 + 9)) false)))))))

frame-silent : (st : Settings) (n : ℕ) → head_of st n (silent_chosen st n) ++ replicate (slot_bytes_of st n) 0 ≡ silent_frame st n
unfolding head_of header_at silent_frame silent_chosen
frame-silent st n =
    let us = units_of st.channels (blank_granule ∷ blank_granule ∷ []) in
    let long : frame_bytes_of st n ≡ 4 + side_bytes st.channels + slot_bytes_of st n = omega (arith, head_bytes-is st.channels, (slot_range st n).above) in
    packed-frame (header_bits st (is_padded st n) false false) (side_bits st.channels (begin_of st n) us) (begin_of st n) (side_bytes st.channels) (slot_bytes_of st n) (frame_bytes_of st n)
    (header-length st (is_padded st n)) (side-length st.channels (begin_of st n) us (units-number st.channels)) (side-by st.channels (begin_of st n)) (side_bytes-least st.channels) long

-- ---- all frames

-- a head and its slot of zeros, cut from zeros
joined-more : (st : Settings) (n all left : ℕ) (head frame later : List ℕ) (heads : List (List ℕ)) → slot_bytes_of st n ≤ all → all - slot_bytes_of st n ≡ left →
    head ++ replicate (slot_bytes_of st n) 0 ≡ frame → joined st (suc n) heads (replicate left 0) ≡ later → joined st n (head ∷ heads) (replicate all 0) ≡ frame ++ later
joined-more st n all left head frame later heads enough rest is more =
    let slot = slot_bytes_of st n in
    ap (λ l. head ++ (l ++ joined st (suc n) heads (drop slot (replicate all 0)))) (take-replicate slot all 0 enough)
    ∙ (ap (λ l. head ++ (replicate slot 0 ++ joined st (suc n) heads l)) (drop-replicate slot all 0 ∙ ap (λ c. replicate c 0) rest)
    ∙ (ap (λ l. head ++ (replicate slot 0 ++ l)) more
    ∙ (sym (append_assoc head (replicate slot 0) later) ∙ ap (λ l. l ++ later) is)))

joined-silent : (st : Settings) (n k : ℕ) → joined st n (heads_of st n (silent_from st n k)) (replicate (slots_before st (n + k) - slots_before st n) 0) ≡ flat_map (silent_frame st) (range_with_len n k)
unfolding silent_from
joined-silent st n zero = refl
joined-silent st n (suc k) =
    let number : n + suc k ≡ suc n + k = omega arith in
    let next : suc n ≡ n + 1 = omega arith in
    let same = ap (slots_before st) number in
    let enough : slot_bytes_of st n ≤ slots_before st (n + suc k) - slots_before st n = omega (arith, same, slots-suc st n, slots-spread st (suc n) k) in
    let rest : slots_before st (n + suc k) - slots_before st n - slot_bytes_of st n ≡ slots_before st (suc n + k) - slots_before st (suc n) = omega (arith, same, slots-suc st n) in
    let later : joined st (suc n) (heads_of st (suc n) (silent_from st (suc n) k)) (replicate (slots_before st (suc n + k) - slots_before st (suc n)) 0) ≡ flat_map (silent_frame st) (range_with_len (n + 1) k) =
    joined-silent st (suc n) k ∙ ap (λ (m : ℕ). flat_map (silent_frame st) (range_with_len m k)) next in
    joined-more st n (slots_before st (n + suc k) - slots_before st n) (slots_before st (suc n + k) - slots_before st (suc n)) (head_of st n (silent_chosen st n)) (silent_frame st n)
    (flat_map (silent_frame st) (range_with_len (n + 1) k)) (heads_of st (suc n) (silent_from st (suc n) k)) enough rest (frame-silent st n) later

slots-none : (st : Settings) → slots_before st 0 ≡ 0
unfolding slots_before
slots-none st = refl

-- the stream of so many frames of silence
stream-silent : (st : Settings) (k : ℕ) → stream_of st (silent_from st 0 k) ≡ silence_of st k
unfolding silence_of
stream-silent st k =
    let bits : 8 * slots_before st (0 + k) - 0 ≡ 8 * (slots_before st (0 + k) - slots_before st 0) = omega (arith, slots-none st) in
    let tape : packed (tape_of st (silent_from st 0 k)) ≡ replicate (slots_before st (0 + k) - slots_before st 0) 0 =
    ap packed (tape-silent st 0 0 k (omega arith) ∙ ap (λ c. replicate c false) bits) ∙ packed-zeros (slots_before st (0 + k) - slots_before st 0) in
    ap (joined st 0 (heads_of st 0 (silent_from st 0 k))) tape ∙ joined-silent st 0 k

-- ---- samples that are 0

no-spectra : (ch : Channels) (left right : List ℤ) → AreSilent ch left right → NoSpectra ch (spectra_of left right)
no-spectra Mono left right zeros g = spectrum-zero left g zeros
no-spectra Stereo left right zeros g = (spectrum-zero left g zeros.0, spectrum-zero right g zeros.1)

pub zeros-silent : ZerosEncodeToSilence
unfolding frames_chosen
zeros-silent st left right zeros =
    ap (stream_of st) (frames-silent st (spectra_of left right) (frames_for (length left)) (no-spectra st.channels left right zeros))
    ∙ stream-silent st (frames_for (length left))
