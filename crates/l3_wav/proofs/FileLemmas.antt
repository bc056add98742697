-- The samples of a file by its bytes.
use Rattle.std.proofs.Common.{◌≡◌, ◌∙◌, sym, ap, ℕ, zero, suc, ◌+◌, ◌%◌, ◌^◌, ◌<◌, Bool, true, false, List, [], ◌∷◌, get_or, length, take, drop, nat_lt, All, FitsSigned, w16, arith}
use Rattle.std.specs.Prelude.{Option, Some, None, Result, Ok, Err}
use Rattle.std.proofs.lemmas.List.Elements.{All-nil, All-cons, All-head, All-tail, All-same, All-take, All-drop}
use Rattle.std.proofs.lemmas.List.{length-take}
use Rattle.std.proofs.lemmas.Bool.{cond_both}
use Rattle.l3_base.specs.declared.rate.Channels.{Channels}
use Rattle.l3_base.specs.declared.rate.Channels.TheVariants.{Mono, Stereo}
use Rattle.l3_base.specs.Rates.{channels_of}
use Rattle.l3_wav.specs.declared.fields.Format.{Format}
use Rattle.l3_wav.specs.declared.head.WavHead.{WavHead}
use Rattle.l3_wav.specs.declared.fault.WavFault.{WavFault}
use Rattle.l3_wav.specs.declared.fault.WavFault.TheVariants.{HeaderTooLong, NotRiff}
use Rattle.l3_wav.specs.Wav.{Said, u32_at, format_after, padded, fields_in, ends_early, head_by, after_body, head_limit, most_chunks, chunks_from, is_riff, file_of, wav_of, after_head}
use Rattle.l3_wav.specs.Samples.{values_of, whole_bytes, coming, unread}
use Rattle.l3_wav.specs.Laws.{AreChannels16}
use Rattle.l3_wav.proofs.RangeLemmas.{value_of-fits, left_of-fit, right_of-fit}
use Rattle.l3_wav.proofs.SampleLemmas.{long, whole_bytes-most}
use Rattle.l3_wav.proofs.PcmLemmas.{right_beside}
use Rattle.l3_wav.proofs.ChunkForms.{chunk_after}
use Rattle.l3_wav.proofs.TailLemmas.{file_of-tail}
use Rattle.l3_wav.proofs.OpenLemmas.{said_answer, said_left}

abbrev IsByte : ℕ → Type 0
IsByte byte = byte < 2 ^ 8

-- a byte at any place, where past the end stands 0
byte_at : (bytes : List ℕ) (i : ℕ) → All IsByte bytes → get_or bytes i 0 < 2 ^ 8
byte_at [] i small = omega arith
byte_at (b ∷ bytes) zero small = All-head IsByte b bytes small
byte_at (b ∷ bytes) (suc i) small = byte_at bytes i (All-tail IsByte b bytes small)

-- a size of four bytes
size_fits : (bytes : List ℕ) (at : ℕ) → All IsByte bytes → u32_at bytes at < 2 ^ 32
size_fits bytes at small = omega (arith, byte_at bytes at small, byte_at bytes (at + 1) small, byte_at bytes (at + 2) small, byte_at bytes (at + 2 + 1) small)

-- what is said declares fewer bytes than 2^32, where it is a head
abbrev Declares : Said → Type 0
Declares said = (head : WavHead) → said.answer ≡ Ok head → head.data_bytes < 2 ^ 32

refused-declares : (fault : WavFault) (left : List ℕ) → Declares (record { answer = Err fault; left = left })
refused-declares fault left head is = absurd cc

head_by-declares : (format : Option Format) (size : ℕ) (left : List ℕ) → size < 2 ^ 32 → Declares (record { answer = head_by format size; left = left })
head_by-declares None size left fits head is = absurd cc
head_by-declares (Some format) size left fits head is =
    let same : size ≡ head.data_bytes = ap size_in is in
    omega (arith, same, fits)
  where
    size_in : Result WavHead WavFault → ℕ
    size_in (Ok head) = head.data_bytes
    size_in (Err fault) = 0

after_body-declares : (told : Result (Option Format) WavFault) (rest : List ℕ) (next : Option Format → Said) → ((known : Option Format) → Declares (next known)) → Declares (after_body told rest next)
after_body-declares (Ok known) rest next each = each known
after_body-declares (Err fault) rest next each = refused-declares fault rest

chunk_after-declares : (next : Option Format → ℕ → List ℕ → Said) → ((known : Option Format) (end : ℕ) (rest : List ℕ) → All IsByte rest → Declares (next known end rest)) →
    (format : Option Format) (read : ℕ) (is_data is_format : Bool) (size : ℕ) (body : List ℕ) → size < 2 ^ 32 → All IsByte body → Declares (chunk_after next format read is_data is_format size body)
chunk_after-declares next each format read true is_format size body fits small = head_by-declares format size body fits
chunk_after-declares next each format read false is_format size body fits small =
    let end = read + 8 + padded size in
    let rest = drop (padded size) body in
    cond_both {A = Said} (nat_lt head_limit end) (record { answer = Err HeaderTooLong; left = body }) _ Declares (λ _. refused-declares HeaderTooLong body)
    (λ _. cond_both {A = Said} (nat_lt (length body) (padded size)) ends_early _ Declares (λ _. refused-declares _ [])
    (λ _. after_body-declares (format_after format is_format (fields_in size body)) rest (λ known. next known end rest) (λ known. each known end rest (All-drop IsByte (padded size) body small))))

chunks_from-declares : (count : ℕ) (format : Option Format) (read : ℕ) (bytes : List ℕ) → All IsByte bytes → Declares (chunks_from count format read bytes)
unfolding chunks_from
chunks_from-declares zero format read bytes small = refused-declares HeaderTooLong bytes
chunks_from-declares (suc count) format read bytes small =
    cond_both {A = Said} (nat_lt (length bytes) 8) ends_early _ Declares (λ _. refused-declares _ [])
    (λ _. chunk_after-declares (chunks_from count) (chunks_from-declares count) format read _ _ (u32_at (take 8 bytes) 4) (drop 8 bytes)
    (size_fits (take 8 bytes) 4 (All-take IsByte 8 bytes small)) (All-drop IsByte 8 bytes small))

file_of-declares : (bytes : List ℕ) → All IsByte bytes → Declares (file_of bytes)
unfolding file_of
file_of-declares bytes small =
    let rest = drop 12 bytes in
    cond_both {A = Said} (nat_lt (length bytes) 12) ends_early _ Declares (λ _. refused-declares _ [])
    (λ _. cond_both {A = Said} (is_riff (take 12 bytes)) (chunks_from most_chunks None 12 rest) (record { answer = Err NotRiff; left = rest }) Declares
    (λ _. chunks_from-declares most_chunks None 12 rest (All-drop IsByte 12 bytes small))
    (λ _. refused-declares NotRiff rest))

-- what follows the head has bytes alone
after_head-bytes : (bytes : List ℕ) → All IsByte bytes → All IsByte (after_head bytes)
after_head-bytes bytes small =
    let tail = file_of-tail bytes in
    All-same IsByte _ _ (said_left bytes ∙ tail.is) (All-drop IsByte tail.count bytes small)

values_of-all_fit : (bytes : List ℕ) → All IsByte bytes → All (FitsSigned w16) (values_of bytes)
values_of-all_fit [] small = All-nil (FitsSigned w16)
values_of-all_fit (low ∷ []) small = All-nil (FitsSigned w16)
values_of-all_fit (low ∷ high ∷ rest) small =
    let others = All-tail IsByte low (high ∷ rest) small in
    All-cons (FitsSigned w16) _ (values_of rest) (value_of-fits low high (All-head IsByte low (high ∷ rest) small) (All-head IsByte high rest others))
    (values_of-all_fit rest (All-tail IsByte high rest others))

-- so many values in whole samples
whole_count : (channels : Channels) (count m : ℕ) → count + count ≡ whole_bytes channels m → count % channels_of channels ≡ 0
whole_count Mono count m is = omega (arith, is)
whole_count Stereo count m is = omega (arith, is)

pub file_channels : (bytes : List ℕ) (head : WavHead) → All IsByte bytes → wav_of bytes ≡ Ok head →
    AreChannels16 head.channels (coming (unread head.channels head.data_bytes) (after_head bytes))
file_channels bytes head small is =
    let left = after_head bytes in
    let within = take head.data_bytes left in
    let values = coming (unread head.channels head.data_bytes) left in
    let fit : All (FitsSigned w16) values =
    values_of-all_fit _ (All-take IsByte (whole_bytes head.channels (length within)) within (All-take IsByte head.data_bytes left (after_head-bytes bytes small))) in
    let count = long head.channels head.data_bytes left 0 in
    let beside = right_beside head.channels values (whole_count head.channels (length values) (length within) count) in
    let declared = file_of-declares bytes small head (sym (said_answer bytes) ∙ is) in
    record {
      left = left_of-fit head.channels values fit;
      right = right_of-fit head.channels values fit;
      few = omega (arith, count, beside.1, declared, whole_bytes-most head.channels (length within), length-take head.data_bytes left);
      shape = beside.0;
    }
