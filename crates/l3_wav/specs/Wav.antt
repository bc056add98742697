-- What the head of a WAV file says, and which fault refuses one.
-- A file is RIFF: 12 bytes of form WAVE, then chunks. A chunk is an id of 4 bytes, a size of 4, a
-- body of so many bytes, and one pad byte after an odd size. Every number has its low byte first.
-- The head ends where the body of `data` begins.
use Rattle.std.specs.Prelude.{◌≡◌, ◌≤◌, ℕ, suc, zero, ◌+◌, ◌*◌, ◌%◌, ◌==◌, ◌&&◌, ◌||◌, Bool, List, [], ◌∷◌, Option, Some, None, Result, Ok, Err, length, take, drop, min, nat_le, nat_lt, slice_index, slice_range, bytes_eq, codes, if◌then◌else◌}
use Rattle.l3_base.specs.Rates.{channels_of}
use Rattle.l3_base.specs.declared.rate.Channels.{Channels}
use Rattle.l3_base.specs.declared.rate.Channels.TheVariants.{Mono, Stereo}
use Rattle.l3_base.specs.declared.rate.SampleRate.{SampleRate}
use Rattle.l3_base.specs.declared.rate.SampleRate.TheVariants.{Hz44100, Hz48000, Hz32000}
use Rattle.l3_io.specs.Causes.{Rose, count_after}
use Rattle.l3_wav.specs.declared.fields.Format.{Format}
use Rattle.l3_wav.specs.declared.head.WavHead.{WavHead}
use Rattle.l3_wav.specs.declared.fault.WavFault.{WavFault}
use Rattle.l3_wav.specs.declared.fault.WavFault.TheVariants.{NotRiff, HeaderEnds, NoFmtBeforeData, HeaderTooLong, UnsupportedFormat, UnsupportedChannels, UnsupportedRate, UnsupportedDepth, BadBlockAlign, Read}

-- the number of two bytes at a place
abbrev pub u16_at : List ℕ → ℕ → ℕ
u16_at bytes at = slice_index bytes at + 256 * slice_index bytes (at + 1)

-- the number of four bytes at a place
abbrev pub u32_at : List ℕ → ℕ → ℕ
u32_at bytes at = u16_at bytes at + 65536 * u16_at bytes (at + 2)

-- the subformat of the extensible form that means PCM
abbrev pub pcm_subformat : List ℕ
pcm_subformat = 0x01 ∷ 0 ∷ 0 ∷ 0 ∷ 0 ∷ 0 ∷ 0x10 ∷ 0 ∷ 0x80 ∷ 0 ∷ 0 ∷ 0xAA ∷ 0 ∷ 0x38 ∷ 0x9B ∷ 0x71 ∷ []

-- the tag is WAVE_FORMAT_EXTENSIBLE, 0xFFFE, and the subformat is PCM
abbrev pub is_wave_format_extensible : List ℕ → Bool
is_wave_format_extensible fields = u16_at fields 0 == 0xFFFE && (nat_le 40 (length fields) && bytes_eq (slice_range fields 24 40) pcm_subformat)

-- the 16 bytes of fields that every format has are there, and they are PCM: the tag is
-- WAVE_FORMAT_PCM, 1, or the form is the extensible one
abbrev pub is_pcm : List ℕ → Bool
is_pcm fields = nat_le 16 (length fields) && (u16_at fields 0 == 1 || is_wave_format_extensible fields)

-- the channels of which there are so many
abbrev pub channels_named : ℕ → Option Channels
channels_named number = if number == 1 then Some Mono else (if number == 2 then Some Stereo else None)

-- the sampling frequency of so many hertz
abbrev pub rate_named : ℕ → Option SampleRate
rate_named hertz = if hertz == 44100 then Some Hz44100 else (if hertz == 48000 then Some Hz48000 else (if hertz == 32000 then Some Hz32000 else None))

-- the depth is tested, and then the block align
abbrev pub format_by_depth : Channels → SampleRate → List ℕ → Result Format WavFault
format_by_depth channels rate fields =
    if u16_at fields 14 == 16
    then (if u16_at fields 12 == 2 * channels_of channels then Ok (record { channels = channels; rate = rate }) else Err BadBlockAlign)
    else Err UnsupportedDepth

-- the sampling frequency is tested, and then the depth
abbrev pub format_by_rate : Channels → Option SampleRate → List ℕ → Result Format WavFault
format_by_rate channels None fields = Err UnsupportedRate
format_by_rate channels (Some rate) fields = format_by_depth channels rate fields

-- the channels are tested, and then the sampling frequency
abbrev pub format_by_channels : Option Channels → List ℕ → Result Format WavFault
format_by_channels None fields = Err UnsupportedChannels
format_by_channels (Some channels) fields = format_by_rate channels (rate_named (u32_at fields 4)) fields

-- what the fields of a format say: form, channels, sampling frequency, depth, block align, in this
-- order
unfoldable pub format_of : List ℕ → Result Format WavFault
format_of fields = if is_pcm fields then format_by_channels (channels_named (u16_at fields 2)) fields else Err UnsupportedFormat

-- the same as what is known after its chunk
abbrev pub known_by : Result Format WavFault → Result (Option Format) WavFault
known_by (Ok format) = Ok (Some format)
known_by (Err fault) = Err fault

-- the format that is known after a chunk: the first `fmt ` chunk tells it, and every other chunk is
-- passed over
abbrev pub format_after : Option Format → Bool → List ℕ → Result (Option Format) WavFault
format_after (Some format) is_format fields = Ok (Some format)
format_after None is_format fields = if is_format then known_by (format_of fields) else Ok None

-- the bytes of a body with its pad byte
abbrev pub padded : ℕ → ℕ
padded size = size + size % 2

-- the fields of a format, which stand in the first 40 bytes of its body
abbrev pub fields_in : ℕ → List ℕ → List ℕ
fields_in size body = take (min size 40) body

-- what a file says: its head, or the first fault; and the bytes that are left once this is known
pub record Said : Type 0 where
  pub answer : Result WavHead WavFault
  pub left : List ℕ

-- the file ends where its head goes on
abbrev pub ends_early : Said
ends_early = record { answer = Err HeaderEnds; left = [] }

-- the head at a `data` chunk of this size
abbrev pub head_by : Option Format → ℕ → Result WavHead WavFault
head_by None size = Err NoFmtBeforeData
head_by (Some format) size = Ok (record { channels = format.channels; rate = format.rate; data_bytes = size })

-- what follows a chunk's body: nothing where it is refused
abbrev pub after_body : Result (Option Format) WavFault → List ℕ → (Option Format → Said) → Said
after_body (Ok known) left next = next known
after_body (Err fault) left next = record { answer = Err fault; left = left }

-- the most bytes that may stand before the chunk `data`
abbrev pub head_limit : ℕ
head_limit = 1048576

-- so many chunks at most are looked at; a head within the limit has fewer
abbrev pub most_chunks : ℕ
most_chunks = 131072

-- what the bytes say that a chunk begins, with the format known before it and so many bytes read
-- before it
unfoldable pub chunks_from : ℕ → Option Format → ℕ → List ℕ → Said
chunks_from zero format read bytes = record { answer = Err HeaderTooLong; left = bytes }
chunks_from (suc count) format read bytes =
    let head = take 8 bytes in
    let id = take 4 head in
    let size = u32_at head 4 in
    let body = drop 8 bytes in
    let end = read + 8 + padded size in
    let rest = drop (padded size) body in
    if nat_lt (length bytes) 8 then ends_early
    else (if bytes_eq id (codes "data") then record { answer = head_by format size; left = body }
    else (if nat_lt head_limit end then record { answer = Err HeaderTooLong; left = body }
    else (if nat_lt (length body) (padded size) then ends_early
    else after_body (format_after format (bytes_eq id (codes "fmt ")) (fields_in size body)) rest (λ known. chunks_from count known end rest))))

-- the first 12 bytes are those of a RIFF file of form WAVE, whatever its size says
abbrev pub is_riff : List ℕ → Bool
is_riff head = bytes_eq (slice_range head 0 4) (codes "RIFF") && bytes_eq (slice_range head 8 12) (codes "WAVE")

-- what a file says
unfoldable pub file_of : List ℕ → Said
file_of bytes =
    let rest = drop 12 bytes in
    if nat_lt (length bytes) 12 then ends_early
    else (if is_riff (take 12 bytes) then chunks_from most_chunks None 12 rest else record { answer = Err NotRiff; left = rest })

-- the head of a file, or the fault that refuses it
unfoldable pub wav_of : List ℕ → Result WavHead WavFault
wav_of bytes = (file_of bytes).answer

-- what follows the head of a file; of a refused one, what follows the bytes that refuse it
unfoldable pub after_head : List ℕ → List ℕ
after_head bytes = (file_of bytes).left

-- of the first bytes no more than so many are gone
pub record HasLost (most : ℕ) (bytes : List ℕ) (now : Option (List ℕ)) : Type 0 where
  pub count : ℕ
  pub low : count ≤ most
  pub there : count ≤ length bytes
  pub rest : now ≡ Some (drop count bytes)

-- one read failed, the last one, where that is the fault; at every other fault none did
abbrev pub FaultCause : ℕ → ℕ → WavFault → Type 0
FaultCause before now Read = now ≡ count_after before
FaultCause before now fault = now ≡ before

-- what opening gives: a read fault has its cause, and any other answer is the file's own;
-- so where the count of faults was steady, the answer is the file's
abbrev pub OpenGives : ℕ → ℕ → Result WavHead WavFault → Result WavHead WavFault → Type 0
OpenGives before now (Ok head) file = file ≡ Ok head
OpenGives before now (Err Read) file = Rose before now
OpenGives before now (Err fault) file = file ≡ Err fault
