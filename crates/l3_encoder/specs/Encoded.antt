-- What a WAV file is encoded as, and what an answer says of the input and the output of an
-- encoding.
use Rattle.std.specs.Prelude.{◌≡◌, ◌≢◌, ℕ, ◌-◌, ◌<◌, ◌^◌, List, All, length, drop, ℤ, Option, Some, None, Result, Ok, Err, IfSome, IsSomeAnd, ⊤}
use Rattle.l3_base.specs.declared.rate.Rate.{Rate}
use Rattle.l3_base.specs.declared.settings.Settings.{Settings}
use Rattle.l3_base.specs.Lengths.{frames_for}
use Rattle.l3_io.specs.Causes.{count_after}
use Rattle.l3_io.specs.Taken.{Stands, Takes, TakesPrefix}
use Rattle.l3_wav.specs.declared.head.WavHead.{WavHead}
use Rattle.l3_wav.specs.declared.fault.WavFault.{WavFault}
use Rattle.l3_wav.specs.declared.fault.WavFault.TheVariants as fault
use Rattle.l3_wav.specs.Wav.{wav_of, after_head, HasLost}
use Rattle.l3_wav.specs.Samples.{coming, unread}
use Rattle.l3_wav.specs.Pcm.{left_of, right_of}
use Rattle.l3_stream.specs.declared.unit.ChosenFrame.{ChosenFrame}
use Rattle.l3_stream.specs.Tape.{FramesFit, stream_of}
use Rattle.l3_commit.specs.declared.report.Report.{Report}
use Rattle.l3_commit.specs.declared.report.EncodeFault.{EncodeFault}
use Rattle.l3_commit.specs.declared.report.EncodeFault.TheVariants.{Memory, Wav, Read, Write}
use Rattle.l3_commit.specs.Encoding.{encoding_of, gains_tried}
use Rattle.l3_encoder.specs.Changes.{SourceChange, SinkChange}

-- the settings of a file with this head, at a rate
abbrev pub settings_with : Rate → WavHead → Settings
settings_with rate head = record { rate = rate; sample_rate = head.rate; channels = head.channels }

-- the values of its data, one of each channel in turn
abbrev pub values_in : WavHead → List ℕ → List ℤ
values_in head bytes = coming (unread head.channels head.data_bytes) (after_head bytes)

-- its left samples, and its right ones, of which mono has none
abbrev pub left_in : WavHead → List ℕ → List ℤ
left_in head bytes = left_of head.channels (values_in head bytes)

abbrev pub right_in : WavHead → List ℕ → List ℤ
right_in head bytes = right_of head.channels (values_in head bytes)

-- the encoding of a file, by what its head says; a file whose head is refused has none
abbrev pub encoding_by : Rate → Result WavHead WavFault → List ℕ → Option (List ℕ)
encoding_by rate (Ok head) bytes =
    Some (encoding_of (settings_with rate head) (left_in head bytes) (right_in head bytes))
encoding_by rate (Err why) bytes = None

abbrev pub encoding_in : Rate → List ℕ → Option (List ℕ)
encoding_in rate bytes = encoding_by rate (wav_of bytes) bytes

-- what follows its data; of a file whose head is refused, what follows the bytes that refuse it
abbrev pub rest_by : Result WavHead WavFault → List ℕ → List ℕ
rest_by (Ok head) bytes = drop head.data_bytes (after_head bytes)
rest_by (Err why) bytes = after_head bytes

abbrev pub rest_in : List ℕ → List ℕ
rest_in bytes = rest_by (wav_of bytes) bytes

-- how many frames it has
abbrev pub frame_number_by : Result WavHead WavFault → List ℕ → ℕ
frame_number_by (Ok head) bytes = frames_for (length (left_in head bytes))
frame_number_by (Err why) bytes = 0

abbrev pub frame_number_in : List ℕ → ℕ
frame_number_in bytes = frame_number_by (wav_of bytes) bytes

-- how many gains their choice tries
abbrev pub gains_by : Rate → Result WavHead WavFault → List ℕ → ℕ
gains_by rate (Ok head) bytes = gains_tried (settings_with rate head) (left_in head bytes) (right_in head bytes)
gains_by rate (Err why) bytes = 0

abbrev pub gains_in : Rate → List ℕ → ℕ
gains_in rate bytes = gains_by rate (wav_of bytes) bytes

-- a report's numbers are those of a file
pub record IsReport (rate : Rate) (bytes : List ℕ) (report : Report) : Type 0 where
  pub frames : report.frames ≡ frame_number_in bytes
  pub tried : report.tried ≡ gains_in rate bytes

-- its head is accepted
abbrev pub IsAccepted : List ℕ → Type 0
IsAccepted bytes = (head : WavHead) × (wav_of bytes ≡ Ok head)

-- they are bytes
abbrev pub AreBytes : List ℕ → Type 0
AreBytes bytes = All (λ byte. byte < 2 ^ 8) bytes

-- a front of a stream was taken; where there is none, nothing
abbrev pub TakesFrontOf : Option (List ℕ) → (old new : List ℕ → Type 0) → Type 0
TakesFrontOf (Some stream) old new = TakesPrefix old new stream
TakesFrontOf None old new = Stands old new

-- of the encoding of a file a front was taken
abbrev pub TakesFront : Rate → List ℕ → SinkChange → Type 0
TakesFront rate bytes sink = AreBytes bytes → TakesFrontOf (encoding_in rate bytes) sink.taken sink.taken_now

-- what an answer says of the bytes that were read and written
abbrev pub ExplainsReport : Rate → Result Report EncodeFault → SourceChange → SinkChange → Type 0
ExplainsReport rate (Ok report) source sink = IfSome source.left (λ bytes.
    IsSomeAnd (encoding_in rate bytes) (λ stream. Takes sink.taken sink.taken_now stream) × IsReport rate bytes report)
ExplainsReport rate (Err Memory) source sink = IfSome source.left IsAccepted × sink.untouched
ExplainsReport rate (Err (Wav why)) source sink =
    IfSome source.left (λ bytes. wav_of bytes ≡ Err why) × (why ≢ fault.Read) × sink.untouched
ExplainsReport rate (Err Read) source sink = IfSome source.left (λ bytes. TakesFront rate bytes sink)
ExplainsReport rate (Err Write) source sink = IfSome source.left (λ bytes. IsAccepted bytes × TakesFront rate bytes sink)

-- whatever the source tells: the stream of some frames that fit, at this rate, was taken, as many
-- as are told of; after a fault of reading or writing a front of it; and at any other answer
-- nothing
abbrev pub GivesSomeFrames : Rate → Result Report EncodeFault → SinkChange → Type 0
GivesSomeFrames rate (Ok report) sink = (st : Settings) × (fs : List ChosenFrame) × (st.rate ≡ rate) × FramesFit st 0 0 fs
    × Takes sink.taken sink.taken_now (stream_of st fs) × (report.frames ≡ length fs)
GivesSomeFrames rate (Err Memory) sink = sink.untouched
GivesSomeFrames rate (Err (Wav why)) sink = sink.untouched
GivesSomeFrames rate (Err Read) sink = (st : Settings) × (fs : List ChosenFrame) × (st.rate ≡ rate) × FramesFit st 0 0 fs
    × TakesPrefix sink.taken sink.taken_now (stream_of st fs)
GivesSomeFrames rate (Err Write) sink = (st : Settings) × (fs : List ChosenFrame) × (st.rate ≡ rate) × FramesFit st 0 0 fs
    × TakesPrefix sink.taken sink.taken_now (stream_of st fs)

-- of head and data no more than all is gone; of a refused file no more than what refuses it
abbrev pub HasReadSome : List ℕ → Option (List ℕ) → Type 0
HasReadSome bytes now = HasLost (length bytes - length (rest_in bytes)) bytes now

-- what an answer leaves of a file: what follows its data, or the bytes that refuse it; where memory
-- ran out, what follows its head; where a read or a write failed, what follows the data or more
abbrev pub LeavesInput : Result Report EncodeFault → List ℕ → Option (List ℕ) → Type 0
LeavesInput (Ok report) bytes now = now ≡ Some (rest_in bytes)
LeavesInput (Err Memory) bytes now = now ≡ Some (after_head bytes)
LeavesInput (Err (Wav why)) bytes now = now ≡ Some (rest_in bytes)
LeavesInput (Err Read) bytes now = HasReadSome bytes now
LeavesInput (Err Write) bytes now = HasReadSome bytes now

-- the answer comes before the first granule is counted
abbrev pub IsBeforeFirst : Result Report EncodeFault → Type 0
IsBeforeFirst (Ok report) = ⊥
IsBeforeFirst (Err Memory) = ⊤
IsBeforeFirst (Err (Wav why)) = ⊤
IsBeforeFirst (Err Read) = ⊥
IsBeforeFirst (Err Write) = ⊥

-- how many faults the source counts: one at a read fault, and else none
abbrev pub CountsReads : Result Report EncodeFault → SourceChange → Type 0
CountsReads (Ok report) source = source.faults_now ≡ source.faults
CountsReads (Err Memory) source = source.faults_now ≡ source.faults
CountsReads (Err (Wav why)) source = source.faults_now ≡ source.faults
CountsReads (Err Read) source = source.faults_now ≡ count_after source.faults
CountsReads (Err Write) source = source.faults_now ≡ source.faults

-- how many the sink does: one at a write fault, and else none
abbrev pub CountsWrites : Result Report EncodeFault → SinkChange → Type 0
CountsWrites (Ok report) sink = sink.faults_now ≡ sink.faults
CountsWrites (Err Memory) sink = sink.faults_now ≡ sink.faults
CountsWrites (Err (Wav why)) sink = sink.faults_now ≡ sink.faults
CountsWrites (Err Read) sink = sink.faults_now ≡ sink.faults
CountsWrites (Err Write) sink = sink.faults_now ≡ count_after sink.faults
