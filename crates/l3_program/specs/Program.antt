-- What an ending says of the input and the output of a command.
use Rattle.std.specs.Prelude.{◌≡◌, ◌≢◌, ℕ, ◌+◌, Bool, true, false, List, [], Option, Some, None, Result, Ok, Err, IfSome, IsSomeAnd, ◌⊎◌, ⊤}
use Rattle.l3_io.specs.Causes.{IsSteady, count_after}
use Rattle.l3_io.specs.Taken.{Takes, TakesPrefix}
use Rattle.l3_encoder.specs.Changes.{SourceChange, SinkChange}
use Rattle.l3_base.specs.declared.rate.Rate.{Rate}
use Rattle.l3_base.specs.declared.settings.Settings.{Settings}
use Rattle.l3_commit.specs.declared.report.Report.{Report}
use Rattle.l3_commit.specs.declared.report.EncodeFault.{EncodeFault}
use Rattle.l3_commit.specs.declared.report.EncodeFault.TheVariants as encode_fault
use Rattle.l3_encoder.specs.Encoded.{encoding_in, rest_in, IsAccepted, IsReport, HasReadSome, TakesFront, TakesFrontOf}
use Rattle.l3_frames.specs.InTurn.{HasStopped}
use Rattle.l3_stream.specs.declared.fault.StreamFault.TheVariants as stream
use Rattle.l3_stream.specs.declared.unit.ChosenFrame.{ChosenFrame}
use Rattle.l3_stream.specs.Tape.{FramesFit, stream_of}
use Rattle.l3_wav.specs.declared.fault.WavFault.{WavFault}
use Rattle.l3_wav.specs.declared.fault.WavFault.TheVariants as fault
use Rattle.l3_wav.specs.Wav.{wav_of, after_head}
use Rattle.l3_words.specs.declared.command.EncodeWords.{EncodeWords}
use Rattle.l3_program.specs.declared.status.Status.{Status}
use Rattle.l3_program.specs.declared.status.Status.TheVariants as status
use Rattle.l3_program.specs.declared.ending.Ending.{Ending}
use Rattle.l3_program.specs.declared.ending.Ending.TheVariants as ending
use Rattle.l3_program.specs.declared.process.NoWords.{NoWords}
use Rattle.l3_program.specs.declared.process.NoWords.TheVariants as no_words
use Rattle.l3_program.specs.declared.words.Command.{Command}
use Rattle.l3_program.specs.declared.words.Command.TheVariants.{Encode, Check, Demo}
use Rattle.l3_program.specs.Check.{frames_limit, line_in, deviation_in}
use Rattle.l3_program.specs.Demo.{digest_line_in, file_for}
use Rattle.l3_program.specs.Status.{exit_number, refusal_of, reused_of, status_of, text_of}

-- the head of the file is refused, with this status
abbrev pub IsRefused : Status → List ℕ → Type 0
IsRefused s bytes = (why : WavFault) × (wav_of bytes ≡ Err why) × (refusal_of why ≡ s)

-- what a command is given: the file of the source, or, the demo, the file of its own signal
abbrev pub input_of : Command → Option (List ℕ) → Option (List ℕ)
input_of (Encode words) left = left
input_of Check left = left
input_of (Demo words) left = Some (file_for words)

-- what a command makes of a file: its encoding, or the line of a stream, or the line that tells the
-- digest of its encoding; nothing of a file that it refuses
abbrev pub output_of : Command → List ℕ → Option (List ℕ)
output_of (Encode words) bytes = encoding_in words.options.rate bytes
output_of Check bytes = line_in bytes
output_of (Demo words) bytes = digest_line_in words.options.rate bytes

-- what it leaves of the source's file where it takes it: what follows the data, or nothing; the
-- demo all
abbrev pub rest_of : Command → List ℕ → List ℕ
rest_of (Encode words) bytes = rest_in bytes
rest_of Check bytes = []
rest_of (Demo words) bytes = bytes

-- it encodes the file of the source
abbrev pub Encodes : Command → Type 0
Encodes (Encode words) = ⊤
Encodes Check = ⊥
Encodes (Demo words) = ⊥

-- it reads the source
abbrev pub Reads : Command → Type 0
Reads (Encode words) = ⊤
Reads Check = ⊤
Reads (Demo words) = ⊥

-- it needs memory
abbrev pub NeedsMemory : Command → Type 0
NeedsMemory (Encode words) = ⊤
NeedsMemory Check = ⊥
NeedsMemory (Demo words) = ⊤

-- the source is as it was, where the command does not read it
abbrev pub KeepsSource : Command → SourceChange → Type 0
KeepsSource (Encode words) source = ⊤
KeepsSource Check source = ⊤
KeepsSource (Demo words) source = source.unread

-- what is left where a read failed: of head and data some is gone, or some whole frames and less
-- than one more
abbrev pub LeavesMidway : Command → List ℕ → Option (List ℕ) → Type 0
LeavesMidway (Encode words) bytes now = HasReadSome bytes now
LeavesMidway Check bytes now = HasStopped frames_limit bytes stream.Read now
LeavesMidway (Demo words) bytes now = ⊥

-- what is left where there was no memory: all, or of a file to be encoded what follows its head
abbrev pub LeavesUnread : Command → List ℕ → Option (List ℕ) → Type 0
LeavesUnread (Encode words) bytes now = (now ≡ Some (after_head bytes)) ⊎ (now ≡ Some bytes)
LeavesUnread Check bytes now = now ≡ Some bytes
LeavesUnread (Demo words) bytes now = now ≡ Some bytes

-- what is left where a write failed: of head and data some is gone; a command that writes last has
-- read all that it takes
abbrev pub LeavesUnwritten : Command → List ℕ → Option (List ℕ) → Type 0
LeavesUnwritten (Encode words) bytes now = HasReadSome bytes now
LeavesUnwritten Check bytes now = now ≡ Some []
LeavesUnwritten (Demo words) bytes now = now ≡ Some bytes

-- what a command leaves of a file, by its status: of a refused head what follows the bytes that
-- refuse it; of a stream that deviates what follows the frame at which it does, or its header where
-- that alone tells
abbrev pub Leaves : Command → Status → List ℕ → Option (List ℕ) → Type 0
Leaves command status.Ok bytes now = now ≡ Some (rest_of command bytes)
Leaves command status.Memory bytes now = LeavesUnread command bytes now
Leaves command status.Usage bytes now = now ≡ Some bytes
Leaves command status.BadWav bytes now = now ≡ Some (rest_in bytes)
Leaves command status.Unsupported bytes now = now ≡ Some (rest_in bytes)
Leaves command status.ReadFault bytes now = LeavesMidway command bytes now
Leaves command status.WriteFault bytes now = LeavesUnwritten command bytes now
Leaves command status.BadStream bytes now = IsSomeAnd (deviation_in bytes) (λ why. HasStopped frames_limit bytes why now)

-- how many failed reads are counted after an ending, and how many failed writes: one more at its
-- fault, and else none
abbrev pub failed_reads_at : Ending → ℕ → ℕ
failed_reads_at ending.ReadFault before = count_after before
failed_reads_at other before = before

abbrev pub failed_writes_at : Ending → ℕ → ℕ
failed_writes_at ending.WriteFault before = count_after before
failed_writes_at other before = before

-- the words ask for no statistics
abbrev pub HasNoStatistics : Command → Type 0
HasNoStatistics (Encode words) = words.stats ≡ false
HasNoStatistics Check = ⊤
HasNoStatistics (Demo words) = ⊤

-- the words ask for statistics, and these are the file's: so many frames, and so many gains tried,
-- of whose counts some were made, as `Made` says, and the others reused; without workers all are made
pub record AreStatistics (words : EncodeWords) (report : Report) (left : Option (List ℕ)) (Made : ℕ → Type 0) : Type 0 where
  pub wanted : words.stats ≡ true
  pub numbers : IfSome left (λ bytes. IsReport words.options.rate bytes report)
  pub sum : report.made + reused_of report ≡ report.tried
  pub made : Made report.made
  pub alone : words.options.workers ≡ 0 → report.made ≡ report.tried

abbrev pub HasStatistics : Command → Report → Option (List ℕ) → (Made : ℕ → Type 0) → Type 0
HasStatistics (Encode words) report left Made = AreStatistics words report left Made
HasStatistics Check report left Made = ⊥
HasStatistics (Demo words) report left Made = ⊥

-- a front of what a command makes of a file was written; of a file of which it makes nothing, nothing
abbrev pub WritesFront : Command → List ℕ → SinkChange → Type 0
WritesFront (Encode words) bytes sink = TakesFront words.options.rate bytes sink
WritesFront Check bytes sink = TakesFrontOf (line_in bytes) sink.taken sink.taken_now
WritesFront (Demo words) bytes sink = TakesFrontOf (digest_line_in words.options.rate bytes) sink.taken sink.taken_now

-- what was written where a read failed: of a stream a front, of a line nothing
abbrev pub WritesMidway : Command → Option (List ℕ) → SinkChange → Type 0
WritesMidway (Encode words) left sink = IfSome left (λ bytes. TakesFront words.options.rate bytes sink)
WritesMidway Check left sink = sink.untouched
WritesMidway (Demo words) left sink = ⊥

-- what was written where a write failed: a front, of a file that is not refused
abbrev pub FailsToWrite : Command → List ℕ → SinkChange → Type 0
FailsToWrite (Encode words) bytes sink = IsAccepted bytes × TakesFront words.options.rate bytes sink
FailsToWrite Check bytes sink = IsSomeAnd (line_in bytes) (λ line. TakesPrefix sink.taken sink.taken_now line)
FailsToWrite (Demo words) bytes sink =
    IsSomeAnd (digest_line_in words.options.rate bytes) (λ line. TakesPrefix sink.taken sink.taken_now line)

-- whatever the source tells: some frames that fit were written as their stream at this rate, or,
-- where a read or a write failed, a front of it, and at any other status nothing
abbrev pub FramesAt : Rate → Status → SinkChange → Type 0
FramesAt rate status.Ok sink = (st : Settings) × (fs : List ChosenFrame) × (st.rate ≡ rate) × FramesFit st 0 0 fs
    × Takes sink.taken sink.taken_now (stream_of st fs)
FramesAt rate status.ReadFault sink = (st : Settings) × (fs : List ChosenFrame) × (st.rate ≡ rate) × FramesFit st 0 0 fs
    × TakesPrefix sink.taken sink.taken_now (stream_of st fs)
FramesAt rate status.WriteFault sink = (st : Settings) × (fs : List ChosenFrame) × (st.rate ≡ rate) × FramesFit st 0 0 fs
    × TakesPrefix sink.taken sink.taken_now (stream_of st fs)
FramesAt rate status.Memory sink = sink.untouched
FramesAt rate status.Usage sink = sink.untouched
FramesAt rate status.BadWav sink = sink.untouched
FramesAt rate status.Unsupported sink = sink.untouched
FramesAt rate status.BadStream sink = sink.untouched

-- the same of a command, where it is to encode the source's file
abbrev pub WritesFrames : Command → Status → SinkChange → Type 0
WritesFrames (Encode words) status sink = FramesAt words.options.rate status sink
WritesFrames Check status sink = ⊤
WritesFrames (Demo words) status sink = ⊤

-- what an ending of a command says of the file and of the bytes that were written
abbrev pub ExplainsEnding : Command → Ending → SourceChange → SinkChange → (Made : ℕ → Type 0) → Type 0
ExplainsEnding command ending.Done source sink Made = HasNoStatistics command × IfSome (input_of command source.left) (λ bytes.
    IsSomeAnd (output_of command bytes) (λ output. Takes sink.taken sink.taken_now output))
ExplainsEnding command (ending.Counted report) source sink Made =
    HasStatistics command report source.left Made × IfSome (input_of command source.left) (λ bytes.
    IsSomeAnd (output_of command bytes) (λ output. Takes sink.taken sink.taken_now output))
ExplainsEnding command (ending.Refused why) source sink Made =
    Encodes command × IfSome source.left (λ bytes. wav_of bytes ≡ Err why) × (why ≢ fault.Read) × sink.untouched
ExplainsEnding command (ending.Deviates why) source sink Made =
    (command ≡ Check) × IfSome source.left (λ bytes. deviation_in bytes ≡ Some why)
    × (why ≢ stream.Read) × (why ≢ stream.Memory) × sink.untouched
ExplainsEnding command ending.ReadFault source sink Made = Reads command × WritesMidway command source.left sink
ExplainsEnding command ending.WriteFault source sink Made =
    IfSome (input_of command source.left) (λ bytes. FailsToWrite command bytes sink)
ExplainsEnding command ending.Memory source sink Made =
    NeedsMemory command × IfSome (input_of command source.left) IsAccepted × sink.untouched
ExplainsEnding command ending.Usage source sink Made = ⊥

-- a command ended so: what it wrote, what it left of the source's file, and which faults were counted;
-- `Made` says how many counts of gains were made
pub record Ends (command : Command) (ending : Ending) (source : SourceChange) (sink : SinkChange) (Made : ℕ → Type 0) : Type 0 where
  pub explains : ExplainsEnding command ending source sink Made
  pub frames : WritesFrames command (status_of ending) sink
  pub left : IfSome source.left (λ bytes. Leaves command (status_of ending) bytes source.left_now)
  pub kept : KeepsSource command source
  pub reads : source.faults_now ≡ failed_reads_at ending source.faults
  pub writes : sink.faults_now ≡ failed_writes_at ending sink.faults

-- how an encoding ends, by whether statistics are wanted and by its answer
abbrev pub encoded_ending : Bool → Report → Ending
encoded_ending true report = ending.Counted report
encoded_ending false report = ending.Done

abbrev pub ending_by : EncodeWords → Result Report EncodeFault → Ending
ending_by words (Ok report) = encoded_ending words.stats report
ending_by words (Err encode_fault.Memory) = ending.Memory
ending_by words (Err (encode_fault.Wav why)) = ending.Refused why
ending_by words (Err encode_fault.Read) = ending.ReadFault
ending_by words (Err encode_fault.Write) = ending.WriteFault

-- counts are made, and it is not told how many
abbrev pub any_number : ℕ → Type 0
any_number made = ⊤

-- no source at all
abbrev pub no_source : SourceChange
no_source = record { left = None; left_now = None; faults = 0; faults_now = 0; unread = ⊤ }

-- it ended so, and nothing was read or written
abbrev pub EndsUntouched : Ending → SourceChange → SinkChange → Ending → Type 0
EndsUntouched wanted source sink end = (end ≡ wanted) × source.unread × sink.untouched

-- what was done, by the command that was asked for; words that are refused ask for none
abbrev pub Does : Option Command → SourceChange → SinkChange → (Made : ℕ → Type 0) → Ending → Type 0
Does None source sink Made end = EndsUntouched ending.Usage source sink end
Does (Some command) source sink Made end = Ends command end source sink Made

-- the same where there may have been no memory to read the words, or for the guessers
abbrev pub DoesOrLacks : Option Command → SourceChange → SinkChange → (Made : ℕ → Type 0) → Ending → Type 0
DoesOrLacks asked source sink Made end = Does asked source sink Made end ⊎ EndsUntouched ending.Memory source sink end

-- the statuses that may come of a command, or of words that are none
abbrev pub MayCome : Option Command → Status → Type 0
MayCome asked status.Ok = IsSomeAnd asked (λ command. ⊤)
MayCome asked status.Usage = asked ≡ None
MayCome asked status.BadWav = IsSomeAnd asked Encodes
MayCome asked status.Unsupported = IsSomeAnd asked Encodes
MayCome asked status.BadStream = asked ≡ Some Check
MayCome asked status.ReadFault = IsSomeAnd asked Reads
MayCome asked status.WriteFault = IsSomeAnd asked (λ command. ⊤)
MayCome asked status.Memory = ⊤

-- what notes are told of an ending: a front of its text, the whole of it where their count was
-- steady
pub record AreTold (ending : Ending) (notes : SinkChange) : Type 0 where
  pub front : TakesPrefix notes.taken notes.taken_now (text_of ending)
  pub whole : IsSteady notes.faults notes.faults_now → Takes notes.taken notes.taken_now (text_of ending)

-- a run ended so: what was done by that ending, and what notes were told of it
pub record HasRun (Did : Ending → Type 0) (result : Status) (notes : SinkChange) : Type 0 where
  pub ending : Ending
  pub status : result ≡ status_of ending
  pub did : Did ending
  pub told : AreTold ending notes

-- the exit status of a process is that of a run
abbrev pub HasExited : (Ending → Type 0) → ℕ → SinkChange → Type 0
HasExited Did code notes = (status : Status) × (code ≡ exit_number status) × HasRun Did status notes

-- how a run ends whose arguments could not be had
abbrev pub ending_without : NoWords → Ending
ending_without no_words.NotText = ending.Usage
ending_without no_words.Memory = ending.Memory
