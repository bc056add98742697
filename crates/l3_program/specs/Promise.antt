-- What a run of the program promises, by the command that its words ask for, by its status, and by
-- what source, sink and notes were before and after.
use Rattle.std.specs.Prelude.{◌≡◌, ◌≢◌, ℕ, List, Option, Some, None, Err, IfSome, IsSome, IsSomeAnd, ◌⊎◌, ⊤}
use Rattle.l3_base.specs.declared.rate.Rate.{Rate}
use Rattle.l3_encoder.specs.Changes.{SourceChange, SinkChange}
use Rattle.l3_encoder.specs.Encoded.{encoding_in, TakesFront, TakesFrontOf}
use Rattle.l3_io.specs.Causes.{IsSteady, count_after}
use Rattle.l3_io.specs.Taken.{Takes}
use Rattle.l3_wav.specs.declared.fault.WavFault.{WavFault}
use Rattle.l3_wav.specs.Wav.{wav_of}
use Rattle.l3_words.specs.declared.command.DemoWords.{DemoWords}
use Rattle.l3_words.specs.declared.command.EncodeWords.{EncodeWords}
use Rattle.l3_program.specs.declared.ending.Ending.{Ending}
use Rattle.l3_program.specs.declared.ending.Ending.TheVariants as ending
use Rattle.l3_program.specs.declared.status.Status.{Status}
use Rattle.l3_program.specs.declared.status.Status.TheVariants as status
use Rattle.l3_program.specs.declared.words.Command.{Command}
use Rattle.l3_program.specs.declared.words.Command.TheVariants.{Encode, Check, Demo}
use Rattle.l3_program.specs.Check.{deviation_in, line_in}
use Rattle.l3_program.specs.Demo.{digest_line_in, file_for}
use Rattle.l3_program.specs.Program.{AreTold, HasNoStatistics, HasStatistics, IsRefused, Leaves, MayCome, Encodes, input_of, output_of}
use Rattle.l3_program.specs.Status.{refusal_of, status_of}

-- it is refused as words are, or there was no memory, and nothing was read or written
abbrev pub RefusesWords : Status → SourceChange → SinkChange → Type 0
RefusesWords s source sink = ((s ≡ status.Usage) ⊎ (s ≡ status.Memory)) × source.unread × sink.untouched

-- the status is this one, or there was no memory, and nothing was read
abbrev pub IsOrLacks : Status → Status → SourceChange → Type 0
IsOrLacks wanted s source = (s ≡ wanted) ⊎ ((s ≡ status.Memory) × source.unread)

-- a head is refused only where the file's own is, and wherever it is, if no read failed
pub record RefusesHeads (s : Status) (source : SourceChange) : Type 0 where
  pub bad_wav : s ≡ status.BadWav → IfSome source.left (IsRefused status.BadWav)
  pub unsupported : s ≡ status.Unsupported → IfSome source.left (IsRefused status.Unsupported)
  pub refused : IsSteady source.faults source.faults_now →
      IfSome source.left (λ bytes. (why : WavFault) → wav_of bytes ≡ Err why → IsOrLacks (refusal_of why) s source)

-- of the encoding of the source's file at this rate a front was written, all of it at success; at a
-- status other than success and the two faults nothing
pub record WritesStream (rate : Rate) (s : Status) (source : SourceChange) (sink : SinkChange) : Type 0 where
  pub front : IfSome source.left (λ bytes. TakesFront rate bytes sink)
  pub whole : s ≡ status.Ok → IfSome source.left (λ bytes. IsSomeAnd (encoding_in rate bytes) (λ encoding. Takes sink.taken sink.taken_now encoding))
  pub nothing : s ≢ status.Ok → s ≢ status.ReadFault → s ≢ status.WriteFault → sink.untouched

-- of a line a front was written, all of it at success; at a status other than success and a write
-- fault nothing
pub record WritesLine (line : Option (List ℕ)) (s : Status) (sink : SinkChange) : Type 0 where
  pub front : TakesFrontOf line sink.taken sink.taken_now
  pub whole : s ≡ status.Ok → IsSomeAnd line (λ text. Takes sink.taken sink.taken_now text)

-- a stream is refused only where it deviates, and wherever it does, if no read failed; of the line of
-- the stream a front was written
pub record ChecksStream (s : Status) (source : SourceChange) (sink : SinkChange) : Type 0 where
  pub bad_stream : s ≡ status.BadStream → IfSome source.left (λ bytes. IsSome (deviation_in bytes))
  pub deviates : IsSteady source.faults source.faults_now →
      IfSome source.left (λ bytes. IsSome (deviation_in bytes) → IsOrLacks status.BadStream s source)
  pub line : IfSome source.left (λ bytes. WritesLine (line_in bytes) s sink)
  pub nothing : s ≢ status.Ok → s ≢ status.WriteFault → sink.untouched

-- nothing was read; of the line of the signal's stream a front was written
pub record ShowsSignal (words : DemoWords) (s : Status) (source : SourceChange) (sink : SinkChange) : Type 0 where
  pub unread : source.unread
  pub line : WritesLine (digest_line_in words.options.rate (file_for words)) s sink
  pub nothing : s ≢ status.Ok → s ≢ status.WriteFault → sink.untouched

-- what the text of an ending says is so: statistics are the file's and come where they are asked
-- for, the name of a fault is that of the file's own
abbrev pub SaysTrue : Option Command → Ending → Option (List ℕ) → (Made : ℕ → Type 0) → Type 0
SaysTrue asked ending.Done left Made = IsSomeAnd asked HasNoStatistics
SaysTrue asked (ending.Counted report) left Made = IsSomeAnd asked (λ command. HasStatistics command report left Made)
SaysTrue asked (ending.Refused why) left Made = IfSome left (λ bytes. wav_of bytes ≡ Err why)
SaysTrue asked (ending.Deviates why) left Made = IfSome left (λ bytes. deviation_in bytes ≡ Some why)
SaysTrue asked ending.Usage left Made = asked ≡ None
SaysTrue asked ending.ReadFault left Made = ⊤
SaysTrue asked ending.WriteFault left Made = ⊤
SaysTrue asked ending.Memory left Made = ⊤

-- notes were told the text of an ending of this status, whose words are true: a front of it, and the
-- whole where no write to them failed
pub record TellsNotes (asked : Option Command) (s : Status) (left : Option (List ℕ)) (notes : SinkChange) (Made : ℕ → Type 0) : Type 0 where
  pub ending : Ending
  pub status : s ≡ status_of ending
  pub says : SaysTrue asked ending left Made
  pub told : AreTold ending notes

-- the whole promise
pub record Promise (asked : Option Command) (s : Status) (source : SourceChange) (sink told : SinkChange) (Made : ℕ → Type 0) : Type 0 where
  -- words are refused only where they ask for no command, and wherever they do
  pub usage_only : s ≡ status.Usage → asked ≡ None
  pub usage : asked ≡ None → RefusesWords s source sink
  -- what `encode` refuses, and what it writes
  pub head : (words : EncodeWords) → asked ≡ Some (Encode words) → RefusesHeads s source
  pub written : (words : EncodeWords) → asked ≡ Some (Encode words) → WritesStream words.options.rate s source sink
  -- what is left of the input: what follows the data, or the bytes that refuse a head, or the frame
  -- at which a stream deviates; where a call failed or memory ran out no less than that
  pub rest : IfSome asked (λ command. IfSome source.left (λ bytes. Leaves command s bytes source.left_now))
  -- what `check` and `demo` do
  pub checked : asked ≡ Some Check → ChecksStream s source sink
  pub demo : (words : DemoWords) → asked ≡ Some (Demo words) → ShowsSignal words s source sink
  -- what is told
  pub notes : TellsNotes asked s source.left told Made
  -- a fault has its cause, and a cause is told: at a read fault one read failed, and else none; at a
  -- write fault one write, and else none
  pub cause_read : (s ≡ status.ReadFault → source.faults_now ≡ count_after source.faults) × (s ≢ status.ReadFault → source.faults_now ≡ source.faults)
  pub cause_write : (s ≡ status.WriteFault → sink.faults_now ≡ count_after sink.faults) × (s ≢ status.WriteFault → sink.faults_now ≡ sink.faults)
  -- without faults a command does its work on each input that it takes, or there is no memory
  pub complete : IsSteady source.faults source.faults_now → IsSteady sink.faults sink.faults_now →
      IfSome asked (λ command. IfSome (input_of command source.left) (λ bytes. IsSome (output_of command bytes) →
      (s ≡ status.Ok) ⊎ ((s ≡ status.Memory) × (Encodes command ⊎ source.unread))))
  -- each status comes of its commands alone
  pub comes : MayCome asked s
