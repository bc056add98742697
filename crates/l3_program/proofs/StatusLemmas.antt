-- From what an ending says of input and output, each clause of the program.
use Rattle.std.proofs.Common.{◌≡◌, ◌⊎◌, ℕ, List, refl, ap, ◌∙◌, sym, inl, inr, arith}
use Rattle.std.specs.Prelude.{Option, Some, None, IfSome, IsSome, IsSomeAnd, Result, Ok, Err, OnErr}
use Rattle.std.proofs.lemmas.Option.{IfSome_then}
use Rattle.l3_io.specs.Causes.{IsSteady, count_after}
use Rattle.l3_io.specs.Taken.{Takes, TakesPrefix, Stands, Writes}
use Rattle.l3_io.proofs.TakenLemmas.{TakesPrefix-none, TakesPrefix-whole}
use Rattle.l3_wav.specs.declared.head.WavHead.{WavHead}
use Rattle.l3_wav.specs.declared.fault.WavFault.{WavFault}
use Rattle.l3_wav.specs.declared.fault.WavFault.TheVariants.{NotRiff, HeaderEnds, NoFmtBeforeData, HeaderTooLong, UnsupportedFormat, UnsupportedChannels, UnsupportedRate, UnsupportedDepth, BadBlockAlign, Read}
use Rattle.l3_wav.specs.Wav.{wav_of}
use Rattle.l3_base.specs.declared.rate.Rate.{Rate}
use Rattle.l3_commit.specs.declared.report.Report.{Report}
use Rattle.l3_words.specs.declared.command.DemoWords.{DemoWords}
use Rattle.l3_words.specs.declared.command.EncodeWords.{EncodeWords}
use Rattle.l3_encoder.specs.Changes.{SourceChange, SinkChange}
use Rattle.l3_encoder.specs.Encoded.{encoding_in, rest_in, TakesFrontOf}
use Rattle.l3_frames.specs.InTurn.{HasStopped}
use Rattle.l3_stream.specs.declared.fault.StreamFault.{StreamFault}
use Rattle.l3_stream.specs.Deviation.{Content, deviation_of, fault_in}
use Rattle.l3_program.specs.declared.status.Status.{Status}
use Rattle.l3_program.specs.declared.status.Status.TheVariants as status
use Rattle.l3_program.specs.declared.ending.Ending.{Ending}
use Rattle.l3_program.specs.declared.ending.Ending.TheVariants.{Done, Counted, Usage, Refused, Deviates, ReadFault, WriteFault, Memory}
use Rattle.l3_program.specs.declared.words.Command.{Command}
use Rattle.l3_program.specs.declared.words.Command.TheVariants.{Encode, Check, Demo}
use Rattle.l3_program.specs.Check.{frames_limit, reading_in, deviation_in, line_by, line_in}
use Rattle.l3_program.specs.Status.{status_of, refusal_of}
use Rattle.l3_program.specs.Demo.{digest_line_in, file_for}
use Rattle.l3_program.specs.Program.{AreTold, Does, DoesOrLacks, Encodes, Ends, FramesAt, HasRun, HasStatistics, IsRefused, KeepsSource, Leaves, LeavesUnread, MayCome, NeedsMemory}
use Rattle.l3_program.specs.Program.{WritesFrames, WritesFront, any_number, failed_reads_at, failed_writes_at, input_of, no_source, output_of}
use Rattle.l3_program.specs.Promise.{ChecksStream, Promise, SaysTrue, ShowsSignal, WritesLine, WritesStream}

IfSome-always : {X : Type 0} (o : Option X) (P : X → Type 0) → ((x : X) → P x) → IfSome o P
IfSome-always None P h = tt
IfSome-always (Some x) P h = h x

IfSome-from_and : {X : Type 0} (o : Option X) (P Q : X → Type 0) → IsSomeAnd o P → ((x : X) → P x → Q x) → IfSome o Q
IfSome-from_and None P Q p h = tt
IfSome-from_and (Some x) P Q p h = h x p

some_not_none : {X : Type 0} (o : Option X) (P : X → Type 0) → IsSomeAnd o P → o ≡ None → ⊥
some_not_none o P some none = rw none at some

-- ---- files that are refused

-- a file whose head is refused has no encoding
no_encoding : (rate : Rate) (bytes : List ℕ) (why : WavFault) → wav_of bytes ≡ Err why → encoding_in rate bytes ≡ None
no_encoding rate bytes why is = rw is refl

no_line_by : (read : Result Content StreamFault) → IsSome (fault_in read) → line_by read ≡ None
no_line_by (Ok content) some = cc
no_line_by (Err fault) some = refl

-- a stream that deviates has no line
no_line : (bytes : List ℕ) → IsSome (deviation_in bytes) → line_in bytes ≡ None
unfolding deviation_of
no_line bytes some = no_line_by (reading_in bytes) some

same_fault : (read : Result WavHead WavFault) (why because : WavFault) → read ≡ Err why → read ≡ Err because → why ≡ because
same_fault read why because one other = cc

not_both : (read : Result WavHead WavFault) (head : WavHead) (why : WavFault) → read ≡ Ok head → read ≡ Err why → ⊥
not_both read head why one other = cc

-- ---- statuses

is_refusal : (r s : Status) → r ≡ s → (s ≡ status.BadWav) ⊎ (s ≡ status.Unsupported) → (r ≡ status.BadWav) ⊎ (r ≡ status.Unsupported)
is_refusal r s is (inl bad) = inl (is ∙ bad)
is_refusal r s is (inr bad) = inr (is ∙ bad)

-- the statuses of heads that are refused
refusal_is : (why : WavFault) → (refusal_of why ≡ status.BadWav) ⊎ ((refusal_of why ≡ status.Unsupported) ⊎ ((why ≡ Read) × (refusal_of why ≡ status.ReadFault)))
refusal_is NotRiff = inl refl
refusal_is HeaderEnds = inl refl
refusal_is NoFmtBeforeData = inl refl
refusal_is HeaderTooLong = inl refl
refusal_is UnsupportedFormat = inr (inl refl)
refusal_is UnsupportedChannels = inr (inl refl)
refusal_is UnsupportedRate = inr (inl refl)
refusal_is UnsupportedDepth = inr (inl refl)
refusal_is BadBlockAlign = inl refl
refusal_is Read = inr (inr (refl, refl))

no_refusal : (why : WavFault) (s : Status) → refusal_of why ≡ s → (status.BadWav ≡ s → ⊥) → (status.Unsupported ≡ s → ⊥) → (status.ReadFault ≡ s → ⊥) → ⊥
no_refusal why s is bad unsupported read =
    elim (refusal_is why) [ inl b ↦ bad (sym b ∙ is) | inr (inl u) ↦ unsupported (sym u ∙ is) | inr (inr r) ↦ read (sym r.1 ∙ is) ]

read_is_read : (why : WavFault) → refusal_of why ≡ status.ReadFault → why ≡ Read
read_is_read why is =
    elim (refusal_is why) [ inl b ↦ cc | inr (inl u) ↦ cc | inr (inr r) ↦ r.0 ]

pub usage_is : (e : Ending) → status_of e ≡ status.Usage → e ≡ Usage
usage_is Usage is = refl
usage_is (Refused why) is = absurd (no_refusal why status.Usage is (λ same. cc) (λ same. cc) (λ same. cc))
usage_is (Deviates why) is = cc
usage_is Done is = cc
usage_is (Counted report) is = cc
usage_is ReadFault is = cc
usage_is WriteFault is = cc
usage_is Memory is = cc

-- a refused head leaves what follows the bytes that refuse it
pub refusal_leaves : (words : EncodeWords) (why : WavFault) (left now : Option (List ℕ)) → (why ≡ Read → ⊥) → IfSome left (λ bytes. now ≡ Some (rest_in bytes)) →
    IfSome left (λ bytes. Leaves (Encode words) (refusal_of why) bytes now)
refusal_leaves words why left now own is = elim (refusal_is why) [ inl b ↦ rw b is | inr (inl u) ↦ rw u is | inr (inr r) ↦ absurd (own r.0) ]

-- a stream that deviates leaves what its reading does
pub deviation_leaves : (why : StreamFault) (left now : Option (List ℕ)) → IfSome left (λ bytes. deviation_in bytes ≡ Some why) → IfSome left (λ bytes. HasStopped frames_limit bytes why now) →
    IfSome left (λ bytes. Leaves Check status.BadStream bytes now)
deviation_leaves why None now deviates stopped = tt
deviation_leaves why (Some bytes) now deviates stopped = rw deviates stopped

-- a call's count of faults that rose did not stand still
steady_count : (before now : ℕ) → IsSteady before now → now ≡ count_after before → ⊥
steady_count before now steady is = absurd (omega (arith, steady, is))

-- a head that is refused has no stream
pub refusal_frames : (rate : Rate) (why : WavFault) (sink : SinkChange) → (why ≡ Read → ⊥) → sink.untouched → FramesAt rate (refusal_of why) sink
refusal_frames rate why sink own untouched = elim (refusal_is why) [ inl b ↦ rw b untouched | inr (inl u) ↦ rw u untouched | inr (inr r) ↦ absurd (own r.0) ]

-- ---- fronts of what may be written

takes_whole : (o : Option (List ℕ)) (old new : List ℕ → Type 0) → IsSomeAnd o (λ text. Takes old new text) → TakesFrontOf o old new
takes_whole None old new p = absurd p
takes_whole (Some text) old new p = TakesPrefix-whole old new text p

takes_front : (o : Option (List ℕ)) (old new : List ℕ → Type 0) → IsSomeAnd o (λ text. TakesPrefix old new text) → TakesFrontOf o old new
takes_front None old new p = absurd p
takes_front (Some text) old new p = p

takes_nothing : (o : Option (List ℕ)) (old new : List ℕ → Type 0) → Stands old new → TakesFrontOf o old new
takes_nothing None old new stands = stands
takes_nothing (Some text) old new stands = TakesPrefix-none old new text stands

module _ (source : SourceChange) (sink : SinkChange) (Made : ℕ → Type 0) where
  abbrev pub Done_so : Option Command → Ending → Type 0
  Done_so asked e = Does asked source sink Made e

  refusal_may_come : (command : Command) (why : WavFault) → Encodes command → (why ≡ Read → ⊥) → MayCome (Some command) (refusal_of why)
  refusal_may_come command why encodes other = elim (refusal_is why) [ inl b ↦ rw b encodes | inr (inl u) ↦ rw u encodes | inr (inr r) ↦ absurd (other r.0) ]

  ends_may_come : (command : Command) (e : Ending) → Ends command e source sink Made → MayCome (Some command) (status_of e)
  ends_may_come command Done d = tt
  ends_may_come command (Counted report) d = tt
  ends_may_come command (Refused why) d = refusal_may_come command why d.explains.0 d.explains.2
  ends_may_come command (Deviates why) d = ap Some d.explains.0
  ends_may_come command ReadFault d = d.explains.0
  ends_may_come command WriteFault d = tt
  ends_may_come command Memory d = tt
  ends_may_come command Usage d = absurd d.explains

  -- each status comes of its commands alone
  may_come_done : (asked : Option Command) (e : Ending) → Done_so asked e → MayCome asked (status_of e)
  may_come_done (Some command) e d = ends_may_come command e d
  may_come_done None e d = rw d.0 refl

  -- words are refused where they ask for nothing
  usage_none_done : (asked : Option Command) (e : Ending) → Done_so asked e → e ≡ Usage → asked ≡ None
  usage_none_done None e d is = refl
  usage_none_done (Some command) e d is =
      let bad : Ends command Usage source sink Made = rw is at d in
      absurd bad.explains

  none_usage : (asked : Option Command) (e : Ending) → Done_so asked e → asked ≡ None → e ≡ Usage
  none_usage None e d is = d.0
  none_usage (Some command) e d is = cc

  usage_unread_done : (asked : Option Command) (e : Ending) → Done_so asked e → e ≡ Usage → source.unread
  usage_unread_done None e d is = d.1
  usage_unread_done (Some command) e d is =
      let bad : Ends command Usage source sink Made = rw is at d in
      absurd bad.explains

  refused_by_end : (s : Status) (command : Command) (e : Ending) → Ends command e source sink Made → status_of e ≡ s → (s ≡ status.BadWav) ⊎ (s ≡ status.Unsupported) → IfSome source.left (IsRefused s)
  refused_by_end s command (Refused why) d is which = IfSome_then source.left d.explains.1 (λ bytes same. (why, same, is))
  refused_by_end s command (Deviates why) d is which = elim (is_refusal status.BadStream s is which) [ inl bad ↦ cc | inr bad ↦ cc ]
  refused_by_end s command Done d is which = elim (is_refusal status.Ok s is which) [ inl bad ↦ cc | inr bad ↦ cc ]
  refused_by_end s command (Counted report) d is which = elim (is_refusal status.Ok s is which) [ inl bad ↦ cc | inr bad ↦ cc ]
  refused_by_end s command Usage d is which = absurd d.explains
  refused_by_end s command ReadFault d is which = elim (is_refusal status.ReadFault s is which) [ inl bad ↦ cc | inr bad ↦ cc ]
  refused_by_end s command WriteFault d is which = elim (is_refusal status.WriteFault s is which) [ inl bad ↦ cc | inr bad ↦ cc ]
  refused_by_end s command Memory d is which = elim (is_refusal status.Memory s is which) [ inl bad ↦ cc | inr bad ↦ cc ]

  usage_is_no_refusal : (s : Status) → status.Usage ≡ s → (s ≡ status.BadWav) ⊎ (s ≡ status.Unsupported) → ⊥
  usage_is_no_refusal s is which = elim (is_refusal status.Usage s is which) [ inl bad ↦ cc | inr bad ↦ cc ]

  usage_status : (e : Ending) (s : Status) → e ≡ Usage → status_of e ≡ s → status.Usage ≡ s
  usage_status e s end is = sym (ap status_of end) ∙ is

  -- a status that refuses a head comes from an ending that does
  refused_only_done : (s : Status) (asked : Option Command) (e : Ending) → Done_so asked e → status_of e ≡ s → (s ≡ status.BadWav) ⊎ (s ≡ status.Unsupported) → IfSome source.left (IsRefused s)
  refused_only_done s (Some command) e d is which = refused_by_end s command e d is which
  refused_only_done s None e d is which = absurd (usage_is_no_refusal s (usage_status e s d.0 is) which)

  stream_by_end : (command : Command) (e : Ending) → Ends command e source sink Made → status_of e ≡ status.BadStream → IfSome source.left (λ bytes. IsSome (deviation_in bytes))
  stream_by_end command (Deviates why) d is = IfSome_then source.left d.explains.1 (λ bytes same. rw same refl)
  stream_by_end command (Refused why) d is = absurd (no_refusal why status.BadStream is (λ same. cc) (λ same. cc) (λ same. cc))
  stream_by_end command Done d is = cc
  stream_by_end command (Counted report) d is = cc
  stream_by_end command Usage d is = cc
  stream_by_end command ReadFault d is = cc
  stream_by_end command WriteFault d is = cc
  stream_by_end command Memory d is = cc

  -- a stream is refused for a deviation
  bad_stream_only_done : (asked : Option Command) (e : Ending) → Done_so asked e → status_of e ≡ status.BadStream → IfSome source.left (λ bytes. IsSome (deviation_in bytes))
  bad_stream_only_done (Some command) e d is = stream_by_end command e d is
  bad_stream_only_done None e d is = let bad = usage_status e status.BadStream d.0 is in cc

  refused_of : (words : EncodeWords) (e : Ending) → Ends (Encode words) e source sink Made → IsSteady source.faults source.faults_now → IfSome source.left (λ bytes. (why : WavFault) → wav_of bytes ≡ Err why → status_of e ≡ refusal_of why)
  refused_of words Done d steady = IfSome_then source.left d.explains.1 (λ bytes p why is. absurd (some_not_none (encoding_in words.options.rate bytes) _ p (no_encoding words.options.rate bytes why is)))
  refused_of words (Counted report) d steady = IfSome_then source.left d.explains.1 (λ bytes p why is. absurd (some_not_none (encoding_in words.options.rate bytes) _ p (no_encoding words.options.rate bytes why is)))
  refused_of words (Refused because) d steady = IfSome_then source.left d.explains.1 (λ bytes same why is. ap refusal_of (same_fault (wav_of bytes) because why same is))
  refused_of words (Deviates why) d steady = let bad = d.explains.0 in cc
  refused_of words ReadFault d steady = absurd (steady_count source.faults source.faults_now steady d.reads)
  refused_of words WriteFault d steady = IfSome_then source.left d.explains (λ bytes p why is. absurd (not_both (wav_of bytes) p.0.0 why p.0.1 is))
  refused_of words Memory d steady = IfSome_then source.left d.explains.1 (λ bytes accepted why is. absurd (not_both (wav_of bytes) accepted.0 why accepted.1 is))
  refused_of words Usage d steady = absurd d.explains

  -- a head that is refused is answered so where no read failed
  refused_there_done : (asked : Option Command) (e : Ending) → Done_so asked e → IsSomeAnd asked Encodes → IsSteady source.faults source.faults_now → IfSome source.left (λ bytes. (why : WavFault) → wav_of bytes ≡ Err why → status_of e ≡ refusal_of why)
  refused_there_done (Some (Encode words)) e d encodes steady = refused_of words e d steady
  refused_there_done (Some Check) e d encodes steady = absurd encodes
  refused_there_done (Some (Demo words)) e d encodes steady = absurd encodes
  refused_there_done None e d encodes steady = absurd encodes

  deviates_of : (e : Ending) → Ends Check e source sink Made → IsSteady source.faults source.faults_now → IfSome source.left (λ bytes. IsSome (deviation_in bytes) → status_of e ≡ status.BadStream)
  deviates_of Done d steady = IfSome_then source.left d.explains.1 (λ bytes p some. absurd (some_not_none (line_in bytes) _ p (no_line bytes some)))
  deviates_of (Counted report) d steady = IfSome_then source.left d.explains.1 (λ bytes p some. absurd (some_not_none (line_in bytes) _ p (no_line bytes some)))
  deviates_of (Refused because) d steady = absurd d.explains.0
  deviates_of (Deviates why) d steady = IfSome-always source.left _ (λ bytes some. refl)
  deviates_of ReadFault d steady = absurd (steady_count source.faults source.faults_now steady d.reads)
  deviates_of WriteFault d steady = IfSome_then source.left d.explains (λ bytes p some. absurd (some_not_none (line_in bytes) _ p (no_line bytes some)))
  deviates_of Memory d steady = absurd d.explains.0
  deviates_of Usage d steady = absurd d.explains

  check_is : (command : Command) → Some command ≡ Some Check → command ≡ Check
  check_is command same = cc

  -- a deviation is answered so where no read failed
  deviates_there_done : (asked : Option Command) (e : Ending) → Done_so asked e → asked ≡ Some Check → IsSteady source.faults source.faults_now →
      IfSome source.left (λ bytes. IsSome (deviation_in bytes) → status_of e ≡ status.BadStream)
  deviates_there_done (Some command) e d check steady =
      let ends : Ends Check e source sink Made = rw (check_is command check) at d in
      deviates_of e ends steady
  deviates_there_done None e d check steady = cc

  untouched_by_end : (command : Command) (e : Ending) → Ends command e source sink Made → (status_of e ≡ status.Ok → ⊥) → (status_of e ≡ status.ReadFault → sink.untouched) → (status_of e ≡ status.WriteFault → ⊥) → sink.untouched
  untouched_by_end command Done d not_ok read not_write = absurd (not_ok refl)
  untouched_by_end command (Counted report) d not_ok read not_write = absurd (not_ok refl)
  untouched_by_end command (Refused why) d not_ok read not_write = d.explains.3
  untouched_by_end command (Deviates why) d not_ok read not_write = d.explains.4
  untouched_by_end command ReadFault d not_ok read not_write = read refl
  untouched_by_end command WriteFault d not_ok read not_write = absurd (not_write refl)
  untouched_by_end command Memory d not_ok read not_write = d.explains.2
  untouched_by_end command Usage d not_ok read not_write = absurd d.explains

  -- only at success, and where a read or a write failed, anything is written
  untouched_else_done : (asked : Option Command) (e : Ending) → Done_so asked e → (status_of e ≡ status.Ok → ⊥) → (status_of e ≡ status.ReadFault → ⊥) → (status_of e ≡ status.WriteFault → ⊥) → sink.untouched
  untouched_else_done (Some command) e d not_ok not_read not_write = untouched_by_end command e d not_ok (λ is. absurd (not_read is)) not_write
  untouched_else_done None e d not_ok not_read not_write = d.2

  -- a command that writes a line has written nothing where a read failed
  midway : (command : Command) (e : Ending) → Ends command e source sink Made → (Encodes command → ⊥) → status_of e ≡ status.ReadFault → sink.untouched
  midway (Encode words) ReadFault d not_encode is = absurd (not_encode tt)
  midway Check ReadFault d not_encode is = d.explains.1
  midway (Demo words) ReadFault d not_encode is = absurd d.explains.0
  midway command (Refused why) d not_encode is = absurd (not_encode d.explains.0)
  midway command (Deviates why) d not_encode is = cc
  midway command Done d not_encode is = cc
  midway command (Counted report) d not_encode is = cc
  midway command Usage d not_encode is = cc
  midway command WriteFault d not_encode is = cc
  midway command Memory d not_encode is = cc

  whole_by_end : (command : Command) (e : Ending) → Ends command e source sink Made → status_of e ≡ status.Ok →
      IfSome (input_of command source.left) (λ bytes. IsSomeAnd (output_of command bytes) (λ output. Takes sink.taken sink.taken_now output))
  whole_by_end command Done d is = d.explains.1
  whole_by_end command (Counted report) d is = d.explains.1
  whole_by_end command (Refused why) d is = absurd (no_refusal why status.Ok is (λ same. cc) (λ same. cc) (λ same. cc))
  whole_by_end command (Deviates why) d is = cc
  whole_by_end command Usage d is = cc
  whole_by_end command ReadFault d is = cc
  whole_by_end command WriteFault d is = cc
  whole_by_end command Memory d is = cc

  -- at success the sink took all of the output
  whole_done : (asked : Option Command) (e : Ending) → Done_so asked e → status_of e ≡ status.Ok →
      IsSomeAnd asked (λ command. IfSome (input_of command source.left) (λ bytes. IsSomeAnd (output_of command bytes) (λ output. Takes sink.taken sink.taken_now output)))
  whole_done (Some command) e d is = whole_by_end command e d is
  whole_done None e d is = let bad = usage_status e status.Ok d.0 is in cc

  -- what is left is what its status says
  leaves_done : (asked : Option Command) (e : Ending) → Done_so asked e → IfSome asked (λ command. IfSome source.left (λ bytes. Leaves command (status_of e) bytes source.left_now))
  leaves_done (Some command) e d = d.left
  leaves_done None e d = tt

  front_of_nothing : (command : Command) (bytes : List ℕ) → Stands sink.taken sink.taken_now → WritesFront command bytes sink
  front_of_nothing (Encode words) bytes stands = λ are. takes_nothing (encoding_in words.options.rate bytes) sink.taken sink.taken_now stands
  front_of_nothing Check bytes stands = takes_nothing (line_in bytes) sink.taken sink.taken_now stands
  front_of_nothing (Demo words) bytes stands = takes_nothing (digest_line_in words.options.rate bytes) sink.taken sink.taken_now stands

  front_of_whole : (command : Command) (bytes : List ℕ) → IsSomeAnd (output_of command bytes) (λ output. Takes sink.taken sink.taken_now output) → WritesFront command bytes sink
  front_of_whole (Encode words) bytes p = λ are. takes_whole (encoding_in words.options.rate bytes) sink.taken sink.taken_now p
  front_of_whole Check bytes p = takes_whole (line_in bytes) sink.taken sink.taken_now p
  front_of_whole (Demo words) bytes p = takes_whole (digest_line_in words.options.rate bytes) sink.taken sink.taken_now p

  front_of_none : (command : Command) → Stands sink.taken sink.taken_now → IfSome (input_of command source.left) (λ bytes. WritesFront command bytes sink)
  front_of_none command stands = IfSome-always (input_of command source.left) _ (λ bytes. front_of_nothing command bytes stands)

  front_by_end : (sink.untouched → Stands sink.taken sink.taken_now) → (command : Command) (e : Ending) → Ends command e source sink Made → IfSome (input_of command source.left) (λ bytes. WritesFront command bytes sink)
  front_by_end same command Done d = IfSome_then (input_of command source.left) d.explains.1 (λ bytes p. front_of_whole command bytes p)
  front_by_end same command (Counted report) d = IfSome_then (input_of command source.left) d.explains.1 (λ bytes p. front_of_whole command bytes p)
  front_by_end same command (Refused why) d = front_of_none command (same d.explains.3)
  front_by_end same command (Deviates why) d = front_of_none command (same d.explains.4)
  front_by_end same (Encode words) ReadFault d = d.explains.1
  front_by_end same Check ReadFault d = front_of_none Check (same d.explains.1)
  front_by_end same (Demo words) ReadFault d = absurd d.explains.0
  front_by_end same (Encode words) WriteFault d = IfSome_then source.left d.explains (λ bytes p. p.1)
  front_by_end same Check WriteFault d = IfSome_then source.left d.explains (λ bytes p. takes_front (line_in bytes) sink.taken sink.taken_now p)
  front_by_end same (Demo words) WriteFault d = takes_front (digest_line_in words.options.rate (file_for words)) sink.taken sink.taken_now d.explains
  front_by_end same command Memory d = front_of_none command (same d.explains.2)
  front_by_end same command Usage d = absurd d.explains

  -- whatever the ending, a front of the output was written
  written_done : (sink.untouched → Stands sink.taken sink.taken_now) → (asked : Option Command) (e : Ending) → Done_so asked e →
      IfSome asked (λ command. IfSome (input_of command source.left) (λ bytes. WritesFront command bytes sink))
  written_done same (Some command) e d = front_by_end same command e d
  written_done same None e d = tt

  reads_by_end : (command : Command) (e : Ending) → Ends command e source sink Made → status_of e ≡ status.ReadFault → source.faults_now ≡ count_after source.faults
  reads_by_end command ReadFault d is = d.reads
  reads_by_end command (Refused why) d is = absurd (d.explains.2 (read_is_read why is))
  reads_by_end command (Deviates why) d is = cc
  reads_by_end command Done d is = cc
  reads_by_end command (Counted report) d is = cc
  reads_by_end command Usage d is = cc
  reads_by_end command WriteFault d is = cc
  reads_by_end command Memory d is = cc

  -- a read fault is one failed read
  read_fault_done : (asked : Option Command) (e : Ending) → Done_so asked e → status_of e ≡ status.ReadFault → source.faults_now ≡ count_after source.faults
  read_fault_done (Some command) e d is = reads_by_end command e d is
  read_fault_done None e d is = let bad = usage_status e status.ReadFault d.0 is in cc

  writes_by_end : (command : Command) (e : Ending) → Ends command e source sink Made → status_of e ≡ status.WriteFault → sink.faults_now ≡ count_after sink.faults
  writes_by_end command WriteFault d is = d.writes
  writes_by_end command (Refused why) d is = absurd (no_refusal why status.WriteFault is (λ same. cc) (λ same. cc) (λ same. cc))
  writes_by_end command (Deviates why) d is = cc
  writes_by_end command Done d is = cc
  writes_by_end command (Counted report) d is = cc
  writes_by_end command Usage d is = cc
  writes_by_end command ReadFault d is = cc
  writes_by_end command Memory d is = cc

  -- a write fault is one failed write
  write_fault_done : (asked : Option Command) (e : Ending) → Done_so asked e → status_of e ≡ status.WriteFault → sink.faults_now ≡ count_after sink.faults
  write_fault_done (Some command) e d is = writes_by_end command e d is
  write_fault_done None e d is = let bad = usage_status e status.WriteFault d.0 is in cc

  reads_else : (e : Ending) → source.faults_now ≡ failed_reads_at e source.faults → (status_of e ≡ status.ReadFault → ⊥) → source.faults_now ≡ source.faults
  reads_else Done reads other = reads
  reads_else (Counted report) reads other = reads
  reads_else (Refused why) reads other = reads
  reads_else (Deviates why) reads other = reads
  reads_else ReadFault reads other = absurd (other refl)
  reads_else WriteFault reads other = reads
  reads_else Memory reads other = reads
  reads_else Usage reads other = reads

  -- at any other status no read failed
  steady_read_done : (source.unread → source.faults_now ≡ source.faults) → (asked : Option Command) (e : Ending) → Done_so asked e → (status_of e ≡ status.ReadFault → ⊥) → source.faults_now ≡ source.faults
  steady_read_done same (Some command) e d other = reads_else e d.reads other
  steady_read_done same None e d other = same d.1

  writes_else : (e : Ending) → sink.faults_now ≡ failed_writes_at e sink.faults → (status_of e ≡ status.WriteFault → ⊥) → sink.faults_now ≡ sink.faults
  writes_else Done writes other = writes
  writes_else (Counted report) writes other = writes
  writes_else (Refused why) writes other = writes
  writes_else (Deviates why) writes other = writes
  writes_else ReadFault writes other = writes
  writes_else WriteFault writes other = absurd (other refl)
  writes_else Memory writes other = writes
  writes_else Usage writes other = writes

  -- and no write
  steady_write_done : (sink.untouched → sink.faults_now ≡ sink.faults) → (asked : Option Command) (e : Ending) → Done_so asked e → (status_of e ≡ status.WriteFault → ⊥) → sink.faults_now ≡ sink.faults
  steady_write_done same (Some command) e d other = writes_else e d.writes other
  steady_write_done same None e d other = same d.2

  -- a file that is refused has no output
  refused_none : (command : Command) (bytes : List ℕ) (why : WavFault) → Encodes command → wav_of bytes ≡ Err why → output_of command bytes ≡ None
  refused_none (Encode words) bytes why encodes is = no_encoding words.options.rate bytes why is
  refused_none Check bytes why encodes is = absurd encodes
  refused_none (Demo words) bytes why encodes is = absurd encodes

  deviates_none : (command : Command) (bytes : List ℕ) (why : StreamFault) → command ≡ Check → deviation_in bytes ≡ Some why → output_of command bytes ≡ None
  deviates_none command bytes why is same = rw is (no_line bytes (rw same refl))

  not_some : (output : Option (List ℕ)) → output ≡ None → IsSome output → ⊥
  not_some None none some = cc
  not_some (Some text) none some = cc

  -- a command that ran out of memory encodes the source's file, or keeps the source as it was
  needs_or_keeps : (command : Command) → NeedsMemory command → KeepsSource command source → Encodes command ⊎ source.unread
  needs_or_keeps (Encode words) needs kept = inl tt
  needs_or_keeps Check needs kept = absurd needs
  needs_or_keeps (Demo words) needs kept = inr kept

  complete_of : (command : Command) (e : Ending) → Ends command e source sink Made → IsSteady source.faults source.faults_now → IsSteady sink.faults sink.faults_now →
      IfSome (input_of command source.left) (λ bytes. IsSome (output_of command bytes) → (status_of e ≡ status.Ok) ⊎ ((status_of e ≡ status.Memory) × (Encodes command ⊎ source.unread)))
  complete_of command Done d steady steady_sink = IfSome-always (input_of command source.left) _ (λ bytes some. inl refl)
  complete_of command (Counted report) d steady steady_sink = IfSome-always (input_of command source.left) _ (λ bytes some. inl refl)
  complete_of (Encode words) (Refused why) d steady steady_sink = IfSome_then source.left d.explains.1 (λ bytes same some. absurd (not_some (output_of (Encode words) bytes) (refused_none (Encode words) bytes why tt same) some))
  complete_of Check (Refused why) d steady steady_sink = absurd d.explains.0
  complete_of (Demo words) (Refused why) d steady steady_sink = absurd d.explains.0
  complete_of (Encode words) (Deviates why) d steady steady_sink = let bad = d.explains.0 in cc
  complete_of Check (Deviates why) d steady steady_sink = IfSome_then source.left d.explains.1 (λ bytes same some. absurd (not_some (output_of Check bytes) (deviates_none Check bytes why refl same) some))
  complete_of (Demo words) (Deviates why) d steady steady_sink = let bad = d.explains.0 in cc
  complete_of command ReadFault d steady steady_sink = absurd (steady_count source.faults source.faults_now steady d.reads)
  complete_of command WriteFault d steady steady_sink = absurd (steady_count sink.faults sink.faults_now steady_sink d.writes)
  complete_of command Memory d steady steady_sink = IfSome-always (input_of command source.left) _ (λ bytes some. inr (refl, needs_or_keeps command d.explains.0 d.kept))
  complete_of command Usage d steady steady_sink = absurd d.explains

  -- the output is written where nothing failed, or there is no memory
  complete_done : (asked : Option Command) (e : Ending) → Done_so asked e → IsSteady source.faults source.faults_now → IsSteady sink.faults sink.faults_now →
      IfSome asked (λ command. IfSome (input_of command source.left) (λ bytes. IsSome (output_of command bytes) → (status_of e ≡ status.Ok) ⊎ ((status_of e ≡ status.Memory) × (Encodes command ⊎ source.unread))))
  complete_done (Some command) e d steady steady_sink = complete_of command e d steady steady_sink
  complete_done None e d steady steady_sink = tt

  -- ---- the same where there may have been no memory to read the words

  abbrev pub Done_or_lacks : Option Command → Ending → Type 0
  Done_or_lacks asked e = DoesOrLacks asked source sink Made e

  lacks : (e : Ending) → e ≡ Memory → status_of e ≡ status.Memory
  lacks e end = ap status_of end

  lacks_status : (e : Ending) (s : Status) → e ≡ Memory → status_of e ≡ s → status.Memory ≡ s
  lacks_status e s end is = sym (lacks e end) ∙ is

  lack_is_no_refusal : (s : Status) → status.Memory ≡ s → (s ≡ status.BadWav) ⊎ (s ≡ status.Unsupported) → ⊥
  lack_is_no_refusal s is which = elim (is_refusal status.Memory s is which) [ inl bad ↦ cc | inr bad ↦ cc ]

  pub may_come : (asked : Option Command) (e : Ending) → Done_or_lacks asked e → MayCome asked (status_of e)
  may_come asked e (inl d) = may_come_done asked e d
  may_come asked e (inr m) = rw m.0 tt

  pub usage_none : (asked : Option Command) (e : Ending) → Done_or_lacks asked e → e ≡ Usage → asked ≡ None
  usage_none asked e (inl d) is = usage_none_done asked e d is
  usage_none asked e (inr m) is = let bad : Memory ≡ Usage = sym m.0 ∙ is in cc

  pub usage_or_lack : (asked : Option Command) (e : Ending) → Done_or_lacks asked e → asked ≡ None →
      (status_of e ≡ status.Usage) ⊎ (status_of e ≡ status.Memory)
  usage_or_lack asked e (inl d) none = inl (ap status_of (none_usage asked e d none))
  usage_or_lack asked e (inr m) none = inr (lacks e m.0)

  pub usage_unread : (asked : Option Command) (e : Ending) → Done_or_lacks asked e → e ≡ Usage → source.unread
  usage_unread asked e (inl d) is = usage_unread_done asked e d is
  usage_unread asked e (inr m) is = m.1

  pub refused_only : (s : Status) (asked : Option Command) (e : Ending) → Done_or_lacks asked e → status_of e ≡ s → (s ≡ status.BadWav) ⊎ (s ≡ status.Unsupported) → IfSome source.left (IsRefused s)
  refused_only s asked e (inl d) is which = refused_only_done s asked e d is which
  refused_only s asked e (inr m) is which = absurd (lack_is_no_refusal s (lacks_status e s m.0 is) which)

  pub bad_stream_only : (asked : Option Command) (e : Ending) → Done_or_lacks asked e → status_of e ≡ status.BadStream → IfSome source.left (λ bytes. IsSome (deviation_in bytes))
  bad_stream_only asked e (inl d) is = bad_stream_only_done asked e d is
  bad_stream_only asked e (inr m) is = let bad = lacks_status e status.BadStream m.0 is in cc

  pub refused_there : (asked : Option Command) (e : Ending) → Done_or_lacks asked e → IsSomeAnd asked Encodes → IsSteady source.faults source.faults_now →
      IfSome source.left (λ bytes. (why : WavFault) → wav_of bytes ≡ Err why → (status_of e ≡ refusal_of why) ⊎ ((status_of e ≡ status.Memory) × source.unread))
  refused_there asked e (inl d) encodes steady = IfSome_then source.left (refused_there_done asked e d encodes steady) (λ bytes there why is. inl (there why is))
  refused_there asked e (inr m) encodes steady = IfSome-always source.left _ (λ bytes why is. inr (lacks e m.0, m.1))

  pub deviates_there : (asked : Option Command) (e : Ending) → Done_or_lacks asked e → asked ≡ Some Check → IsSteady source.faults source.faults_now →
      IfSome source.left (λ bytes. IsSome (deviation_in bytes) → (status_of e ≡ status.BadStream) ⊎ ((status_of e ≡ status.Memory) × source.unread))
  deviates_there asked e (inl d) check steady = IfSome_then source.left (deviates_there_done asked e d check steady) (λ bytes there some. inl (there some))
  deviates_there asked e (inr m) check steady = IfSome-always source.left _ (λ bytes some. inr (lacks e m.0, m.1))

  pub untouched_else : (asked : Option Command) (e : Ending) → Done_or_lacks asked e → (status_of e ≡ status.Ok → ⊥) → (status_of e ≡ status.ReadFault → ⊥) → (status_of e ≡ status.WriteFault → ⊥) → sink.untouched
  untouched_else asked e (inl d) not_ok not_read not_write = untouched_else_done asked e d not_ok not_read not_write
  untouched_else asked e (inr m) not_ok not_read not_write = m.2

  untouched_line : (command : Command) (e : Ending) → Done_or_lacks (Some command) e → (Encodes command → ⊥) → (status_of e ≡ status.Ok → ⊥) → (status_of e ≡ status.WriteFault → ⊥) → sink.untouched
  untouched_line command e (inl d) not_encode not_ok not_write = untouched_by_end command e d not_ok (midway command e d not_encode) not_write
  untouched_line command e (inr m) not_encode not_ok not_write = m.2

  pub whole : (asked : Option Command) (e : Ending) → Done_or_lacks asked e → status_of e ≡ status.Ok →
      IsSomeAnd asked (λ command. IfSome (input_of command source.left) (λ bytes. IsSomeAnd (output_of command bytes) (λ output. Takes sink.taken sink.taken_now output)))
  whole asked e (inl d) is = whole_done asked e d is
  whole asked e (inr m) is = let bad = lacks_status e status.Ok m.0 is in cc

  -- where nothing was read all is left
  leaves_unread : (command : Command) (left now : Option (List ℕ)) → now ≡ left → IfSome left (λ bytes. LeavesUnread command bytes now)
  leaves_unread command None now is = tt
  leaves_unread (Encode words) (Some bytes) now is = inr is
  leaves_unread Check (Some bytes) now is = is
  leaves_unread (Demo words) (Some bytes) now is = is

  pub leaves : (source.unread → source.left_now ≡ source.left) → (asked : Option Command) (e : Ending) → Done_or_lacks asked e →
      IfSome asked (λ command. IfSome source.left (λ bytes. Leaves command (status_of e) bytes source.left_now))
  leaves same asked e (inl d) = leaves_done asked e d
  leaves same asked e (inr m) = rw m.0 (IfSome-always asked _ (λ command. leaves_unread command source.left source.left_now (same m.1)))

  pub written : (sink.untouched → Stands sink.taken sink.taken_now) → (asked : Option Command) (e : Ending) → Done_or_lacks asked e →
      IfSome asked (λ command. IfSome (input_of command source.left) (λ bytes. WritesFront command bytes sink))
  written same asked e (inl d) = written_done same asked e d
  written same asked e (inr m) = IfSome-always asked _ (λ command. front_of_none command (same m.2))

  pub read_fault : (asked : Option Command) (e : Ending) → Done_or_lacks asked e → status_of e ≡ status.ReadFault → source.faults_now ≡ count_after source.faults
  read_fault asked e (inl d) is = read_fault_done asked e d is
  read_fault asked e (inr m) is = let bad = lacks_status e status.ReadFault m.0 is in cc

  pub write_fault : (asked : Option Command) (e : Ending) → Done_or_lacks asked e → status_of e ≡ status.WriteFault → sink.faults_now ≡ count_after sink.faults
  write_fault asked e (inl d) is = write_fault_done asked e d is
  write_fault asked e (inr m) is = let bad = lacks_status e status.WriteFault m.0 is in cc

  pub steady_read : (source.unread → source.faults_now ≡ source.faults) → (asked : Option Command) (e : Ending) → Done_or_lacks asked e → (status_of e ≡ status.ReadFault → ⊥) → source.faults_now ≡ source.faults
  steady_read same asked e (inl d) other = steady_read_done same asked e d other
  steady_read same asked e (inr m) other = same m.1

  pub steady_write : (sink.untouched → sink.faults_now ≡ sink.faults) → (asked : Option Command) (e : Ending) → Done_or_lacks asked e → (status_of e ≡ status.WriteFault → ⊥) → sink.faults_now ≡ sink.faults
  steady_write same asked e (inl d) other = steady_write_done same asked e d other
  steady_write same asked e (inr m) other = same m.2

  pub complete : (asked : Option Command) (e : Ending) → Done_or_lacks asked e → IsSteady source.faults source.faults_now → IsSteady sink.faults sink.faults_now →
      IfSome asked (λ command. IfSome (input_of command source.left) (λ bytes. IsSome (output_of command bytes) →
      (status_of e ≡ status.Ok) ⊎ ((status_of e ≡ status.Memory) × (Encodes command ⊎ source.unread))))
  complete asked e (inl d) steady steady_sink = complete_done asked e d steady steady_sink
  complete asked e (inr m) steady steady_sink = IfSome-always asked _ (λ command. IfSome-always (input_of command source.left) _ (λ bytes some. inr (lacks e m.0, inr m.1)))

  -- ---- frames

  no_frames : (command : Command) → sink.untouched → WritesFrames command status.Memory sink
  no_frames (Encode words) untouched = untouched
  no_frames Check untouched = tt
  no_frames (Demo words) untouched = tt

  pub frames : (asked : Option Command) (e : Ending) → Done_or_lacks asked e → IfSome asked (λ command. WritesFrames command (status_of e) sink)
  frames (Some command) e (inl d) = d.frames
  frames None e (inl d) = tt
  frames asked e (inr m) = rw m.0 (IfSome-always asked _ (λ command. no_frames command m.2))

  -- ---- the source of a command that reads none

  kept_done : (asked : Option Command) (e : Ending) → Done_so asked e → IfSome asked (λ command. KeepsSource command source)
  kept_done (Some command) e d = d.kept
  kept_done None e d = tt

  keeps : (command : Command) → source.unread → KeepsSource command source
  keeps (Encode words) unread = tt
  keeps Check unread = tt
  keeps (Demo words) unread = unread

  pub kept : (asked : Option Command) (e : Ending) → Done_or_lacks asked e → IfSome asked (λ command. KeepsSource command source)
  kept asked e (inl d) = kept_done asked e d
  kept asked e (inr m) = IfSome-always asked _ (λ command. keeps command m.1)

  all_left : (left now : Option (List ℕ)) → now ≡ left → IfSome left (λ bytes. now ≡ Some bytes)
  all_left None now is = tt
  all_left (Some bytes) now is = is

  -- what the demo did without a source it did beside each that is as it was
  pub beside : (words : DemoWords) (e : Ending) → Ends (Demo words) e no_source sink any_number → source.left_now ≡ source.left → source.faults_now ≡ source.faults → source.unread →
      Ends (Demo words) e source sink Made
  beside words Done d left same unread = record { explains = d.explains; frames = tt; left = all_left source.left source.left_now left; kept = unread; reads = same; writes = d.writes }
  beside words (Counted report) d left same unread = absurd d.explains.0
  beside words (Refused why) d left same unread = absurd d.explains.0
  beside words (Deviates why) d left same unread = let bad = d.explains.0 in cc
  beside words ReadFault d left same unread = absurd d.explains.0
  beside words WriteFault d left same unread = record { explains = d.explains; frames = tt; left = all_left source.left source.left_now left; kept = unread; reads = same; writes = d.writes }
  beside words Memory d left same unread = record { explains = d.explains; frames = tt; left = all_left source.left source.left_now left; kept = unread; reads = same; writes = d.writes }
  beside words Usage d left same unread = absurd d.explains

  pub beside_or_lack : (words : DemoWords) (e : Ending) → DoesOrLacks (Some (Demo words)) no_source sink any_number e → source.left_now ≡ source.left → source.faults_now ≡ source.faults → source.unread →
      Done_or_lacks (Some (Demo words)) e
  beside_or_lack words e (inl d) left same unread = inl (beside words e d left same unread)
  beside_or_lack words e (inr m) left same unread = inr (m.0, unread, m.2)

  -- what `check` did it did whatever counts were made
  pub check_made : (e : Ending) → Ends Check e source sink any_number → Ends Check e source sink Made
  check_made Done d = record { explains = d.explains; frames = tt; left = d.left; kept = tt; reads = d.reads; writes = d.writes }
  check_made (Counted report) d = absurd d.explains.0
  check_made (Refused why) d = absurd d.explains.0
  check_made (Deviates why) d = record { explains = d.explains; frames = tt; left = d.left; kept = tt; reads = d.reads; writes = d.writes }
  check_made ReadFault d = record { explains = d.explains; frames = tt; left = d.left; kept = tt; reads = d.reads; writes = d.writes }
  check_made WriteFault d = record { explains = d.explains; frames = tt; left = d.left; kept = tt; reads = d.reads; writes = d.writes }
  check_made Memory d = absurd d.explains.0
  check_made Usage d = absurd d.explains

  -- ---- where it is not told how many counts were made

  any_statistics : (command : Command) (report : Report) → HasStatistics command report source.left Made → HasStatistics command report source.left any_number
  any_statistics (Encode words) report h = record { wanted = h.wanted; numbers = h.numbers; sum = h.sum; made = tt; alone = h.alone }
  any_statistics Check report h = absurd h
  any_statistics (Demo words) report h = absurd h

  pub ends_any : (command : Command) (e : Ending) → Ends command e source sink Made → Ends command e source sink any_number
  ends_any command Done d = record { explains = d.explains; frames = d.frames; left = d.left; kept = d.kept; reads = d.reads; writes = d.writes }
  ends_any command (Counted report) d = record { explains = (any_statistics command report d.explains.0, d.explains.1); frames = d.frames; left = d.left; kept = d.kept; reads = d.reads; writes = d.writes }
  ends_any command (Refused why) d = record { explains = d.explains; frames = d.frames; left = d.left; kept = d.kept; reads = d.reads; writes = d.writes }
  ends_any command (Deviates why) d = record { explains = d.explains; frames = d.frames; left = d.left; kept = d.kept; reads = d.reads; writes = d.writes }
  ends_any command ReadFault d = record { explains = d.explains; frames = d.frames; left = d.left; kept = d.kept; reads = d.reads; writes = d.writes }
  ends_any command WriteFault d = record { explains = d.explains; frames = d.frames; left = d.left; kept = d.kept; reads = d.reads; writes = d.writes }
  ends_any command Memory d = record { explains = d.explains; frames = d.frames; left = d.left; kept = d.kept; reads = d.reads; writes = d.writes }
  ends_any command Usage d = absurd d.explains

  pub does_any : (asked : Option Command) (e : Ending) → Done_or_lacks asked e → DoesOrLacks asked source sink any_number e
  does_any (Some command) e (inl d) = inl (ends_any command e d)
  does_any None e (inl d) = inl d
  does_any asked e (inr m) = inr m

  pub run_any : (asked : Option Command) (s : Status) (notes : SinkChange) → HasRun (Done_or_lacks asked) s notes → HasRun (DoesOrLacks asked source sink any_number) s notes
  run_any asked s notes h = record { ending = h.ending; status = h.status; did = does_any asked h.ending h.did; told = h.told }

  -- ---- the promise

  refuses : (asked : Option Command) (e : Ending) → Done_or_lacks asked e → asked ≡ None → source.unread × sink.untouched
  refuses None e (inl d) none = (d.1, d.2)
  refuses (Some command) e (inl d) none = cc
  refuses asked e (inr m) none = (m.1, m.2)

  says_by_end : (command : Command) (e : Ending) → Ends command e source sink Made → SaysTrue (Some command) e source.left Made
  says_by_end command Done d = d.explains.0
  says_by_end command (Counted report) d = d.explains.0
  says_by_end command (Refused why) d = d.explains.1
  says_by_end command (Deviates why) d = d.explains.1
  says_by_end command ReadFault d = tt
  says_by_end command WriteFault d = tt
  says_by_end command Memory d = tt
  says_by_end command Usage d = absurd d.explains

  says : (asked : Option Command) (e : Ending) → Done_or_lacks asked e → SaysTrue asked e source.left Made
  says (Some command) e (inl d) = says_by_end command e d
  says None e (inl d) = rw d.0 refl
  says asked e (inr m) = rw m.0 tt

  line_by_bytes : (s : Status) (left : Option (List ℕ)) → IfSome left (λ bytes. TakesFrontOf (line_in bytes) sink.taken sink.taken_now) →
      (s ≡ status.Ok → IfSome left (λ bytes. IsSomeAnd (line_in bytes) (λ text. Takes sink.taken sink.taken_now text))) → IfSome left (λ bytes. WritesLine (line_in bytes) s sink)
  line_by_bytes s None front all = tt
  line_by_bytes s (Some bytes) front all = record { front = front; whole = all }

  module _ (left_same : source.unread → source.left_now ≡ source.left) (reads_same : source.unread → source.faults_now ≡ source.faults)
      (stands : sink.untouched → Stands sink.taken sink.taken_now) (writes_same : sink.untouched → sink.faults_now ≡ sink.faults) where
    stream_by : (words : EncodeWords) (e : Ending) → Done_or_lacks (Some (Encode words)) e → WritesStream words.options.rate (status_of e) source sink
    stream_by words e d = record {
      front = written stands (Some (Encode words)) e d;
      whole = λ ok. whole (Some (Encode words)) e d ok;
      nothing = λ not_ok not_read not_write. untouched_else (Some (Encode words)) e d not_ok not_read not_write;
    }

    checks_by : (e : Ending) → Done_or_lacks (Some Check) e → ChecksStream (status_of e) source sink
    checks_by e d = record {
      bad_stream = λ is. bad_stream_only (Some Check) e d is;
      deviates = λ steady. deviates_there (Some Check) e d refl steady;
      line = line_by_bytes (status_of e) source.left (written stands (Some Check) e d) (λ ok. whole (Some Check) e d ok);
      nothing = λ not_ok not_write. untouched_line Check e d (λ encodes. encodes) not_ok not_write;
    }

    shows_by : (words : DemoWords) (e : Ending) → Done_or_lacks (Some (Demo words)) e → ShowsSignal words (status_of e) source sink
    shows_by words e d = record {
      unread = kept (Some (Demo words)) e d;
      line = record { front = written stands (Some (Demo words)) e d; whole = λ ok. whole (Some (Demo words)) e d ok };
      nothing = λ not_ok not_write. untouched_line (Demo words) e d (λ encodes. encodes) not_ok not_write;
    }

    -- all that is promised, of one ending
    pub promised : (asked : Option Command) (e : Ending) (notes : SinkChange) → Done_or_lacks asked e → AreTold e notes → Promise asked (status_of e) source sink notes Made
    promised asked e notes d told = record {
      usage_only = λ is. usage_none asked e d (usage_is e is);
      usage = λ none. (usage_or_lack asked e d none, (refuses asked e d none).0, (refuses asked e d none).1);
      head = λ words is. record {
        bad_wav = λ bad. refused_only status.BadWav asked e d bad (inl refl);
        unsupported = λ bad. refused_only status.Unsupported asked e d bad (inr refl);
        refused = λ steady. refused_there asked e d (rw is tt) steady;
      };
      written = λ words is. stream_by words e (rw is at d);
      rest = leaves left_same asked e d;
      checked = λ is. checks_by e (rw is at d);
      demo = λ words is. shows_by words e (rw is at d);
      notes = record { ending = e; status = refl; says = says asked e d; told = told };
      cause_read = (λ is. read_fault asked e d is, λ other. steady_read reads_same asked e d other);
      cause_write = (λ is. write_fault asked e d is, λ other. steady_write writes_same asked e d other);
      complete = λ steady steady_sink. complete asked e d steady steady_sink;
      comes = may_come asked e d;
    }

-- what was written is whole where the count of faults was steady
pub whole_if_steady : {T E : Type 0} (old new : List ℕ → Type 0) (before now : ℕ) (result : Result T E) (text : List ℕ) → IsSteady before now →
    Writes old new result text → OnErr result (now ≡ count_after before) → Takes old new text
whole_if_steady old new before now (Ok v) text steady writes one = writes
whole_if_steady old new before now (Err e) text steady writes one = absurd (steady_count before now steady one)
