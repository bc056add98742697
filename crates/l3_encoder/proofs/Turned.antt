-- A file that was opened and whose samples were encoded: what its answer says.
use Rattle.std.proofs.Common.{◌≡◌, ◌∙◌, sym, ap, subst, refl, ℕ, ◌+◌, ◌-◌, ◌≤◌, List, length, drop, arith, length-drop, length-append}
use Rattle.std.proofs.lemmas.List.{drop-drop}
use Rattle.std.proofs.Math.Seq.{drop-append_seam}
use Rattle.std.specs.Prelude.{Option, Some, None, IfSome, IfOk, OnOk, IsSomeAnd, Result, Ok, Err}
use Rattle.std.specs.Io.KnownBytes.{Consumes}
use Rattle.l3_base.specs.declared.rate.Rate.{Rate}
use Rattle.l3_base.specs.declared.settings.Settings.{Settings}
use Rattle.l3_io.specs.Causes.{count_after}
use Rattle.l3_io.specs.Taken.{Takes}
use Rattle.l3_wav.specs.declared.head.WavHead.{WavHead}
use Rattle.l3_wav.specs.Wav.{wav_of, after_head, HasLost}
use Rattle.l3_wav.specs.Samples.{SamplesState, coming, unread}
use Rattle.l3_wav.specs.Pcm.{left_of, right_of}
use Rattle.l3_wav.proofs.FileLemmas.{file_channels}
use Rattle.l3_wav.proofs.TailLemmas.{IsTail, file_of-tail}
use Rattle.l3_wav.specs.ReadingOn.{AreGone}
use Rattle.l3_commit.specs.declared.report.Report.{Report}
use Rattle.l3_commit.specs.declared.report.EncodeFault.{EncodeFault}
use Rattle.l3_commit.specs.Encoding.{encoding_of, gains_tried}
use Rattle.l3_commit.specs.Standing.{CommitterView, StandsFor}
use Rattle.l3_encoder.specs.declared.encoding.TurnFault.{TurnFault}
use Rattle.l3_encoder.specs.declared.encoding.TurnFault.TheVariants.{Read, Write}
use Rattle.l3_encoder.specs.Answers as turns
use Rattle.l3_encoder.specs.Changes.{SourceChange, SinkChange, source_change, sink_change}
use Rattle.l3_encoder.specs.Encoded.{IsAccepted, settings_with, left_in, right_in, encoding_by, encoding_in, rest_by, rest_in, frame_number_by, gains_by, gains_in, IsReport, AreBytes, TakesFrontOf, TakesFront, HasReadSome, CountsReads, CountsWrites, ExplainsReport, GivesSomeFrames, IsBeforeFirst, LeavesInput}
use Rattle.l3_encoder.specs.Opening.{IsOpened}
use Rattle.l3_encoder.specs.Turned.{answer_of, OfSamples, IsTurned}
use Rattle.l3_encoder.proofs.FileStreams.{samples-within}
use Rattle.l3_encoder.proofs.Says.{Says, IfSome-then}

-- ---- one file, whose bytes the source tells

-- a file with this head, whose samples were encoded
pub record IsRun (rate : Rate) (head : WavHead) (result : Result Report TurnFault) (bytes : List ℕ) (left_now : Option (List ℕ)) (taken taken_now : List ℕ → Type 0) (steps steps_now : ℕ) : Type 0 where
  pub accepted : wav_of bytes ≡ Ok head
  pub gives : turns.GivesStream (settings_with rate head) (left_in head bytes) (right_in head bytes) result taken taken_now
  pub rest : OnOk result (left_now ≡ Some (drop head.data_bytes (after_head bytes)))
  pub gone : AreGone head.data_bytes 0 (Some (after_head bytes)) left_now
  pub report : IfOk result (λ report. turns.IsReport (settings_with rate head) (left_in head bytes) (right_in head bytes) report)
  pub rise : steps_now ≤ steps + gains_tried (settings_with rate head) (left_in head bytes) (right_in head bytes)

head-tail : (bytes : List ℕ) → IsTail 12 bytes (after_head bytes)
unfolding after_head
head-tail bytes = file_of-tail bytes

-- some of the first bytes behind an end's beginning are gone too
lost-behind : (bytes tail gone : List ℕ) (most : ℕ) (now : Option (List ℕ)) → IsTail 12 bytes tail → length gone ≤ most → Consumes (Some tail) now gone →
    HasLost (length bytes - length (drop most tail)) bytes now
lost-behind bytes tail gone most None is within consumes = absurd consumes
lost-behind bytes tail gone most (Some left) is within consumes =
    let sizes : length tail ≡ length gone + length left = ap length consumes ∙ length-append gone left in
    let size : length tail ≡ length bytes - is.count = ap length is.is ∙ length-drop is.count bytes in
    let cut : length (drop most tail) ≡ length tail - most = length-drop most tail in
    record {
      count = is.count + length gone;
      low = omega (arith, sizes, size, cut, within, is.there);
      there = omega (arith, sizes, size, is.there);
      rest = ap Some (sym (ap (drop (length gone)) consumes ∙ drop-append_seam gone left) ∙ (ap (drop (length gone)) is.is ∙ drop-drop (length gone) is.count bytes));
    }

module _ (rate : Rate) (head : WavHead) (bytes : List ℕ) (left_now : Option (List ℕ)) (taken taken_now : List ℕ → Type 0) (steps now : ℕ) where
  abbrev Run : Result Report TurnFault → Type 0
  Run result = IsRun rate head result bytes left_now taken taken_now steps now

  encoded-is : wav_of bytes ≡ Ok head → encoding_in rate bytes ≡ Some (encoding_of (settings_with rate head) (left_in head bytes) (right_in head bytes))
  encoded-is accepted = ap (λ said. encoding_by rate said bytes) accepted

  run-lost : (result : Result Report TurnFault) → Run result → HasReadSome bytes left_now
  run-lost result run =
      let rest : rest_in bytes ≡ drop head.data_bytes (after_head bytes) = ap (λ said. rest_by said bytes) run.accepted in
      rw rest (lost-behind bytes (after_head bytes) run.gone.0 head.data_bytes left_now (head-tail bytes) (omega (arith, run.gone.1)) run.gone.2)

  run-taken : (report : Report) → Run (Ok report) → IsSomeAnd (encoding_in rate bytes) (λ stream. Takes taken taken_now stream) × IsReport rate bytes report
  run-taken report run = (
    subst (λ (told : Option (List ℕ)). IsSomeAnd told (λ stream. Takes taken taken_now stream)) (sym (encoded-is run.accepted)) run.gives,
    record {
      frames = run.report.frames ∙ sym (ap (λ said. frame_number_by said bytes) run.accepted);
      tried = run.report.tried ∙ sym (ap (λ said. gains_by rate said bytes) run.accepted);
    },
  )

  run-front : (fault : TurnFault) → Run (Err fault) → AreBytes bytes → TakesFrontOf (encoding_in rate bytes) taken taken_now
  run-front fault run all =
      let samples = file_channels bytes head all run.accepted in
      let front = run.gives (samples-within (left_in head bytes) samples.left) (samples-within (right_in head bytes) samples.right) in
      subst (λ (told : Option (List ℕ)). TakesFrontOf told taken taken_now) (sym (encoded-is run.accepted)) front

  run-leaves : (result : Result Report TurnFault) → Run result → LeavesInput (answer_of result) bytes left_now
  run-leaves (Ok report) run = run.rest ∙ ap Some (sym (ap (λ said. rest_by said bytes) run.accepted))
  run-leaves (Err Read) run = run-lost (Err Read) run
  run-leaves (Err Write) run = run-lost (Err Write) run

  run-rise : (result : Result Report TurnFault) → Run result → now ≤ steps + gains_in rate bytes
  run-rise result run =
      let same : gains_in rate bytes ≡ gains_tried (settings_with rate head) (left_in head bytes) (right_in head bytes) = ap (λ said. gains_by rate said bytes) run.accepted in
      omega (arith, run.rise, same)

-- ---- whatever the source tells

-- the committer stands for the samples of the data, of which none was read
abbrev pub StandsForData : WavHead → Settings → CommitterView → Type 0
StandsForData head st c = (bytes : List ℕ) →
    StandsFor c bytes st (left_of st.channels (coming (unread head.channels head.data_bytes) bytes)) (right_of st.channels (coming (unread head.channels head.data_bytes) bytes))

-- a file was opened, and its samples were encoded
pub record Ran {S K : Type 0} (left : S → Option (List ℕ)) (reads : S → ℕ) (taken : K → List ℕ → Type 0) (writes : K → ℕ)
    (rate : Rate) (head : WavHead) (st : Settings) (c : CommitterView) (result : Result Report TurnFault) (first opened last : S) (sink sink_now : K) (steps now : ℕ) : Type 0 where
  pub is_opened : IsOpened head (source_change left reads first opened)
  pub turned : IsTurned st c result (source_change left reads opened last) (sink_change taken writes sink sink_now) steps now
  pub samples : c.windows.samples ≡ unread head.channels head.data_bytes
  pub stands : StandsForData head st c

IfOk-then : {T E : Type 0} (r : Result T E) (P Q : T → Type 0) → ((x : T) → P x → Q x) → IfOk r P → IfOk r Q
IfOk-then (Ok x) P Q step p = step x p
IfOk-then (Err e) P Q step p = tt

OnOk-then : {T E : Type 0} (r : Result T E) (P Q : Type 0) → (P → Q) → OnOk r P → OnOk r Q
OnOk-then (Ok x) P Q step p = step p
OnOk-then (Err e) P Q step p = tt

-- where the source tells that what follows the head is left
run-of : (rate : Rate) (head : WavHead) (c : CommitterView) (result : Result Report TurnFault) (bytes : List ℕ) (source : SourceChange) (sink : SinkChange) (steps now : ℕ) →
    wav_of bytes ≡ Ok head → source.left ≡ Some (after_head bytes) → IsTurned (settings_with rate head) c result source sink steps now →
    c.windows.samples ≡ unread head.channels head.data_bytes → StandsForData head (settings_with rate head) c →
    IsRun rate head result bytes source.left_now sink.taken sink.taken_now steps now
run-of rate head c result bytes source sink steps now accepted is turned samples stands =
    let st = settings_with rate head in
    let tail = after_head bytes in
    let told : SourceChange = record source { left = Some tail } in
    let here : IsTurned st c result told sink steps now = subst (λ (l : Option (List ℕ)). IsTurned st c result (record source { left = l }) sink steps now) is turned in
    let stood = stands tail in
    let l = left_in head bytes in
    let r = right_in head bytes in
    let most : c.windows.samples.remaining ≡ head.data_bytes = ap (λ s. s.remaining) samples in
    record {
      accepted = accepted;
      gives = here.bytes l r stood;
      rest = OnOk-then result (OfSamples st c told (λ bytes left right. source.left_now ≡ Some (drop c.windows.samples.remaining bytes))) (source.left_now ≡ Some (drop head.data_bytes tail))
          (λ left. rw most at (left l r stood)) here.rest;
      gone = rw most at here.gone;
      report = IfOk-then result (λ report. OfSamples st c told (λ bytes left right. turns.IsReport st left right report)) (λ report. turns.IsReport st l r report)
          (λ report is. is l r stood) here.report;
      rise = here.rise l r stood;
    }

told-both : (told mid : Option (List ℕ)) (head : WavHead) (P : List ℕ → Type 0) → IfSome told (λ bytes. wav_of bytes ≡ Ok head) → IfSome told (λ bytes. mid ≡ Some (after_head bytes)) →
    ((bytes : List ℕ) → wav_of bytes ≡ Ok head → mid ≡ Some (after_head bytes) → P bytes) → IfSome told P
told-both None mid head P accepted rest step = tt
told-both (Some bytes) mid head P accepted rest step = step bytes accepted rest

module _ {S K : Type 0} (left : S → Option (List ℕ)) (reads : S → ℕ) (taken : K → List ℕ → Type 0) (writes : K → ℕ)
    (rate : Rate) (head : WavHead) (c : CommitterView) (first opened last : S) (sink sink_now : K) (steps now : ℕ) where
  abbrev IsRan : Settings → Result Report TurnFault → Type 0
  IsRan st result = Ran left reads taken writes rate head st c result first opened last sink sink_now steps now

  abbrev FileOf : Result Report TurnFault → List ℕ → Type 0
  FileOf result bytes = IsRun rate head result bytes (left last) (taken sink) (taken sink_now) steps now

  run-file : (result : Result Report TurnFault) → IsRan (settings_with rate head) result → IfSome (left first) (FileOf result)
  run-file result ran =
      told-both (left first) (left opened) head (FileOf result) ran.is_opened.accepted ran.is_opened.rest (λ bytes accepted is.
      run-of rate head c result bytes (source_change left reads opened last) (sink_change taken writes sink sink_now) steps now accepted is ran.turned ran.samples ran.stands)

  run-explains : (result : Result Report TurnFault) → IsRan (settings_with rate head) result →
      ExplainsReport rate (answer_of result) (source_change left reads first last) (sink_change taken writes sink sink_now)
  run-explains (Ok report) ran =
      IfSome-then (left first) (FileOf (Ok report)) (λ bytes. IsSomeAnd (encoding_in rate bytes) (λ stream. Takes (taken sink) (taken sink_now) stream) × IsReport rate bytes report)
      (λ bytes run. run-taken rate head bytes (left last) (taken sink) (taken sink_now) steps now report run) (run-file (Ok report) ran)
  run-explains (Err Read) ran =
      IfSome-then (left first) (FileOf (Err Read)) (λ bytes. TakesFront rate bytes (sink_change taken writes sink sink_now))
      (λ bytes run. run-front rate head bytes (left last) (taken sink) (taken sink_now) steps now Read run) (run-file (Err Read) ran)
  run-explains (Err Write) ran =
      IfSome-then (left first) (FileOf (Err Write)) (λ bytes. IsAccepted bytes × TakesFront rate bytes (sink_change taken writes sink sink_now))
      (λ bytes run. ((head, run.accepted), run-front rate head bytes (left last) (taken sink) (taken sink_now) steps now Write run)) (run-file (Err Write) ran)

  run-frames : (result : Result Report TurnFault) → IsRan (settings_with rate head) result →
      GivesSomeFrames rate (answer_of result) (sink_change taken writes sink sink_now)
  run-frames (Ok report) ran =
      let given = ran.turned.frames in
      (settings_with rate head, given.0, refl, given.1, given.2, given.3)
  run-frames (Err Read) ran =
      let given = ran.turned.frames in
      (settings_with rate head, given.0, refl, given.1, given.2)
  run-frames (Err Write) ran =
      let given = ran.turned.frames in
      (settings_with rate head, given.0, refl, given.1, given.2)

  run-input : (result : Result Report TurnFault) → IsRan (settings_with rate head) result →
      IfSome (left first) (λ bytes. LeavesInput (answer_of result) bytes (left last))
  run-input result ran =
      IfSome-then (left first) (FileOf result) (λ bytes. LeavesInput (answer_of result) bytes (left last))
      (λ bytes run. run-leaves rate head bytes (left last) (taken sink) (taken sink_now) steps now result run) (run-file result ran)

  run-rises : (result : Result Report TurnFault) → IsRan (settings_with rate head) result →
      IfSome (left first) (λ bytes. now ≤ steps + gains_in rate bytes)
  run-rises result ran =
      IfSome-then (left first) (FileOf result) (λ bytes. now ≤ steps + gains_in rate bytes)
      (λ bytes run. run-rise rate head bytes (left last) (taken sink) (taken sink_now) steps now result run) (run-file result ran)

  run-reads : (result : Result Report TurnFault) → IsRan (settings_with rate head) result →
      CountsReads (answer_of result) (source_change left reads first last)
  run-reads (Ok report) ran = ran.turned.cause.0 ∙ ran.is_opened.served
  run-reads (Err Read) ran = ran.turned.cause.0 ∙ ap count_after ran.is_opened.served
  run-reads (Err Write) ran = ran.turned.cause.0 ∙ ran.is_opened.served

  run-writes : (result : Result Report TurnFault) → IsRan (settings_with rate head) result →
      CountsWrites (answer_of result) (sink_change taken writes sink sink_now)
  run-writes (Ok report) ran = ran.turned.cause.1
  run-writes (Err Read) ran = ran.turned.cause.1
  run-writes (Err Write) ran = ran.turned.cause.1

  -- it is no answer that comes before the first granule
  run-late : (result : Result Report TurnFault) → IsBeforeFirst (answer_of result) → now ≡ steps
  run-late (Ok report) early = absurd early
  run-late (Err Read) early = absurd early
  run-late (Err Write) early = absurd early

  -- what the answer says of source and sink, of which the settings are those of the head
  abbrev SaysOf : Result Report EncodeFault → Type 0
  SaysOf answer = Says left reads taken writes rate first last sink sink_now steps now answer

  run-says : (result : Result Report TurnFault) → IsRan (settings_with rate head) result → SaysOf (answer_of result)
  run-says result ran = record {
    explains = run-explains result ran;
    some_frames = run-frames result ran;
    leaves = run-input result ran;
    counts_reads = run-reads result ran;
    counts_writes = run-writes result ran;
    rise = run-rises result ran;
    unstepped = run-late result;
  }

  -- the same of the answer that was given, where the committer was opened over the data
  pub file-says : (st : Settings) (samples : SamplesState) (result : Result Report TurnFault) (answer : Result Report EncodeFault) →
      answer ≡ answer_of result → st ≡ settings_with rate head → samples ≡ unread head.channels head.data_bytes → c.windows.samples ≡ samples →
      ((bytes : List ℕ) → StandsFor c bytes st (left_of st.channels (coming samples bytes)) (right_of st.channels (coming samples bytes))) →
      IsOpened head (source_change left reads first opened) →
      IsTurned st c result (source_change left reads opened last) (sink_change taken writes sink sink_now) steps now →
      SaysOf answer
  file-says st samples result answer is settings whole within stands is_opened turned =
      let stood : StandsForData head st c = λ bytes. subst (λ (s : SamplesState). StandsFor c bytes st (left_of st.channels (coming s bytes)) (right_of st.channels (coming s bytes))) whole (stands bytes) in
      let ran : IsRan st result = record { is_opened = is_opened; turned = turned; samples = within ∙ whole; stands = stood } in
      let same = subst (λ (s : Settings). IsRan s result) settings ran in
      subst SaysOf (sym is) (run-says result same)

-- what is said of the report of an answer
pub IfOk-answered : (result : Result Report TurnFault) (answer : Result Report EncodeFault) (P : Report → Type 0) → answer ≡ answer_of result → IfOk result P → IfOk answer P
IfOk-answered (Ok report) answer P is p = rw is p
IfOk-answered (Err Read) answer P is p = rw is tt
IfOk-answered (Err Write) answer P is p = rw is tt
