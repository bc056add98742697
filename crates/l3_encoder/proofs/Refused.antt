-- A file of which nothing was encoded: what its answer says.
use Rattle.std.proofs.Common.{◌≡◌, ◌∙◌, sym, ap, refl, ℕ, ◌+◌, ◌-◌, ◌≤◌, List, [], length, arith, length-drop}
use Rattle.std.specs.Prelude.{Option, Some, None, Result, Ok, Err, IfSome}
use Rattle.l3_base.specs.declared.rate.Rate.{Rate}
use Rattle.l3_base.specs.declared.rate.Channels.TheVariants.{Mono}
use Rattle.l3_base.specs.declared.rate.SampleRate.TheVariants.{Hz44100}
use Rattle.l3_base.specs.declared.settings.Settings.{Settings}
use Rattle.l3_io.specs.Taken.{TakesPrefix}
use Rattle.l3_io.proofs.TakenLemmas.{TakesPrefix-none}
use Rattle.l3_stream.specs.declared.unit.ChosenFrame.{ChosenFrame}
use Rattle.l3_stream.specs.Tape.{FramesFit, stream_of}
use Rattle.l3_commit.specs.declared.report.EncodeFault.{EncodeFault}
use Rattle.l3_commit.specs.declared.report.EncodeFault.TheVariants.{Memory, Wav, Read, Write}
use Rattle.l3_wav.specs.declared.head.WavHead.{WavHead}
use Rattle.l3_wav.specs.declared.fault.WavFault.{WavFault}
use Rattle.l3_wav.specs.Wav.{wav_of, after_head}
use Rattle.l3_wav.proofs.TailLemmas.{HasLost-within}
use Rattle.l3_encoder.specs.Changes.{SourceChange, source_change, sink_change}
use Rattle.l3_encoder.specs.Encoded.{CountsReads, CountsWrites, ExplainsReport, GivesSomeFrames, HasReadSome, IsAccepted, LeavesInput, TakesFront, TakesFrontOf, encoding_in, gains_in, rest_by, rest_in}
use Rattle.l3_encoder.specs.Opening.{IsOpened, Refuses}
use Rattle.l3_encoder.proofs.Says.{Says, IfSome-then}

-- no frames of some settings of this rate, whatever the file's are
frames-none : (rate : Rate) (taken : List ℕ → Type 0) →
    (st : Settings) × (fs : List ChosenFrame) × (st.rate ≡ rate) × FramesFit st 0 0 fs × TakesPrefix taken taken (stream_of st fs)
frames-none rate taken =
    let st : Settings = record { rate = rate; sample_rate = Hz44100; channels = Mono } in
    (st, [], refl, tt, TakesPrefix-none taken taken (stream_of st []) (λ list is. is))

refused-frames : {K : Type 0} (rate : Rate) (why : EncodeFault) (source : SourceChange) (taken : K → List ℕ → Type 0) (faults : K → ℕ) (sink : K) →
    Refuses why source → GivesSomeFrames rate (Err why) (sink_change taken faults sink sink)
refused-frames rate Memory source taken faults sink refused = absurd refused
refused-frames rate (Wav why) source taken faults sink refused = refl
refused-frames rate Read source taken faults sink refused = frames-none rate (taken sink)
refused-frames rate Write source taken faults sink refused = absurd refused

-- what follows the data is no longer than what follows the head
rest-shorter : (said : Result WavHead WavFault) (bytes : List ℕ) → length (rest_by said bytes) ≤ length (after_head bytes)
rest-shorter (Ok head) bytes = omega (arith, length-drop head.data_bytes (after_head bytes))
rest-shorter (Err why) bytes = omega arith

-- nothing is a front of whatever there is
front-none : (taken : List ℕ → Type 0) (told : Option (List ℕ)) → TakesFrontOf told taken taken
front-none taken None = λ list is. is
front-none taken (Some stream) = TakesPrefix-none taken taken stream (λ list is. is)

-- the longer what is left, the less is gone
less : (n a b : ℕ) → a ≤ b → n - b ≤ n - a
less n a b within = omega arith

module _ {S K : Type 0} (left : S → Option (List ℕ)) (reads : S → ℕ) (taken : K → List ℕ → Type 0) (writes : K → ℕ)
    (rate : Rate) (first last : S) (sink : K) (steps : ℕ) where
  abbrev change : SourceChange
  change = source_change left reads first last

  refused-explains : (why : EncodeFault) → Refuses why change → ExplainsReport rate (Err why) change (sink_change taken writes sink sink)
  refused-explains Memory refused = absurd refused
  refused-explains (Wav why) refused =
      (IfSome-then (left first) _ (λ bytes. wav_of bytes ≡ Err why) (λ bytes said. said.0) refused.2, refused.0, refl)
  refused-explains Read refused =
      IfSome-then (left first) _ (λ bytes. TakesFront rate bytes (sink_change taken writes sink sink)) (λ bytes said all. front-none (taken sink) (encoding_in rate bytes)) refused.1
  refused-explains Write refused = absurd refused

  refused-leaves : (why : EncodeFault) → Refuses why change → IfSome (left first) (λ bytes. LeavesInput (Err why) bytes (left last))
  refused-leaves Memory refused = absurd refused
  refused-leaves (Wav why) refused =
      IfSome-then (left first) _ (λ bytes. left last ≡ Some (rest_in bytes)) (λ bytes said. said.1 ∙ ap Some (sym (ap (λ read. rest_by read bytes) said.0))) refused.2
  refused-leaves Read refused =
      IfSome-then (left first) _ (λ bytes. HasReadSome bytes (left last))
      (λ bytes lost. HasLost-within (length bytes - length (after_head bytes)) (length bytes - length (rest_in bytes)) bytes (left last) (less (length bytes) (length (rest_in bytes)) (length (after_head bytes)) (rest-shorter (wav_of bytes) bytes)) lost) refused.1
  refused-leaves Write refused = absurd refused

  refused-reads : (why : EncodeFault) → Refuses why change → CountsReads (Err why) change
  refused-reads Memory refused = absurd refused
  refused-reads (Wav why) refused = refused.1
  refused-reads Read refused = refused.0
  refused-reads Write refused = absurd refused

  refused-writes : (why : EncodeFault) → Refuses why change → CountsWrites (Err why) (sink_change taken writes sink sink)
  refused-writes Memory refused = absurd refused
  refused-writes (Wav why) refused = refl
  refused-writes Read refused = refl
  refused-writes Write refused = absurd refused

  rise-none : (told : Option (List ℕ)) → IfSome told (λ bytes. steps ≤ steps + gains_in rate bytes)
  rise-none None = tt
  rise-none (Some bytes) = omega arith

  -- the head was refused, or not read
  pub refused-says : (why : EncodeFault) → Refuses why change → Says left reads taken writes rate first last sink sink steps steps (Err why)
  refused-says why refused = record {
    explains = refused-explains why refused;
    some_frames = refused-frames rate why change taken writes sink refused;
    leaves = refused-leaves why refused;
    counts_reads = refused-reads why refused;
    counts_writes = refused-writes why refused;
    rise = rise-none (left first);
    unstepped = λ early. refl;
  }

  -- the head was read, and then there was no memory
  pub lacking-says : (head : WavHead) → IsOpened head change → Says left reads taken writes rate first last sink sink steps steps (Err Memory)
  lacking-says head is_opened = record {
    explains = (IfSome-then (left first) (λ bytes. wav_of bytes ≡ Ok head) IsAccepted (λ bytes accepted. (head, accepted)) is_opened.accepted, refl);
    some_frames = refl;
    leaves = is_opened.rest;
    counts_reads = is_opened.served;
    counts_writes = refl;
    rise = rise-none (left first);
    unstepped = λ early. refl;
  }
