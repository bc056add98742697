-- How an encoding ends, by its answer.
use Rattle.std.proofs.Common.{◌≡◌, ℕ, ◌+◌, ◌<◌, ◌≤◌, Bool, true, false, refl, inl, arith}
use Rattle.std.specs.Prelude.{IfOk, IfSome, Result, Ok, Err}
use Rattle.std.proofs.lemmas.Option.{IfSome_then}
use Rattle.l3_commit.specs.declared.report.Report.{Report}
use Rattle.l3_commit.specs.declared.report.EncodeFault.{EncodeFault}
use Rattle.l3_commit.specs.declared.report.EncodeFault.TheVariants as encode_fault
use Rattle.l3_encoder.specs.Changes.{SourceChange, SinkChange}
use Rattle.l3_encoder.specs.Encoded.{CountsReads, CountsWrites, ExplainsReport, GivesSomeFrames, LeavesInput}
use Rattle.l3_words.specs.declared.command.EncodeWords.{EncodeWords}
use Rattle.l3_program.specs.declared.words.Command.TheVariants.{Encode}
use Rattle.l3_program.specs.Program.{Ends, encoded_ending, ending_by}
use Rattle.l3_program.specs.Status.{reused_of}
use Rattle.l3_program.proofs.StatusLemmas.{refusal_frames, refusal_leaves}

sums_up : (report : Report) → report.made ≤ report.tried → report.made + reused_of report ≡ report.tried
sums_up report no_more = omega (arith, no_more)

-- how many of the counts were made: no more than tried, and without workers all
pub record Counts (words : EncodeWords) (report : Report) (Made : ℕ → Type 0) : Type 0 where
  pub no_more : report.made ≤ report.tried
  pub made : Made report.made
  pub alone : words.options.workers ≡ 0 → report.made ≡ report.tried

pub counts_alone : (words : EncodeWords) (answer : Result Report EncodeFault) (old now : ℕ) → IfOk answer (λ report. (report.made ≡ report.tried) × (now ≡ old + report.made)) →
    IfOk answer (λ report. Counts words report (λ made. now ≡ old + made))
counts_alone words (Ok report) old now ticks = record { no_more = omega (arith, ticks.0); made = ticks.1; alone = λ none. ticks.0 }
counts_alone words (Err why) old now ticks = tt

pub counts_ahead : (words : EncodeWords) (answer : Result Report EncodeFault) (old now : ℕ) → 0 < words.options.workers →
    IfOk answer (λ report. (report.made ≤ report.tried) × (now ≡ old + report.made)) → IfOk answer (λ report. Counts words report (λ made. now ≡ old + made))
counts_ahead words (Ok report) old now some ticks = record { no_more = ticks.0; made = ticks.1; alone = λ none. absurd (omega (arith, some, none)) }
counts_ahead words (Err why) old now some ticks = tt

module _ (words : EncodeWords) (source : SourceChange) (sink : SinkChange) (Made : ℕ → Type 0) where
  encoded : (report : Report) (stats : Bool) → words.stats ≡ stats → ExplainsReport words.options.rate (Ok report) source sink → GivesSomeFrames words.options.rate (Ok report) sink →
      IfSome source.left (λ bytes. LeavesInput (Ok report) bytes source.left_now) → CountsReads (Ok report) source → CountsWrites (Ok report) sink → Counts words report Made →
      Ends (Encode words) (encoded_ending stats report) source sink Made
  encoded report true stats explains frames left reads writes counts = record {
    explains = (
      record {
        wanted = stats;
        numbers = IfSome_then source.left explains (λ bytes p. p.1);
        sum = sums_up report counts.no_more;
        made = counts.made;
        alone = counts.alone;
      },
      IfSome_then source.left explains (λ bytes p. p.0),
    );
    frames = (frames.0, frames.1, frames.2, frames.3, frames.4);
    left = left;
    kept = tt;
    reads = reads;
    writes = writes;
  }
  encoded report false stats explains frames left reads writes counts = record {
    explains = (stats, IfSome_then source.left explains (λ bytes p. p.0));
    frames = (frames.0, frames.1, frames.2, frames.3, frames.4);
    left = left;
    kept = tt;
    reads = reads;
    writes = writes;
  }

  -- what an answer says is what its ending says
  pub ends_by : (answer : Result Report EncodeFault) → ExplainsReport words.options.rate answer source sink → GivesSomeFrames words.options.rate answer sink →
      IfSome source.left (λ bytes. LeavesInput answer bytes source.left_now) → CountsReads answer source → CountsWrites answer sink → IfOk answer (λ report. Counts words report Made) →
      Ends (Encode words) (ending_by words answer) source sink Made
  ends_by (Ok report) explains frames left reads writes counts = encoded report words.stats refl explains frames left reads writes counts
  ends_by (Err encode_fault.Memory) explains frames left reads writes counts = record {
    explains = (tt, explains.0, explains.1);
    frames = frames;
    left = IfSome_then source.left left (λ bytes is. inl is);
    kept = tt;
    reads = reads;
    writes = writes;
  }
  ends_by (Err (encode_fault.Wav why)) explains frames left reads writes counts = record {
    explains = (tt, explains.0, explains.1, explains.2);
    frames = refusal_frames words.options.rate why sink explains.1 frames;
    left = refusal_leaves words why source.left source.left_now explains.1 left;
    kept = tt;
    reads = reads;
    writes = writes;
  }
  ends_by (Err encode_fault.Read) explains frames left reads writes counts = record {
    explains = (tt, explains);
    frames = frames;
    left = left;
    kept = tt;
    reads = reads;
    writes = writes;
  }
  ends_by (Err encode_fault.Write) explains frames left reads writes counts = record {
    explains = explains;
    frames = frames;
    left = left;
    kept = tt;
    reads = reads;
    writes = writes;
  }
