-- What encoding the samples of an open file gives.
use Rattle.std.specs.Prelude.{◌≡◌, ℕ, ◌+◌, ◌*◌, ◌<◌, ◌≤◌, List, ℤ, false, length, drop, Result, Ok, Err, Some, IfOk, IfSome, OnOk}
use Rattle.l3_base.specs.declared.settings.Settings.{Settings}
use Rattle.l3_board.specs.declared.entry.Entry.{Entry}
use Rattle.l3_board.specs.Offers.{GoesWith}
use Rattle.l3_wav.specs.ReadingOn.{AreGone}
use Rattle.l3_commit.specs.declared.report.Report.{Report}
use Rattle.l3_commit.specs.declared.report.EncodeFault.{EncodeFault}
use Rattle.l3_commit.specs.declared.report.EncodeFault.TheVariants as fault
use Rattle.l3_commit.specs.Encoding.{gains_tried}
use Rattle.l3_commit.specs.Standing.{CommitterView, StandsFor}
use Rattle.l3_commit.specs.Tracks.{first_track, next_of}
use Rattle.l3_encoder.specs.declared.encoding.TurnFault.{TurnFault}
use Rattle.l3_encoder.specs.declared.encoding.TurnFault.TheVariants.{Read, Write}
use Rattle.l3_encoder.specs.Answers.{CountsFaults, GivesFrames, GivesStream, IsReport}
use Rattle.l3_encoder.specs.Changes.{SourceChange, SinkChange}

-- the answer of a file's encoding, by that of its samples'
abbrev pub answer_of : Result Report TurnFault → Result Report EncodeFault
answer_of (Ok report) = Ok report
answer_of (Err Read) = Err fault.Read
answer_of (Err Write) = Err fault.Write

-- a fact of whatever samples the committer stands for, where the source tells its bytes
abbrev pub OfSamples : Settings → CommitterView → SourceChange → (List ℕ → (left right : List ℤ) → Type 0) → Type 0
OfSamples st c source fact = IfSome source.left (λ bytes. (left right : List ℤ) → StandsFor c bytes st left right → fact bytes left right)

-- a committer's samples were encoded under these settings, with this answer
pub record IsTurned (st : Settings) (c : CommitterView) (result : Result Report TurnFault) (source : SourceChange) (sink : SinkChange) (steps steps_now : ℕ) : Type 0 where
  pub bytes : OfSamples st c source (λ bytes left right. GivesStream st left right result sink.taken sink.taken_now)
  pub frames : GivesFrames st result sink.taken sink.taken_now
  pub rest : OnOk result (OfSamples st c source (λ bytes left right. source.left_now ≡ Some (drop c.windows.samples.remaining bytes)))
  pub gone : AreGone c.windows.samples.remaining 0 source.left source.left_now
  pub report : IfOk result (λ report. OfSamples st c source (λ bytes left right. IsReport st left right report))
  pub rise : OfSamples st c source (λ bytes left right. steps_now ≤ steps + gains_tried st left right)
  pub later_steps : steps ≤ steps_now
  pub cause : CountsFaults result source.faults source.faults_now sink.faults sink.faults_now

-- a committer is before its first granule, over a board with so many cells, whose desk was made
-- with it, tells these entries, and has served nothing
pub record CanTurnOver (st : Settings) (c : CommitterView) (cells : ℕ) (made : Type 0) (last : List Entry) (served : ℕ) : Type 0 where
  pub start : (c.track ≡ first_track st) × (c.windows.base ≡ 0)
  pub desk : made
  pub cells_are : length c.offers.placed ≡ cells
  pub some : 0 < length c.offers.placed
  pub ahead : 0 < c.windows.ahead
  pub goes : GoesWith last c.offers
  pub waits : c.offers.next ≡ 0
  pub served_none : served ≡ 0
  pub sound : c.windows.samples.failed ≡ false

-- its samples were encoded over a board, whose desk was served with each granule
pub record IsTurnedOver (st : Settings) (c d : CommitterView) (result : Result Report TurnFault) (source : SourceChange) (sink : SinkChange) (steps steps_now : ℕ) (made : Type 0) (served : ℕ) : Type 0 where
  pub turned : IsTurned st c result source sink steps steps_now
  pub ticks : IfOk result (λ report. (report.made ≤ report.tried) × (steps_now ≡ steps + report.made))
  pub later : (source.faults ≤ source.faults_now) × (sink.faults ≤ sink.faults_now)
  pub desk : made
  pub served_is : OnOk result (served ≡ next_of d.track)
  pub whole : IfOk result (λ report. next_of d.track ≡ 2 * report.frames)
