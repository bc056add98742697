-- What an encoding of samples as they come says by its answer.
use Rattle.std.specs.Prelude.{◌≡◌, ℕ, List, length, ℤ, Result, Ok, Err, IfOk}
use Rattle.l3_base.specs.declared.settings.Settings.{Settings}
use Rattle.l3_base.specs.Lengths.{frames_for}
use Rattle.l3_io.specs.Causes.{count_after}
use Rattle.l3_io.specs.Taken.{Takes, TakesPrefix, Writes}
use Rattle.l3_stream.specs.declared.unit.ChosenFrame.{ChosenFrame}
use Rattle.l3_stream.specs.Tape.{FramesFit, stream_of}
use Rattle.l3_commit.specs.declared.report.Report.{Report}
use Rattle.l3_commit.specs.Encoding.{encoding_of, gains_tried}
use Rattle.l3_commit.specs.Laws.{AreSamples}
use Rattle.l3_encoder.specs.declared.encoding.TurnFault.{TurnFault}
use Rattle.l3_encoder.specs.declared.encoding.TurnFault.TheVariants.{Read, Write}

-- the encoding of samples was taken; after a fault a front of it
abbrev pub GivesStream : Settings → (left right : List ℤ) → Result Report TurnFault → (old new : List ℕ → Type 0) → Type 0
GivesStream st left right (Ok report) old new = Takes old new (encoding_of st left right)
GivesStream st left right (Err fault) old new =
    AreSamples left → AreSamples right → TakesPrefix old new (encoding_of st left right)

-- whatever samples there are: the stream of some frames that fit was taken, as many as are told of;
-- after a fault a front of it
abbrev pub GivesFrames : Settings → Result Report TurnFault → (old new : List ℕ → Type 0) → Type 0
GivesFrames st result old new = (fs : List ChosenFrame) × FramesFit st 0 0 fs
    × Writes old new result (stream_of st fs)
    × IfOk result (λ report. report.frames ≡ length fs)

-- its numbers are those of the choice of frames
pub record IsReport (st : Settings) (left right : List ℤ) (report : Report) : Type 0 where
  pub frames : report.frames ≡ frames_for (length left)
  pub tried : report.tried ≡ gains_tried st left right

-- a read fault is one fault of the source and none of the sink, a write fault the other way round,
-- and where all was encoded there was none
abbrev pub CountsFaults : Result Report TurnFault → (reads reads_now writes writes_now : ℕ) → Type 0
CountsFaults (Ok report) reads reads_now writes writes_now = (reads_now ≡ reads) × (writes_now ≡ writes)
CountsFaults (Err Read) reads reads_now writes writes_now = (reads_now ≡ count_after reads) × (writes_now ≡ writes)
CountsFaults (Err Write) reads reads_now writes writes_now = (reads_now ≡ reads) × (writes_now ≡ count_after writes)
