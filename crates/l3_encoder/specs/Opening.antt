-- What opening a file gives: its head, or why it is refused.
use Rattle.std.specs.Prelude.{◌≡◌, ◌≢◌, ◌-◌, length, Some, Ok, Err, IfSome}
use Rattle.l3_io.specs.Causes.{count_after}
use Rattle.l3_wav.specs.declared.head.WavHead.{WavHead}
use Rattle.l3_wav.specs.declared.fault.WavFault.TheVariants as fault
use Rattle.l3_wav.specs.Wav.{wav_of, after_head, HasLost}
use Rattle.l3_commit.specs.declared.report.EncodeFault.{EncodeFault}
use Rattle.l3_commit.specs.declared.report.EncodeFault.TheVariants.{Memory, Wav, Read, Write}
use Rattle.l3_encoder.specs.Changes.{SourceChange}

-- this head was read, and no byte after it
pub record IsOpened (head : WavHead) (source : SourceChange) : Type 0 where
  pub accepted : IfSome source.left (λ bytes. wav_of bytes ≡ Ok head)
  pub rest : IfSome source.left (λ bytes. source.left_now ≡ Some (after_head bytes))
  pub served : source.faults_now ≡ source.faults

-- why none was, and what is left then: want of memory or a write fault it never is
abbrev pub Refuses : EncodeFault → SourceChange → Type 0
Refuses Memory source = ⊥
Refuses (Wav why) source = (why ≢ fault.Read) × (source.faults_now ≡ source.faults)
    × IfSome source.left (λ bytes. (wav_of bytes ≡ Err why) × (source.left_now ≡ Some (after_head bytes)))
Refuses Read source = (source.faults_now ≡ count_after source.faults)
    × IfSome source.left (λ bytes. HasLost (length bytes - length (after_head bytes)) bytes source.left_now)
Refuses Write source = ⊥
