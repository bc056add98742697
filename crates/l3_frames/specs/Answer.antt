-- What the reader of a stream answers.
use Rattle.std.specs.Prelude.{◌≡◌, ⊤, Result, Err}
use Rattle.l3_stream.specs.declared.fault.StreamFault.{StreamFault}
use Rattle.l3_stream.specs.declared.fault.StreamFault.TheVariants as faults
use Rattle.l3_stream.specs.Deviation.{Content}
use Rattle.l3_frames.specs.declared.stream.Stream.{Stream}

-- a failed read and want of memory say nothing of the bytes; any other fault is theirs
abbrev pub IsFaultOf : {A : Type 0} → StreamFault → Result A StreamFault → Type 0
IsFaultOf faults.Read said = ⊤
IsFaultOf faults.Memory said = ⊤
IsFaultOf fault said = said ≡ Err fault

-- the settings and the frames
abbrev pub content_in : Stream → Content
content_in stream = record { settings = stream.settings; frames = stream.frames.items }
