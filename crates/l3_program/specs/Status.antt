-- How a run ended: its status, the number and the text of it.
use Rattle.std.specs.Prelude.{List, ℕ, ◌-◌, [], ◌∷◌, ◌++◌, codes, decimal}
use Rattle.l3_commit.specs.declared.report.Report.{Report}
use Rattle.l3_wav.specs.declared.fault.WavFault.{WavFault}
use Rattle.l3_wav.specs.declared.fault.WavFault.TheVariants as fault
use Rattle.l3_stream.specs.declared.fault.StreamFault.{StreamFault}
use Rattle.l3_stream.specs.declared.fault.StreamFault.TheVariants as stream
use Rattle.l3_program.specs.declared.status.Status.{Status}
use Rattle.l3_program.specs.declared.status.Status.TheVariants as status
use Rattle.l3_program.specs.declared.ending.Ending.{Ending}
use Rattle.l3_program.specs.declared.ending.Ending.TheVariants as ending

-- the exit status
abbrev pub exit_number : Status → ℕ
exit_number status.Ok = 0
exit_number status.Memory = 1
exit_number status.Usage = 2
exit_number status.BadWav = 3
exit_number status.Unsupported = 4
exit_number status.ReadFault = 5
exit_number status.WriteFault = 6
exit_number status.BadStream = 7

-- the status of a head that is refused: no WAV file, or one of a form that is never encoded
abbrev pub refusal_of : WavFault → Status
refusal_of fault.NotRiff = status.BadWav
refusal_of fault.HeaderEnds = status.BadWav
refusal_of fault.NoFmtBeforeData = status.BadWav
refusal_of fault.HeaderTooLong = status.BadWav
refusal_of fault.UnsupportedFormat = status.Unsupported
refusal_of fault.UnsupportedChannels = status.Unsupported
refusal_of fault.UnsupportedRate = status.Unsupported
refusal_of fault.UnsupportedDepth = status.Unsupported
refusal_of fault.BadBlockAlign = status.BadWav
refusal_of fault.Read = status.ReadFault

-- the status of an ending
abbrev pub status_of : Ending → Status
status_of ending.Done = status.Ok
status_of (ending.Counted report) = status.Ok
status_of ending.Usage = status.Usage
status_of (ending.Refused why) = refusal_of why
status_of (ending.Deviates fault) = status.BadStream
status_of ending.ReadFault = status.ReadFault
status_of ending.WriteFault = status.WriteFault
status_of ending.Memory = status.Memory

-- a line of text
abbrev pub line : List ℕ → List ℕ
line text = text ++ 10 ∷ []

-- the line of a head that is refused, by its fault's name
abbrev pub refusal_text : WavFault → List ℕ
refusal_text fault.NotRiff = line (codes "mp3enc: wav: NotRiff")
refusal_text fault.HeaderEnds = line (codes "mp3enc: wav: HeaderEnds")
refusal_text fault.NoFmtBeforeData = line (codes "mp3enc: wav: NoFmtBeforeData")
refusal_text fault.HeaderTooLong = line (codes "mp3enc: wav: HeaderTooLong")
refusal_text fault.UnsupportedFormat = line (codes "mp3enc: wav: UnsupportedFormat")
refusal_text fault.UnsupportedChannels = line (codes "mp3enc: wav: UnsupportedChannels")
refusal_text fault.UnsupportedRate = line (codes "mp3enc: wav: UnsupportedRate")
refusal_text fault.UnsupportedDepth = line (codes "mp3enc: wav: UnsupportedDepth")
refusal_text fault.BadBlockAlign = line (codes "mp3enc: wav: BadBlockAlign")
refusal_text fault.Read = line (codes "mp3enc: read fault")

-- the name of a stream's fault
abbrev pub name_of : StreamFault → List ℕ
name_of (stream.BadHeader at) = codes "BadHeader"
name_of (stream.ShortFrame at) = codes "ShortFrame"
name_of (stream.BadSide at) = codes "BadSide"
name_of (stream.BadBegin at) = codes "BadBegin"
name_of (stream.BadCode at) = codes "BadCode"
name_of (stream.WrongLength at) = codes "WrongLength"
name_of (stream.NotZero at) = codes "NotZero"
name_of stream.Read = codes "Read"
name_of stream.Memory = codes "Memory"
name_of (stream.TooLong at) = codes "TooLong"

-- its place: a byte of the file, or a bit of the tape; a failed read and want of memory have none
abbrev pub fault_place : StreamFault → ℕ
fault_place (stream.BadHeader at) = at
fault_place (stream.ShortFrame at) = at
fault_place (stream.BadSide at) = at
fault_place (stream.BadBegin at) = at
fault_place (stream.BadCode at) = at
fault_place (stream.WrongLength at) = at
fault_place (stream.NotZero at) = at
fault_place stream.Read = 0
fault_place stream.Memory = 0
fault_place (stream.TooLong at) = at

-- the line of a stream that deviates
abbrev pub deviation_text : StreamFault → List ℕ
deviation_text fault = codes "mp3enc: stream: " ++ name_of fault ++ codes " at " ++ decimal (fault_place fault) ++ 10 ∷ []

-- the counts that were not made anew
abbrev pub reused_of : Report → ℕ
reused_of report = report.tried - report.made

-- `frames F tried T made M reused R` and a newline, in decimal: the gains tried, how many of their
-- counts were made, and how many were there already
abbrev pub statistics_line : (frames tried made reused : ℕ) → List ℕ
statistics_line frames tried made reused = codes "frames " ++ decimal frames ++ codes " tried " ++ decimal tried
    ++ codes " made " ++ decimal made ++ codes " reused " ++ decimal reused ++ 10 ∷ []

-- what notes are told
abbrev pub text_of : Ending → List ℕ
text_of ending.Done = []
text_of (ending.Counted report) = statistics_line report.frames report.tried report.made (reused_of report)
text_of ending.Usage = line (codes "mp3enc: usage: mp3enc encode, check or demo FRAMES SEED")
text_of (ending.Refused why) = refusal_text why
text_of (ending.Deviates fault) = deviation_text fault
text_of ending.ReadFault = line (codes "mp3enc: read fault")
text_of ending.WriteFault = line (codes "mp3enc: write fault")
text_of ending.Memory = line (codes "mp3enc: out of memory")
