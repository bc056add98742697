use Rattle.std.proofs.Common.{◌≡◌, Err}
use Rattle.l3_wav.specs.Wav.{wav_of}
use Rattle.l3_program.proofs.DemoLemmas.{never_refused}
use Rattle.l3_program.proofs.demo.encode_signal.Goals as goal

pub unreachable-requires : goal.unreachable-requires
unreachable-requires g c =
    let says : wav_of c.demo_source-source.result ≡ Err c.in-Err-Wav.field-0-0 = (rw c.in-Err-Wav.field-0-is at c.in-Err-Wav.ensures.explains).0 in
    never_refused c.args.words.frames c.args.words.seed c.in-Err-Wav.field-0-0 c.requires.most (rw c.demo_source-source.ensures at says)
