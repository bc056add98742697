use Rattle.std.proofs.Common.{◌≡◌, Err}
use Rattle.l3_wav.specs.Wav.{wav_of}
use Rattle.l3_io.specs.Taken.{length_of}
use Rattle.sha2.specs.Hashers.{Holds256}
use Rattle.l3_program.proofs.DemoLemmas.{never_refused, summary_is}
use Rattle.l3_program.specs.Demo.{file_for}
use Rattle.l3_program.proofs.demo.encode_signal_ahead.Goals as goal

pub unreachable-requires : goal.unreachable-requires
unreachable-requires g c =
    let says : wav_of c.demo_source-source.result ≡ Err c.in-Err-Wav.field-0-0 = (rw c.in-Err-Wav.field-0-is at c.in-Err-Wav.ensures.explains).0 in
    never_refused c.args.words.frames c.args.words.seed c.in-Err-Wav.field-0-0 c.requires.most (rw c.demo_source-source.ensures at says)

pub returns-in-Ok-clause-summary : goal.returns-in-Ok-clause-summary
returns-in-Ok-clause-summary g c =
    let old = c.new-stream.result in
    let new = c.encode_with.new.sink in
    summary_is c.args.words.options.rate (file_for c.args.words) c.in-Ok.report c.summed.result
    (λ list. Holds256 old.hasher list × (old.length ≡ length_of list)) (λ list. Holds256 new.hasher list × (new.length ≡ length_of list)) c.new-stream.ensures.empty
    c.summed.ensures.frames c.summed.ensures.bytes c.summed.ensures.digest (rw c.demo_source-source.ensures at c.in-Ok.ensures.explains)
