use Rattle.std.proofs.Common.{◌*◌}
use Rattle.l3_base.specs.declared.rate.Channels.TheVariants.{Mono, Stereo}
use Rattle.l3_bits.specs.Bits.{digits, bits_of}
use Rattle.l3_stream.specs.Side.{front_bits}
use Rattle.std.proofs.Common.{ap, sym, ◌∙◌}
use Rattle.l3_stream.proofs.UnitFieldLemmas.{mono_front, stereo_front, front_written}
use Rattle.l3_stream.proofs.side_writing.write_front.Goals as goal

pub returns-in-Mono : goal.returns-in-Mono
returns-in-Mono c =
    let begin = c.args.begin in
    front_written (bits_of c.put_bits.new.out) (bits_of c.args.out.now) (digits 18 (c.from.result * 512)) (front_bits c.args.channels begin) c.args.channels Mono c.in-Mono.is
    (mono_front begin c.from.result c.requires.begin c.from.ensures ∙ ap (λ x. front_bits x begin) (sym c.in-Mono.is)) c.put_bits.ensures

pub returns-in-Stereo : goal.returns-in-Stereo
returns-in-Stereo c =
    let begin = c.args.begin in
    front_written (bits_of c.put_bits-in-Stereo.new.out) (bits_of c.args.out.now) (digits 20 (c.from-in-Stereo.result * 2048)) (front_bits c.args.channels begin) c.args.channels Stereo c.in-Stereo.is
    (stereo_front begin c.from-in-Stereo.result c.requires.begin c.from-in-Stereo.ensures ∙ ap (λ x. front_bits x begin) (sym c.in-Stereo.is)) c.put_bits-in-Stereo.ensures
