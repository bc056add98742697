use Rattle.std.proofs.Common.{◌≡◌, length, drop, ap, sym, ◌∙◌, rules}
use Rattle.std.proofs.lemmas.List.{drop_at}
use Rattle.l3_base.specs.declared.rate.Channels.TheVariants.{Mono, Stereo}
use Rattle.l3_stream.specs.Side.{side_of}
use Rattle.l3_stream.proofs.UnitFieldLemmas.{can_say, bytes_first, bytes_all, none_past}
use Rattle.l3_stream.proofs.side_writing.write_side.Goals as goal

pub write_mono-requires-clause-number : goal.write_mono-requires-clause-number
write_mono-requires-clause-number c = (can_say c.args.settings.now Mono c.args.frame.now c.in-Mono.is c.requires.coded).number

pub write_mono-requires-clause-fields : goal.write_mono-requires-clause-fields
write_mono-requires-clause-fields c = (can_say c.args.settings.now Mono c.args.frame.now c.in-Mono.is c.requires.coded).fields

pub write_stereo-requires-clause-number : goal.write_stereo-requires-clause-number
write_stereo-requires-clause-number c = (can_say c.args.settings.now Stereo c.args.frame.now c.in-Stereo.is c.requires.coded).number

pub write_stereo-requires-clause-fields : goal.write_stereo-requires-clause-fields
write_stereo-requires-clause-fields c = (can_say c.args.settings.now Stereo c.args.frame.now c.in-Stereo.is c.requires.coded).fields

pub returns-in-Mono-clause-bits : goal.returns-in-Mono-clause-bits
returns-in-Mono-clause-bits c =
    let size : length c.write_mono.new.out ≡ 17 = search rules in
    bytes_first c.write_mono.new.out _ 17 (side_of c.args.settings.now.channels c.args.frame.now) size (c.write_mono.ensures ∙ ap (λ x. side_of x c.args.frame.now) (sym c.in-Mono.is))

pub returns-in-Mono-clause-rest : goal.returns-in-Mono-clause-rest
returns-in-Mono-clause-rest c =
    let size : length c.write_mono.new.out ≡ 17 = search rules in
    drop_at c.write_mono.new.out (drop 17 c.args.out.now) 17 size

pub returns-in-Stereo-clause-bits : goal.returns-in-Stereo-clause-bits
returns-in-Stereo-clause-bits c =
    let size : length c.write_stereo.new.out ≡ 32 = search rules in
    bytes_all c.write_stereo.new.out 32 (side_of c.args.settings.now.channels c.args.frame.now) size (c.write_stereo.ensures ∙ ap (λ x. side_of x c.args.frame.now) (sym c.in-Stereo.is))

pub returns-in-Stereo-clause-rest : goal.returns-in-Stereo-clause-rest
returns-in-Stereo-clause-rest c =
    let size : length c.write_stereo.new.out ≡ 32 = search rules in
    let old : length c.args.out.now ≡ 32 = search rules in
    none_past c.write_stereo.new.out c.args.out.now 32 size old
