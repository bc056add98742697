use Rattle.std.proofs.Common.{◌≡◌, ◌+◌, ◌≤◌, ◌*◌, ◌++◌, length, arith, ap, sym, subst, ◌∙◌, length-append, get_or}
use Rattle.l3_base.specs.declared.rate.Channels.{Channels}
use Rattle.l3_bits.specs.Bits.{bits_of}
use Rattle.l3_stream.specs.Coded.{IsCodedGranule}
use Rattle.l3_stream.specs.Units.{unit_bits}
use Rattle.l3_frames.specs.Laying.{granule_bits, laid_over}
use Rattle.l3_frames.proofs.CodeLemmas.{no_unit, has_two, two_laid}
use Rattle.l3_frames.proofs.codes.write_granule.Goals as goal

pub returns-in-Stereo-clause-bits : goal.returns-in-Stereo-clause-bits
returns-in-Stereo-clause-bits c =
    let st = c.args.settings.now in
    let g = c.args.units.now in
    let two = has_two st g no_unit (subst (λ (ch : Channels). IsCodedGranule st ch g) c.in-Stereo.is c.requires.coded) in
    let a = unit_bits st (get_or g 0 no_unit) in
    let b = unit_bits st (get_or g 1 no_unit) in
    let codes : granule_bits st st.channels g ≡ a ++ b = ap (λ ch. granule_bits st ch g) c.in-Stereo.is ∙ two.bits in
    let room : c.args.at + (length a + length b) ≤ 8 * length c.args.out.now = omega (arith, c.requires.within, ap length codes, length-append a b) in
    two_laid a b c.args.at c.write_unit-middle.result c.args.out.now c.write_unit-middle.new.out c.write_unit-in-Stereo.new.out room
    c.write_unit-middle.ensures.bits c.write_unit-middle.ensures.place c.write_unit-in-Stereo.ensures.bits
    ∙ ap (λ l. laid_over c.args.at l (bits_of c.args.out.now)) (sym codes)
