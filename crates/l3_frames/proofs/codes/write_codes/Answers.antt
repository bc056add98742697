use Rattle.std.proofs.Common.{◌≡◌, ◌+◌, ◌≤◌, ◌*◌, ◌<◌, ◌^◌, length, arith, rules, ap, sym, ◌∙◌, length-append, get_or, []}
use Rattle.std.proofs.lemmas.List.Elements.{All-from_get_or}
use Rattle.l3_bits.specs.Bits.{bits_of}
use Rattle.l3_stream.proofs.Shapes.{frame_coded}
use Rattle.l3_frames.specs.Laying.{granule_bits, laid_over}
use Rattle.l3_frames.proofs.CodeLemmas.{frame_bits, two_laid}
use Rattle.l3_frames.proofs.codes.write_codes.Goals as goal

pub write_granule-middle-requires-clause-coded : goal.write_granule-middle-requires-clause-coded
write_granule-middle-requires-clause-coded c =
    let two : length c.args.frame.now.units ≡ 2 = search rules in
    (frame_coded c.args.settings.now c.args.frame.now two c.requires.coded).first

pub write_granule-middle-requires-clause-within : goal.write_granule-middle-requires-clause-within
write_granule-middle-requires-clause-within c =
    let st = c.args.settings.now in
    let f = c.args.frame.now in
    let two : length f.units ≡ 2 = search rules in
    omega (arith, c.requires.within, ap length (frame_bits st f two c.requires.coded), length-append (granule_bits st st.channels (get_or f.units 0 [])) (granule_bits st st.channels (get_or f.units 1 [])))

pub write_granule-requires-clause-coded : goal.write_granule-requires-clause-coded
write_granule-requires-clause-coded c =
    let two : length c.args.frame.now.units ≡ 2 = search rules in
    (frame_coded c.args.settings.now c.args.frame.now two c.requires.coded).second

pub write_granule-requires-clause-within : goal.write_granule-requires-clause-within
write_granule-requires-clause-within c =
    let st = c.args.settings.now in
    let f = c.args.frame.now in
    let two : length f.units ≡ 2 = search rules in
    let size : length c.write_granule-middle.new.out ≡ length c.args.out.now = search rules in
    omega (arith, size, c.requires.within, c.write_granule-middle.ensures.place, ap length (frame_bits st f two c.requires.coded), length-append (granule_bits st st.channels (get_or f.units 0 [])) (granule_bits st st.channels (get_or f.units 1 [])))

pub returns-clause-bits : goal.returns-clause-bits
returns-clause-bits c =
    let st = c.args.settings.now in
    let f = c.args.frame.now in
    let two : length f.units ≡ 2 = search rules in
    let a = granule_bits st st.channels (get_or f.units 0 []) in
    let b = granule_bits st st.channels (get_or f.units 1 []) in
    let room : c.args.at + (length a + length b) ≤ 8 * length c.args.out.now = omega (arith, c.requires.within, ap length (frame_bits st f two c.requires.coded), length-append a b) in
    two_laid a b c.args.at c.write_granule-middle.result c.args.out.now c.write_granule-middle.new.out c.write_granule.new.out room
    c.write_granule-middle.ensures.bits c.write_granule-middle.ensures.place c.write_granule.ensures.bits
    ∙ ap (λ l. laid_over c.args.at l (bits_of c.args.out.now)) (sym (frame_bits st f two c.requires.coded))

pub returns-clause-bytes : goal.returns-clause-bytes
returns-clause-bytes c = All-from_get_or (λ byte. byte < 2 ^ 8) c.write_granule.new.out 0 (λ i lt. omega (arith, c.type_inv.out i))
