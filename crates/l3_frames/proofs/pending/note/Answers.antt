use Rattle.std.proofs.Common.{◌≡◌, ◌-◌, ◌*◌, ◌++◌, ◌∷◌, [], length, replicate, arith, ap, ◌∙◌, refl, add-one, length-append, ℕ, false}
use Rattle.std.proofs.lemmas.List.{length-replicate}
use Rattle.l3_bits.specs.Bits.{bits_of}
use Rattle.l3_base.specs.Lengths.{slots_before, slot_bytes_of}
use Rattle.l3_stream.specs.Frames.{code_bits}
use Rattle.l3_stream.specs.Tape.{start_of}
use Rattle.l3_stream.proofs.Tape.{slots-suc}
use Rattle.l3_stream.proofs.WholeFrame.{code_bits-main_data}
use Rattle.l3_frames.specs.Laying.{laid_over}
use Rattle.l3_frames.specs.Pending.{writing_of, given_bytes}
use Rattle.l3_frames.proofs.SlotLemmas.{slots-bound}
use Rattle.l3_frames.proofs.TapeLemmas.{start-is}
use Rattle.l3_frames.proofs.NotedLemmas.{has_place}
use Rattle.l3_frames.proofs.pending.note.Goals as goal

pub lay-requires-clause-within : goal.lay-requires-clause-within
lay-requires-clause-within c =
    let p = c.args.pending.now in
    let place = has_place (writing_of p false) c.args.frame.now c.requires.kept.sound c.requires.fits in
    omega (
      arith,
      place.byte,
      place.fits,
      ap length c.append.ensures,
      length-append p.slots (replicate c.slot_bytes-slot.result 0),
      length-replicate {A = ℕ} c.slot_bytes-slot.result 0,
      c.slot_bytes-slot.ensures.value,
      ap length c.bytes.ensures.value,
      c.from-begin.ensures,
    )

pub overflow_mul-pending : goal.overflow_mul-pending
overflow_mul-pending c = omega (arith, slots-bound c.args.pending.now.settings c.args.pending.now.frames, c.requires.kept.before, c.requires.count)

pub overflow_add-pending : goal.overflow_add-pending
overflow_add-pending c = omega (arith, slots-bound c.args.pending.now.settings c.args.pending.now.frames, c.requires.kept.before, c.requires.count, c.main_data_length.ensures.limit)

pub overflow_add-pending-2 : goal.overflow_add-pending-2
overflow_add-pending-2 c = omega (arith, slots-bound c.args.pending.now.settings c.args.pending.now.frames, c.requires.kept.before, c.requires.count, c.slot_bytes-slot.ensures.range, c.from.ensures)

pub returns-clause-noted : goal.returns-clause-noted
returns-clause-noted c =
    let p = c.args.pending.now in
    let f = c.args.frame.now in
    let w = writing_of p false in
    let place = has_place w f c.requires.kept.sound c.requires.fits in
    let start = start-is p.settings p.frames f.begin in
    let code = code_bits p.settings f in
    let at : 8 * (length c.bytes.result.now - c.from-begin.result) ≡ start_of p.settings p.frames f.begin - 8 * given_bytes w = omega (arith, place.byte, place.is, ap length c.bytes.ensures.value, c.from-begin.ensures) in
    let longer : c.append.new.self ≡ p.slots ++ replicate (slot_bytes_of p.settings p.frames) 0 = c.append.ensures ∙ ap (λ k. p.slots ++ replicate k 0) c.slot_bytes-slot.ensures.value in
    record {
      settings = refl;
      frames = refl;
      end = omega (arith, start, c.requires.kept.before, c.from-begin.ensures, c.main_data_length.ensures.value, code_bits-main_data p.settings f c.requires.fits.coded);
      heads = c.push.ensures.items ∙ ap (λ h. p.heads.items ++ h ∷ []) c.of.ensures;
      slots = c.lay.ensures.bits ∙ (ap (λ k. laid_over k code (bits_of c.append.new.self)) at ∙ ap (λ l. laid_over (start_of p.settings p.frames f.begin - 8 * given_bytes w) code (bits_of l)) longer);
      bytes = c.lay.ensures.bytes;
    }

pub returns-clause-before : goal.returns-clause-before
returns-clause-before c =
    let p = c.args.pending.now in
    omega (arith, slots-suc p.settings p.frames, ap (slots_before p.settings) (add-one p.frames), c.requires.kept.before, c.from.ensures, c.slot_bytes-slot.ensures.value)
