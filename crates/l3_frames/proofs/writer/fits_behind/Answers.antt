use Rattle.std.proofs.Common.{◌≡◌, ◌+◌, ◌-◌, ◌*◌, false, true, arith, sym, ◌∙◌}
use Rattle.std.proofs.lemmas.Bool.{leb-true, le-leb}
use Rattle.l3_stream.proofs.Tape.{slots-suc}
use Rattle.l3_stream.proofs.WholeFrame.{code_bits-main_data}
use Rattle.l3_frames.proofs.SlotLemmas.{slots-bound}
use Rattle.l3_frames.proofs.TapeLemmas.{start-is}
use Rattle.l3_frames.proofs.writer.fits_behind.Goals as goal

pub overflow_mul-start : goal.overflow_mul-start
overflow_mul-start c = omega (arith, slots-bound c.args.pending.now.settings c.args.pending.now.frames, c.requires.kept.before, c.requires.count)

pub overflow_add-result : goal.overflow_add-result
overflow_add-result c = omega (arith, slots-bound c.args.pending.now.settings c.args.pending.now.frames, c.requires.kept.before, c.requires.count, c.main_data_length.ensures.limit)

pub overflow_add-result-then-before-start : goal.overflow_add-result-then-before-start
overflow_add-result-then-before-start c = omega (arith, slots-bound c.args.pending.now.settings c.args.pending.now.frames, c.requires.kept.before, c.requires.count, c.slot_bytes.ensures.range, c.from-slot.ensures)

pub overflow_mul-result : goal.overflow_mul-result
overflow_mul-result c = omega (arith, slots-bound c.args.pending.now.settings c.args.pending.now.frames, c.requires.kept.before, c.requires.count, c.slot_bytes.ensures.range, c.from-slot.ensures)

pub returns-then-before-start-clause-fits : goal.returns-then-before-start-clause-fits
returns-then-before-start-clause-fits c = λ yes.
    let p = c.args.pending.now in
    let f = c.args.frame.now in
    let within = leb-true _ _ yes in
    let start = start-is p.settings p.frames f.begin in
    let next = slots-suc p.settings p.frames in
    record {
      coded = c.is_coded.ensures.coded c.if-not-is_coded.false;
      small = omega arith;
      reached = omega (arith, c.requires.kept.before, c.from-begin.ensures);
      after = omega (arith, start, c.requires.kept.before, c.from-begin.ensures, c.if-before-start.true);
      within = omega (arith, start, next, c.requires.kept.before, c.from-begin.ensures, within, c.main_data_length.ensures.value, code_bits-main_data p.settings f (c.is_coded.ensures.coded c.if-not-is_coded.false), c.from-slot.ensures, c.slot_bytes.ensures.value);
    }

pub returns-then-before-start-clause-refused : goal.returns-then-before-start-clause-refused
returns-then-before-start-clause-refused c = λ no fit.
    let p = c.args.pending.now in
    let f = c.args.frame.now in
    let start = start-is p.settings p.frames f.begin in
    let next = slots-suc p.settings p.frames in
    let yes = le-leb (8 * (p.before - c.from-begin.result) + c.main_data_length.result) (8 * (p.before + c.from-slot.result))
    (omega (arith, start, next, c.requires.kept.before, c.from-begin.ensures, fit.within, c.main_data_length.ensures.value, code_bits-main_data p.settings f (c.is_coded.ensures.coded c.if-not-is_coded.false), c.from-slot.ensures, c.slot_bytes.ensures.value)) in
    let bad : false ≡ true = sym no ∙ yes in
    cc

pub returns-else-before-start-clause-refused : goal.returns-else-before-start-clause-refused
returns-else-before-start-clause-refused c = λ no fit.
    let p = c.args.pending.now in
    let f = c.args.frame.now in
    let start = start-is p.settings p.frames f.begin in
    absurd (omega (arith, start, c.requires.kept.before, c.from-begin.ensures, fit.after, c.if-before-start.false))
