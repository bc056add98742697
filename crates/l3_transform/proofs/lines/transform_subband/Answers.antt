use Rattle.std.proofs.Common.{pos, ◌+ℤ◌, ◌*ℤ◌, ap, ◌∙◌}
use Rattle.l3_base.specs.Slots.{slot_in}
use Rattle.l3_base.specs.Lists.{entry}
use Rattle.l3_base.specs.Sums.{floor_div}
use Rattle.l3_transform.specs.Spectrum.{windowed}
use Rattle.l3_transform.proofs.SlotFoldLaw.{line_of_fold}
use Rattle.l3_transform.proofs.SubbandLines.{line_from-same}
use Rattle.l3_transform.proofs.lines.transform_subband.Goals as goal

pub returns-clause-lines : goal.returns-clause-lines
returns-clause-lines c = λ m lt.
    c.set_lines.ensures.lines m lt
    ∙ (ap (λ s. floor_div (pos 2 *ℤ s +ℤ pos 294912) 589824) (c.line_sums.ensures.value m lt)
    ∙ (line_of_fold (entry c.fold_slots-f.result) (entry c.windowed_slots-z.result) m lt c.fold_slots-f.ensures.value
    ∙ line_from-same (entry c.windowed_slots-z.result) (windowed (slot_in c.args.slots.now c.args.band)) m c.windowed_slots-z.ensures.value))
